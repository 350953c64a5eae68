-- A bound in its place, spelt clearly, is what its read answers and all that it takes: a lifetime, a capture, or a trait bound, also in parentheses.
use Rattle.std.proofs.Common.{◌≡◌, ℕ, ◌≤◌, true, false, [], Option, Some, None, Ok, refl, ap, arith}
use Rattle.syn_ty.proofs.ty_laws.words.Tokens.{DelimSpan, Span, Paren, Parenthesis, sees_lifetime, sees_group, sees_mark, sees_word, none, IsMark, is_word, Scope, Toks, done, group}
use Rattle.syn_ty.proofs.ty_laws.words.Forms.{BoundPlace, ahead, allows_const}
use Rattle.syn_ty.proofs.ty_laws.words.Types.{PreciseCapture, out-roll-TraitBoundOf, TraitBoundModifiers, IsCapture, a_capture, IsFor, IsTrait, IsTraitBound, a_trait_bound, IsBound, a_lifetime_bound, a_bare_bound, a_bound_in_parens, a_capture_bound, held_bound, trait_bound_of, binder, trait_in, Sep, angle_of, parenthesized, IsParens, Manner, clearly, End, Parts, Readers, sees_call, IsOptional, BoundLifetimes, Parenthesized, Path, TraitBound, TypeParamBound}
use Rattle.token_core.specs.Groups as groups
use Rattle.token_core.specs.Tokens as token
use Rattle.token_core.proofs.Steps.{link, chosen, Reads_to}
use Rattle.token_core.proofs.Took.{at, leaves_none}
use Rattle.token_core.proofs.WordSpells.{lifetime_complete, lifetime_seen}
use Rattle.syn_forms.specs.places.Reading.{allows_capture}
use Rattle.syn_forms.proofs.groups_laws.Complete.{content, content_ahead, reads_inside}
use Rattle.syn_ty.specs.declared.generics.TypeParamBoundOf.TheVariants as b
use Rattle.syn_ty.specs.declared.path.PathArgumentsOf.TheVariants as a
use Rattle.syn_ty.specs.generics.Params.{held_layer}
use Rattle.syn_ty.specs.generics.Reading as reading
use Rattle.syn_ty.proofs.ty_laws.complete.Capture.{capture_met}
use Rattle.syn_ty.proofs.ty_laws.complete.Within.{Fits, Meets, PathsMeet}
use Rattle.syn_ty.proofs.ty_laws.complete.Traits.{trait_in_met, trait_named}

-- nothing follows what is all of a content
pub done_fits : (d : End) → Fits d done
unfolding sees_mark sees_lifetime sees_group sees_word sees_call
done_fits d = record { stops = record { no_sep = refl; no_angle = refl; no_call = refl; no_arrow = refl; no_question = refl; no_lifetime = refl; no_paren = refl; no_bracket = refl; no_pound = refl }; no_plus = λ h. refl; no_word = λ h. refl }

-- a capture begins with `use`
capture_begins : (x : PreciseCapture) (l k : Toks) → IsCapture true x l k → (sees_lifetime l ≡ false) × (token.sees_use l ≡ true)
unfolding sees_lifetime sees_word
capture_begins x l k (a_capture is_word g h p) = (refl, refl)

parens_seen : (s : DelimSpan) (c k : Toks) → sees_group Parenthesis (group Parenthesis s c k) ≡ true
unfolding sees_group
parens_seen s c k = refl

group_bound : (s : DelimSpan) (c k : Toks) → (sees_lifetime (group Parenthesis s c k) ≡ false) × (token.sees_use (group Parenthesis s c k) ≡ false)
unfolding sees_lifetime sees_word
group_bound s c k = (refl, refl)

less_inside : (s : DelimSpan) (c k : Toks) (f : Option Span) (e : Span) (sc : Scope) (limit : ℕ) → ahead (at (group Parenthesis s c k) f e sc) ≤ limit → ahead (content Parenthesis s c k f e sc) ≤ limit
less_inside s c k f e sc limit h = let g = content_ahead Parenthesis groups.paren_name s c k f e sc in omega (arith, h, g)

module _ {A E : Type 0} (r : Readers A E) (part : Manner → Parts A E) (limit : ℕ) (m : Meets r part limit) (paths : PathsMeet r part limit)
    (pair : (b : Option Sep) (o : token.Lt) (g : token.Gt) (l n j k : Toks) → IsOptional (IsMark true) b l n → IsMark true o n j → IsMark true g j k → (part clearly).arguments (a.AngleBracketed (angle_of b o ([], []) g)) l k)
    (parens_met : (d : End) (x : Parenthesized A E) (l k : Toks) (f : Option Span) (e : Span) (sc : Scope) → ahead (at l f e sc) ≤ limit → IsParens part clearly d x l k → Fits d k → Reads_to (parenthesized r) x l k f e sc)
    (for_met : (x : BoundLifetimes A E) (l k : Toks) (f : Option Span) (e : Span) (sc : Scope) → ahead (at l f e sc) ≤ limit → IsFor part clearly x l k → Reads_to (binder r) x l k f e sc) where
  abbrev For : Type 0
  For = Option (BoundLifetimes A E)

  abbrev Trait : Type 0
  Trait = TraitBound A E

  -- ---- bounds in their places

  held_is : (t : Paren) (o : For) (x : TraitBoundModifiers) (q : Option token.Question) (p : Path A E) → held_bound t (trait_bound_of None o x q p) ≡ trait_bound_of (Some t) o x q p
  held_is t o x q p = ap (held_layer t) (out-roll-TraitBoundOf A E (record { paren_token = None; lifetimes = o; modifiers = x; maybe = q; path = p }))

  module _ (place : BoundPlace) where
    bare_met : (d : End) (x : Trait) (l k : Toks) (f : Option Span) (e : Span) (sc : Scope) → ahead (at l f e sc) ≤ limit → IsTraitBound part clearly (allows_const place) d x l k → Fits d k → Reads_to (reading.trait_in_place r place) (b.Trait x) l k f e sc
    unfolding reading.trait_in_place
    bare_met d x l k f e sc h i o =
        let s = trait_named r part limit m paths pair parens_met for_met (allows_const place) d x l k i in
        let w = trait_in_met r part limit m paths pair parens_met for_met (allows_const place) d x l k f e sc h i o in
        record { last = w.last; reads = chosen (sees_group Parenthesis l) false _ _ (at l f e sc) _ s.no_paren (link _ w.reads refl) }

    in_parens_met : (d : End) (n : For) (x : TraitBoundModifiers) (q : Option token.Question) (p : Path A E) (s : DelimSpan) (c k : Toks) (f : Option Span) (e : Span) (sc : Scope) → ahead (at (group Parenthesis s c k) f e sc) ≤ limit →
        IsTrait part clearly (allows_const place) d n x q p c done → Reads_to (reading.trait_in_place r place) (b.Trait (trait_bound_of (Some (groups.paren s)) n x q p)) (group Parenthesis s c k) k f e sc
    unfolding reading.trait_in_place
    in_parens_met d n x q p s c k f e sc h i =
        let z = content Parenthesis s c k f e sc in
        let w = trait_in_met r part limit m paths pair parens_met for_met (allows_const place) d (trait_bound_of None n x q p) c done None none z.scope (less_inside s c k f e sc limit h) (a_trait_bound i) (done_fits d) in
        let y = reads_inside Parenthesis groups.paren_name (trait_in r (allows_const place)) (trait_bound_of None n x q p) s c k (at done None w.last z.scope) f e sc w.reads (leaves_none None w.last z.scope refl) in
        record { last = s.closing; reads = chosen (sees_group Parenthesis (group Parenthesis s c k)) true _ _ (at (group Parenthesis s c k) f e sc) _ (parens_seen s c k) (link _ (link _ y refl) (ap (λ u. Ok (b.Trait u, at k f s.closing sc)) (held_is (groups.paren s) n x q p))) }

    capture_in_place_met : (x : PreciseCapture) (l k : Toks) (f : Option Span) (e : Span) (sc : Scope) → allows_capture place ≡ true → IsCapture true x l k → Reads_to (reading.capture_in_place r place) (b.PreciseCapture x) l k f e sc
    unfolding reading.capture_in_place
    capture_in_place_met x l k f e sc g i =
        let w = capture_met x l k f e sc i in
        record { last = w.last; reads = link _ w.reads (chosen (allows_capture place) true _ _ (at k f w.last sc) _ g refl) }

    -- what is neither a lifetime nor a capture
    trait_turn : (x : TypeParamBound A E) (l k : Toks) (f : Option Span) (e : Span) (sc : Scope) → sees_lifetime l ≡ false → token.sees_use l ≡ false → Reads_to (reading.trait_in_place r place) x l k f e sc → Reads_to (reading.bound_step r place) x l k f e sc
    unfolding reading.bound_step
    trait_turn x l k f e sc h g w = record { last = w.last; reads = chosen (sees_lifetime l) false _ _ (at l f e sc) _ h (chosen (token.sees_use l) false _ _ (at l f e sc) _ g w.reads) }

    -- a turn of the knot
    pub bound_met : (d : End) (x : TypeParamBound A E) (l k : Toks) (f : Option Span) (e : Span) (sc : Scope) → ahead (at l f e sc) ≤ limit → IsBound part clearly place d x l k → Fits d k → Reads_to (reading.bound_step r place) x l k f e sc
    unfolding reading.bound_step
    bound_met d x l k f e sc h (a_lifetime_bound {x = y} i) o =
        let w = lifetime_complete y l k f e sc i in
        record { last = w.last; reads = chosen (sees_lifetime l) true _ _ (at l f e sc) _ (lifetime_seen y l k i) (link _ w.reads refl) }
    bound_met d x l k f e sc h (a_bare_bound {x = y} i) o = let s = trait_named r part limit m paths pair parens_met for_met (allows_const place) d y l k i in trait_turn x l k f e sc s.no_lifetime s.no_use (bare_met d y l k f e sc h i o)
    bound_met d x l k f e sc h (a_bound_in_parens {e = u} {o = n} {x = y} {q = q} {p = p} {s = s} {c = c} i) o = let g = group_bound s c k in trait_turn x l k f e sc g.0 g.1 (in_parens_met u n y q p s c k f e sc h i)
    bound_met d x l k f e sc h (a_capture_bound {x = y} g i) o =
        let w = capture_in_place_met y l k f e sc g i in
        record { last = w.last; reads = chosen (sees_lifetime l) false _ _ (at l f e sc) _ (capture_begins y l k i).0 (chosen (token.sees_use l) true _ _ (at l f e sc) _ (capture_begins y l k i).1 w.reads) }
