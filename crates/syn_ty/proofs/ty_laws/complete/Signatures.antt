-- What is returned and arguments in parentheses, spelt clearly, are what their reads answer and all that they take.
use Rattle.std.specs.Prelude.{not}
use Rattle.std.proofs.Common.{◌≡◌, ℕ, ◌<◌, ◌≤◌, Bool, true, false, List, [], Option, Some, None, Ok, refl, ap, arith}
use Rattle.syn_ty.proofs.ty_laws.words.Tokens.{DelimSpan, Span, Parenthesis, sees_lifetime, AreListed, Anywhere, Outcome, Reader, ◌<$>◌, any_text, is_done, sees_group, sees_mark, sees_word, none, last_char, more_chars, IsMark, is_mark, Scope, Toks, done, group}
use Rattle.syn_ty.proofs.ty_laws.words.Forms.{TypePlace, Plus, NoPlus, ahead, allows_plus, in_parens}
use Rattle.syn_ty.proofs.ty_laws.words.Types.{parens_of, return_of, IsReturn, no_output, an_output, IsInput, an_input, IsParens, a_parens, Manner, clearly, End, Parts, Readers, a_type, sees_call, NamedArg, Parenthesized, ReturnType, TypeTree, named_arg_of}
use Rattle.token_core.specs.Groups as groups
use Rattle.token_core.specs.Tokens as token
use Rattle.token_core.proofs.MarkSpells.{mark_complete, mark_seen, mark_size}
use Rattle.token_core.proofs.Steps.{link, chosen, Reads_to}
use Rattle.token_core.proofs.Took.{at, leaves_none}
use Rattle.syn_forms.specs.heads.Reading as heads
use Rattle.syn_forms.specs.inputs.Reading.{made_inputs, signature}
use Rattle.syn_forms.specs.lists.Reading.{made}
use Rattle.syn_forms.proofs.groups_laws.Complete.{content, content_ahead, reads_inside}
use Rattle.syn_forms.proofs.lists_laws.Complete.{listed_here}
use Rattle.syn_forms.proofs.nested_laws.Ahead.{weight, weight-group}
use Rattle.syn_ty.specs.path.Reading as reads
use Rattle.syn_ty.specs.ty.Reading as reading
use Rattle.syn_ty.proofs.ty_laws.complete.Leaves.{comma_light, later, not_more}
use Rattle.syn_ty.proofs.ty_laws.complete.Within.{Fits, Less, Meets, Stops}

-- ---- what may follow an argument

-- Nothing that a type with plus goes on with, however it ends, and no colon.
pub record EndsInput (k : Toks) : Type 0 where
  pub stops : Stops k
  pub no_plus : token.sees_plus k ≡ false
  pub no_word : sees_word any_text k ≡ false
  pub no_colon : token.sees_colon k ≡ false

pub input_fits : (d : End) (k : Toks) → EndsInput k → Fits d k
input_fits d k h = record { stops = h.stops; no_plus = λ q. h.no_plus; no_word = λ q. h.no_word }

pub done_ends : EndsInput done
unfolding sees_mark sees_word sees_group sees_lifetime sees_call
done_ends = record {
  stops = record { no_sep = refl; no_angle = refl; no_call = refl; no_arrow = refl; no_question = refl; no_lifetime = refl; no_paren = refl; no_bracket = refl; no_pound = refl };
  no_plus = refl;
  no_word = refl;
  no_colon = refl;
}

pub comma_ends : (c : token.Comma) (l k : Toks) → IsMark true c l k → EndsInput l
unfolding sees_mark sees_word sees_group sees_lifetime sees_call
comma_ends c l k (is_mark (last_char x)) = record {
  stops = record { no_sep = refl; no_angle = refl; no_call = refl; no_arrow = refl; no_question = refl; no_lifetime = refl; no_paren = refl; no_bracket = refl; no_pound = refl };
  no_plus = refl;
  no_word = refl;
  no_colon = refl;
}

pub comma_there : (c : token.Comma) (l k : Toks) → IsMark true c l k → is_done l ≡ false
unfolding is_done
comma_there c l k (is_mark (last_char x)) = refl

pub nothing_there : is_done done ≡ true
unfolding is_done
nothing_there = refl

-- ---- how much is left

arrow_light : (a : token.RArrow) (l k : Toks) → IsMark true a l k → weight k < weight l
arrow_light a l k (is_mark (more_chars (last_char x))) = omega arith

-- after a group no more is left than at its front
group_light : (s : DelimSpan) (c k : Toks) → weight k < weight (group Parenthesis s c k)
group_light s c k = let h = weight-group Parenthesis s c k in omega (arith, h)

pub after_group : (s : DelimSpan) (c k : Toks) (f g : Option Span) (d e : Span) (sc : Scope) (limit : ℕ) → ahead (at (group Parenthesis s c k) f d sc) ≤ limit → ahead (at k g e sc) < limit
after_group s c k f g d e sc limit h = later (group Parenthesis s c k) k f g d e sc limit (group_light s c k) h

-- less is left in it
pub inside_group : (s : DelimSpan) (c k : Toks) (f : Option Span) (e : Span) (sc : Scope) (limit : ℕ) → ahead (at (group Parenthesis s c k) f e sc) ≤ limit → ahead (content Parenthesis s c k f e sc) < limit
inside_group s c k f e sc limit h = let g = content_ahead Parenthesis groups.paren_name s c k f e sc in omega (arith, h, g)

-- ---- what is made of what was read

pub read_as : {A B : Type 0} (make : A → B) (p : Reader A) (x : A) (y : B) (l k : Toks) (f : Option Span) (e : Span) (sc : Scope) → Reads_to p x l k f e sc → make x ≡ y → Reads_to (make <$> p) y l k f e sc
read_as make p x y l k f e sc w h = record { last = w.last; reads = link _ w.reads (ap (λ z. Ok (z, at k f w.last sc)) h) }

-- ---- parentheses, by their tokens

-- where all of what they hold is read
pub in_parens_met : {A : Type 0} (p : Reader A) (x : A) (s : DelimSpan) (c k : Toks) (f : Option Span) (e : Span) (sc : Scope) → Reads_to p x c done None none (content Parenthesis s c k f e sc).scope →
    in_parens p (at (group Parenthesis s c k) f e sc) ≡ Ok ((groups.paren s, x), at k f s.closing sc)
in_parens_met p x s c k f e sc w =
    let z = content Parenthesis s c k f e sc in
    link _ (reads_inside Parenthesis groups.paren_name p x s c k (at done None w.last z.scope) f e sc w.reads (leaves_none None w.last z.scope refl)) refl

module _ {A E : Type 0} (r : Readers A E) (part : Manner → Parts A E) (limit : ℕ) (m : Meets r part limit) where
  -- ---- what is returned

  -- by its parts
  record Returned (place : TypePlace) (x : ReturnType A E) (l k : Toks) (f : Option Span) (e : Span) (sc : Scope) : Type 0 where
    pub value : Option (token.RArrow × TypeTree A E)
    pub is : return_of value ≡ x
    pub answers : Reads_to (heads.returned (r (a_type place))) value l k f e sc

  returned_met : (place : TypePlace) (d : End) (x : ReturnType A E) (l k : Toks) (f : Option Span) (e : Span) (sc : Scope) → ahead (at l f e sc) ≤ limit → IsReturn part clearly place d x l k → Fits d k →
      (allows_plus place ≡ true → token.sees_plus k ≡ false) → Returned place x l k f e sc
  unfolding heads.arrow
  returned_met place d x l k f e sc h no_output o p =
      record { value = None; is = refl; answers = record { last = e; reads = chosen (token.sees_r_arrow k) false _ _ (at k f e sc) _ o.stops.no_arrow refl } }
  returned_met place d x l k f e sc h (an_output {c = c} {x = y} {m = n} i j) o p =
      let w = mark_complete true {n = 23} {k = 2} refl (omega arith) c l n f e sc i in
      let v = m.ty place d y n k f w.last sc (later l n f f e w.last sc limit (arrow_light c l n i) h) j o p in
      let arrow : ◌≡◌ {A = Outcome (token.RArrow × TypeTree A E)} (heads.arrow (r (a_type place)) (at l f e sc)) (Ok ((c, y), at k f v.last sc)) = link _ w.reads (link _ v.reads refl) in
      record { value = Some (c, y); is = refl; answers = record { last = v.last; reads = chosen (token.sees_r_arrow l) true _ _ (at l f e sc) _ (mark_seen true {n = 23} {k = 2} c l n i) (link _ arrow refl) } }

  pub return_met : (place : TypePlace) (d : End) (x : ReturnType A E) (l k : Toks) (f : Option Span) (e : Span) (sc : Scope) → ahead (at l f e sc) ≤ limit → IsReturn part clearly place d x l k → Fits d k →
      (allows_plus place ≡ true → token.sees_plus k ≡ false) → Reads_to (reading.return_type r place) x l k f e sc
  unfolding reading.return_type
  return_met place d x l k f e sc h i o p =
      let w = returned_met place d x l k f e sc h i o p in
      read_as return_of (heads.returned (r (a_type place))) w.value x l k f e sc w.answers w.is

  -- without plus, whatever follows that
  pub output_met : (d : End) (x : ReturnType A E) (l k : Toks) (f : Option Span) (e : Span) (sc : Scope) → ahead (at l f e sc) ≤ limit → IsReturn part clearly NoPlus d x l k → Fits d k → Reads_to (reading.return_type r NoPlus) x l k f e sc
  output_met d x l k f e sc h i o = return_met NoPlus d x l k f e sc h i o (λ q. cc q)

  -- ---- arguments in parentheses: each is a type alone

  abbrev Input : Type 0
  Input = NamedArg A E

  abbrev Is : Input → Toks → Toks → Type 0
  Is = IsInput part clearly

  abbrev input : Reader Input
  input = made (named_arg_of [] None) (r (a_type Plus))

  pub input_met : (x : Input) (l k : Toks) (f : Option Span) (e : Span) (sc : Scope) → ahead (at l f e sc) < limit → Is x l k → EndsInput k → Reads_to input x l k f e sc
  input_met x l k f e sc h (an_input {e = d} {x = y} i) o =
      let w = m.ty Plus d y l k f e sc h i (input_fits d k o) (λ q. o.no_plus) in
      record { last = w.last; reads = link _ w.reads refl }

  input_there : (x : Input) (l k : Toks) → Is x l k → is_done l ≡ false
  input_there x l k (an_input {e = d} {x = y} i) = (m.firsts.ty Plus d y l k i).0.there

  input_less : (x : Input) (l k : Toks) → Is x l k → Less l k
  input_less x l k (an_input {e = d} {x = y} i) = (m.firsts.ty Plus d y l k i).1

  -- all of what the parentheses hold
  pub parens_inputs_met : (xs : List Input) (cs : List token.Comma) (l : Toks) (f : Option Span) (e : Span) (sc : Scope) → ahead (at l f e sc) < limit → AreListed (λ (_ : Bool). Is) (IsMark true) Anywhere true xs cs l done →
      Reads_to (made_inputs (named_arg_of [] None) (r (a_type Plus))) (xs, cs) l done f e sc
  parens_inputs_met xs cs l f e sc h i =
      listed_here (λ (_ : Bool). is_done) (λ (_ : Bool). input) (λ z. not (is_done z)) token.comma (λ (_ : Bool). Is) (IsMark true) Anywhere EndsInput (λ z. ahead (at z None none sc) < limit) sc
      (λ b x j k u v g a d. input_met x j k a d sc u v g)
      (λ c j k v a d. mark_complete true {n = 4} {k = 1} refl (omega arith) c j k a d sc v)
      (λ c j k v. (comma_ends c j k v, ap not (comma_there c j k v)))
      (λ b x j k v. input_there x j k v)
      (λ b x j k v. (input_less x j k v).shorter)
      (λ c j k v. mark_size true {n = 4} {k = 1} c j k v)
      (λ b x c j k o v g u. let less = (input_less x j k v).lighter in let le = comma_light c k o g in not_more j o None None none none sc limit (omega (arith, less, le)) u)
      true xs cs l done h i
      (record { follows = done_ends; over = ap not nothing_there; stops_there = λ b may. nothing_there }) f e

  pub parens_met : (d : End) (x : Parenthesized A E) (l k : Toks) (f : Option Span) (e : Span) (sc : Scope) → ahead (at l f e sc) ≤ limit → IsParens part clearly d x l k → Fits d k → Reads_to (reads.parenthesized r) x l k f e sc
  unfolding reads.parenthesized signature
  parens_met d x l k f e sc h (a_parens {s = s} {xs = xs} {cs = cs} {o = y} {c = c} {m = n} i j) o =
      let held = parens_inputs_met xs cs c None none (content Parenthesis s c n f e sc).scope (inside_group s c n f e sc limit h) i in
      let group = in_parens_met (made_inputs (named_arg_of [] None) (r (a_type Plus))) (xs, cs) s c n f e sc held in
      let less = after_group s c n f f e s.closing sc limit h in
      let w = returned_met NoPlus d y n k f s.closing sc (omega (arith, less)) j o (λ q. cc q) in
      let parts : Reads_to (signature (named_arg_of [] None) (r (a_type Plus)) (r (a_type NoPlus))) (groups.paren s, (xs, cs), w.value) l k f e sc = record { last = w.answers.last; reads = link _ group (link _ w.answers.reads refl) } in
      read_as (λ p. parens_of p.0 p.1 (return_of p.2)) (signature (named_arg_of [] None) (r (a_type Plus)) (r (a_type NoPlus))) (groups.paren s, (xs, cs), w.value) x l k f e sc parts (ap (parens_of (groups.paren s) (xs, cs)) w.is)
