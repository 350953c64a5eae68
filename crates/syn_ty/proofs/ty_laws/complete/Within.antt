-- What is known of the reads that a form holds: where a list spells a tree clearly and what follows does not go on with it, the read answers that tree and takes no more.
use Rattle.std.specs.Prelude.{is_some}
use Rattle.std.proofs.Common.{◌≡◌, ◌⊎◌, ◌&&◌, ◌||◌, not, ℕ, ◌<◌, ◌≤◌, Bool, true, false, List, Option, Ok}
use Rattle.syn_ty.proofs.ty_laws.words.Tokens.{Span, Parenthesis, Brace, Bracket, sees_lifetime, size, Reader, any_text, is_done, sees_group, sees_word, Stream, Scope, Toks}
use Rattle.syn_ty.proofs.ty_laws.words.Paths.{sees_sep, UsesUp, ReadValues, PathStyle, AsWritten}
use Rattle.syn_ty.proofs.ty_laws.words.Forms.{BoundPlace, ParamPlace, TypePlace, sees_name, sees_bound, ahead, goes_on, sees_arguments, allows_const, allows_plus}
use Rattle.syn_ty.proofs.ty_laws.words.Types.{IsAnyPath, IsPath, ends_constraint, sees_const, sees_lone_lifetime, Manner, clearly, End, Parts, Readers, a_bound, a_param, a_type, an_argument, some_arguments, sees_call, GenericArgument, GenericParam, Path, PathArguments, QSelf, TypeParamBound, TypeTree}
use Rattle.token_core.specs.Tokens as token
use Rattle.token_core.proofs.Steps.{Reads_to}
use Rattle.token_core.proofs.Took.{at}
use Rattle.syn_path.specs.path.Reading.{sees_angle}
use Rattle.syn_forms.proofs.nested_laws.Ahead.{weight}
use Rattle.syn_ty.specs.path.Reading as reads

-- ---- what may follow

-- Nothing that a type or a bound goes on with, whatever it is.
pub record Stops (k : Toks) : Type 0 where
  pub no_sep : sees_sep k ≡ false
  pub no_angle : sees_angle k ≡ false
  pub no_call : sees_call k ≡ false
  pub no_arrow : token.sees_r_arrow k ≡ false
  pub no_question : token.sees_question k ≡ false
  pub no_lifetime : sees_lifetime k ≡ false
  pub no_paren : sees_group Parenthesis k ≡ false
  pub no_bracket : sees_group Bracket k ≡ false
  pub no_pound : token.sees_pound k ≡ false

-- And nothing that it goes on with by how it ends.
pub record Fits (d : End) (k : Toks) : Type 0 where
  pub stops : Stops k
  pub no_plus : d.is_open ≡ true → token.sees_plus k ≡ false
  pub no_word : d.in_plus ≡ true → sees_word any_text k ≡ false

-- Nothing that a path goes on with.
pub record PathStops (style : PathStyle) (k : Toks) : Type 0 where
  pub no_more : goes_on k ≡ false
  pub no_arguments : sees_arguments style k ≡ false

-- After a parameter: a comma, a `>`, or the end.
abbrev pub ends_param : Toks → Bool
ends_param k = ends_constraint k || is_done k

-- ---- how much is left

-- fewer tokens
pub record Less (l k : Toks) : Type 0 where
  pub lighter : weight k < weight l
  pub shorter : size k < size l

-- no more tokens
pub record NoMore (l k : Toks) : Type 0 where
  pub light : weight k ≤ weight l
  pub short : size k ≤ size l

-- ---- what each begins with

-- a type, before what follows it
pub record TypeBegins (l k : Toks) : Type 0 where
  pub there : is_done l ≡ false
  pub no_gt : token.sees_gt l ≡ false
  pub no_mut : token.sees_mut l ≡ false
  pub no_pound : token.sees_pound l ≡ false
  pub no_dots : token.sees_dot_dot_dot l ≡ false
  pub no_const : sees_const l ≡ false
  pub no_lone : sees_lone_lifetime l ≡ false
  -- no name stands before a `:`, where none follows
  pub no_name : token.sees_colon k ≡ false → (own : Bool) → sees_name own l ≡ false

-- a bound in a place: what begins a further one, and no end of a list of bounds
pub record BoundBegins (p : BoundPlace) (l : Toks) : Type 0 where
  pub there : is_done l ≡ false
  pub sees : sees_bound (allows_const p) l ≡ true
  pub no_comma : token.sees_comma l ≡ false
  pub no_gt : token.sees_gt l ≡ false
  pub no_equals : token.sees_equals l ≡ false
  pub no_semi : token.sees_semi l ≡ false
  pub no_brace : sees_group Brace l ≡ false
  -- a `:` is that of `::`
  pub no_colon : (token.sees_colon l && not (token.sees_path_sep l)) ≡ false

-- a parameter and an argument
pub record ItemBegins (l : Toks) : Type 0 where
  pub there : is_done l ≡ false
  pub no_gt : token.sees_gt l ≡ false

module _ {A E : Type 0} where
  pub record Firsts (part : Manner → Parts A E) : Type 0 where
    pub ty : (p : TypePlace) (d : End) (x : TypeTree A E) (l k : Toks) → (part clearly).ty p d x l k → TypeBegins l k × Less l k
    pub bound : (p : BoundPlace) (d : End) (x : TypeParamBound A E) (l k : Toks) → (part clearly).bound p d x l k → BoundBegins p l × Less l k
    pub param : (p : ParamPlace) (x : GenericParam A E) (l k : Toks) → (part clearly).param p x l k → ItemBegins l × Less l k
    pub argument : (x : GenericArgument A E) (l k : Toks) → (part clearly).argument x l k → ItemBegins l × Less l k
    pub arguments : (x : PathArguments A E) (l k : Toks) → (part clearly).arguments x l k → (sees_arguments AsWritten l ≡ true) × Less l k

  -- ---- the five points, where less than a limit is left

  pub record Meets (r : Readers A E) (part : Manner → Parts A E) (limit : ℕ) : Type 0 where
    pub ty : (p : TypePlace) (d : End) (x : TypeTree A E) (l k : Toks) (f : Option Span) (e : Span) (sc : Scope) → ahead (at l f e sc) < limit → (part clearly).ty p d x l k → Fits d k → (allows_plus p ≡ true → token.sees_plus k ≡ false) → Reads_to (r (a_type p)) x l k f e sc
    pub bound : (p : BoundPlace) (d : End) (x : TypeParamBound A E) (l k : Toks) (f : Option Span) (e : Span) (sc : Scope) → ahead (at l f e sc) < limit → (part clearly).bound p d x l k → Fits d k → Reads_to (r (a_bound p)) x l k f e sc
    pub param : (p : ParamPlace) (x : GenericParam A E) (l k : Toks) (f : Option Span) (e : Span) (sc : Scope) → ahead (at l f e sc) < limit → (part clearly).param p x l k → ends_param k ≡ true → Reads_to (r (a_param p)) x l k f e sc
    pub argument : (x : GenericArgument A E) (l k : Toks) (f : Option Span) (e : Span) (sc : Scope) → ahead (at l f e sc) < limit → (part clearly).argument x l k → ends_constraint k ≡ true → Reads_to (r an_argument) x l k f e sc
    pub arguments : (x : PathArguments A E) (l k : Toks) (f : Option Span) (e : Span) (sc : Scope) → ahead (at l f e sc) < limit → (part clearly).arguments x l k → Reads_to (r some_arguments) x l k f e sc
    pub firsts : Firsts part

  -- ---- paths that begin where at most a limit is left

  pub record PathsMeet (r : Readers A E) (part : Manner → Parts A E) (limit : ℕ) : Type 0 where
    pub path : (style : PathStyle) (x : Path A E) (l k : Toks) (f : Option Span) (e : Span) (sc : Scope) → ahead (at l f e sc) ≤ limit → IsPath part clearly style x l k → PathStops style k → Reads_to (reads.path r style) x l k f e sc
    pub any : (style : PathStyle) (o : Option (QSelf A E)) (x : Path A E) (l k : Toks) (f : Option Span) (e : Span) (sc : Scope) → ahead (at l f e sc) ≤ limit → IsAnyPath part clearly style o x l k → PathStops style k →
        (is_some o ≡ true → sees_sep k ≡ false) → Reads_to (reads.maybe_qualified r style) (o, x) l k f e sc

  -- ---- attributes, and expressions in their places

  pub record SuppliedMeets (attrs : Reader (List A)) (values : ReadValues E) (part : Manner → Parts A E) : Type 0 where
    pub attrs_met : (x : List A) (l k : Toks) (f : Option Span) (e : Span) (sc : Scope) → (part clearly).attrs x l k → token.sees_pound k ≡ false → Reads_to attrs x l k f e sc
    pub attrs_begin : (x : List A) (l k : Toks) → (part clearly).attrs x l k → (l ≡ k) ⊎ (token.sees_pound l ≡ true)
    pub attrs_light : (x : List A) (l k : Toks) → (part clearly).attrs x l k → NoMore l k
    pub len : (s : Stream) (x : E) → (part clearly).len x s.rest → (t : Stream) × (values.len s ≡ Ok (x, t)) × UsesUp s t
    pub argument : (x : E) (l k : Toks) (f : Option Span) (e : Span) (sc : Scope) → (part clearly).const_argument x l k → Reads_to values.const_argument x l k f e sc
    pub argument_begins : (x : E) (l k : Toks) → (part clearly).const_argument x l k → (sees_const l ≡ true) × Less l k
    pub default : (x : E) (l k : Toks) (f : Option Span) (e : Span) (sc : Scope) → (part clearly).const_default x l k → Reads_to values.const_argument x l k f e sc
    pub default_less : (x : E) (l k : Toks) → (part clearly).const_default x l k → Less l k
