-- The laws of attributes and expressions give what completeness and reprint of types suppose of them, however high the trees that hold them.
use Rattle.std.proofs.Common.{◌≡◌, Bool, true, false, List, Option, sym, ◌∙◌, subst}
use Rattle.syn_ty.proofs.ty_laws.words.Tokens.{Span, Print, Reader, none, Scope, Stream, Toks, done, row}
use Rattle.syn_ty.proofs.ty_laws.words.Paths.{NormalValues, ReadValues, SpelledValues, Values}
use Rattle.syn_ty.proofs.ty_laws.words.Types.{sees_const}
use Rattle.token_core.specs.Stream.{started}
use Rattle.token_core.specs.Tokens as token
use Rattle.token_core.proofs.Steps.{Reads_to}
use Rattle.token_core.proofs.Took.{at}
use Rattle.token_core.proofs.Turns.{same_pair}
use Rattle.syn_path.specs.Lengths.{BareLaws, LengthLaws}
use Rattle.syn_path.specs.Whole.{Answers, AttributesMeet, ConstsMeet, Fewer, NotMore, ReprintsFront}
use Rattle.syn_path.proofs.Words.{AgainFront}
use Rattle.syn_ty.proofs.ty_laws.reprint.Knot.{GivenAgain}
use Rattle.syn_ty.proofs.ty_laws.complete.Knot.{GivenMeets}
use Rattle.syn_ty.proofs.ty_laws.complete.Within.{Less, NoMore}

-- ---- the words of both layers

fewer : {l k : Toks} → Fewer l k → Less l k
fewer h = record { lighter = h.lighter; shorter = h.shorter }

no_more : {l k : Toks} → NotMore l k → NoMore l k
no_more h = record { light = h.light; short = h.short }

answered : {A : Type 0} {p : Reader A} {x : A} {s : Stream} {k : Toks} → Answers p x s k → Reads_to p x s.rest k s.left s.last s.scope
answered h = record { last = h.last; reads = h.reads }

front : {A : Type 0} {S : A → Toks → Toks → Type 0} {n : A → A} {pr : A → Print} {x : A} {l r : Toks} → ReprintsFront S n pr x l r → AgainFront S n pr x l r
front h = record { spelt = h.again; visible = h.visible; seen = h.seen; stays = h.stays; same = h.same }

-- ---- lengths

module _ {E : Type 0} {lens : Reader E} {spells : E → Toks → Type 0} {normal : E → E} {print : E → Print} (laws : LengthLaws lens spells normal print) where
  -- two lengths that spell a list are one
  one_length : (x y : E) (l : Toks) → spells x l → spells y l → x ≡ y
  one_length x y l i j =
      let a = laws.complete (started none l) x i in
      let b = laws.complete (started none l) y j in
      (same_pair x y a.0 b.0 (sym a.1 ∙ b.1)).0

  -- both normal forms spell the one print
  len_stays : (x : E) (l : Toks) → spells x l → normal (normal x) ≡ normal x
  len_stays x l i =
      let a = laws.reprint x l i in
      let b = laws.reprint (normal x) (row (print x) done) a.again in
      one_length (normal (normal x)) (normal x) (row (print x) done) (subst (λ z. spells (normal (normal x)) (row z done)) a.same b.again) a.again

-- ---- attributes

module _ {A : Type 0} {attrs : Reader (List A)} {shown : Bool → List A → Toks → Toks → Type 0} {na : List A → List A} {pa : List A → Print} (whole : AttributesMeet attrs shown na pa) where
  pub attributes_met : (x : List A) (l k : Toks) (f : Option Span) (e : Span) (sc : Scope) → shown true x l k → token.sees_pound k ≡ false → Reads_to attrs x l k f e sc
  attributes_met x l k f e sc i h = answered (whole.met (at l f e sc) x k i h)

  pub attributes_again : (x : List A) (l r : Toks) → shown false x l r → AgainFront (shown true) na pa x l r
  attributes_again x l r i = front (whole.reprint x l r i)

-- ---- with expressions in their places

module _ {A E : Type 0} {attrs : Reader (List A)} {values : ReadValues E} {shown : Bool → List A → Toks → Toks → Type 0} {spelt : SpelledValues E} {na : List A → List A} {ne : NormalValues E} {pa : List A → Print} {pe : Values E}
    (whole : AttributesMeet attrs shown na pa) (consts : ConstsMeet values.const_argument spelt.const_argument spelt.const_default ne.const_argument pe.const_argument) (lens : LengthLaws values.len spelt.len ne.len pe.len) where
  pub given_meets : GivenMeets attrs values shown spelt
  unfolding sees_const
  given_meets = record {
    attrs_met = attributes_met whole;
    attrs_begin = whole.begins;
    attrs_light = λ x l k i. no_more (whole.light x l k i);
    len = lens.complete;
    argument = λ x l k f e sc i. answered (consts.argument_met (at l f e sc) x k i);
    argument_begins = λ x l k i. (consts.argument_begins x l k i, fewer (consts.argument_less x l k i));
    default = λ x l k f e sc i. answered (consts.default_met (at l f e sc) x k i);
    default_less = λ x l k i. fewer (consts.default_less x l k i);
  }

  pub given_again : BareLaws na pa → GivenAgain na ne pa pe shown spelt
  given_again bare = record {
    attrs = attributes_again whole;
    own = bare.stays;
    silent = bare.silent;
    len = lens.reprint;
    len_stays = len_stays lens;
    argument = λ x l r i. front (consts.argument_reprint x l r i);
    attrs_begin = whole.shows;
    moves = record { attrs_move = whole.moves; argument_moves = consts.argument_moves; default_moves = consts.default_moves; attrs_end = whole.ends; argument_ends = consts.argument_ends; default_ends = consts.default_ends };
    default = λ x l r i. front (consts.default_reprint x l r i);
  }
