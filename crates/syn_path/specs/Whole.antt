-- What completeness and reprint of types ask of attributes before a node and of const arguments: where they spell a list clearly, the read answers them, and their print spells their normal form clearly.
use Rattle.std.specs.Prelude.{◌≡◌, ◌<◌, ◌≤◌, Bool, true, false, List, length, Ok}
use Rattle.std.proofs.Common.{◌⊎◌}
use Rattle.token_core.specs.declared.span.Span.{Span}
use Rattle.token_core.specs.Loops.{size}
use Rattle.token_core.specs.Positions.{items}
use Rattle.token_core.specs.Prints.{Print}
use Rattle.token_core.specs.Reads.{Reader, past}
use Rattle.token_core.specs.Rebuilt.{Visible}
use Rattle.token_core.specs.Stream.{Stream}
use Rattle.token_core.specs.Tokens as token
use Rattle.token_core.specs.Toks.{Toks}
use Rattle.token_core.specs.Trees.{row}
use Rattle.syn_path.specs.Ends.{Calm, Ended, Moved}
use Rattle.syn_path.specs.Lengths.{begins_const}

-- ---- what a read answers, how much it leaves, and what a print spells

-- the read answers the tree, and the stream stands where the second tokens do
pub record Answers {A : Type 0} (p : Reader A) (a : A) (s : Stream) (k : Toks) : Type 0 where
  pub last : Span
  pub reads : p s ≡ Ok (a, past s k last)

-- the second tokens are fewer, with what is in groups and without
pub record Fewer (l k : Toks) : Type 0 where
  pub lighter : length (items k) < length (items l)
  pub shorter : size k < size l

-- or no more
pub record NotMore (l k : Toks) : Type 0 where
  pub light : length (items k) ≤ length (items l)
  pub short : size k ≤ size l

-- The print of a tree spells its normal form, whatever follows; that is its own normal form, and prints the same. It holds no invisible group where the list held none.
pub record ReprintsFront {A : Type 0} (spells : A → Toks → Toks → Type 0) (normal : A → A) (prints : A → Print) (x : A) (l r : Toks) : Type 0 where
  pub again : (k : Toks) → spells (normal x) (row (prints x) k) k
  pub visible : (k : Toks) → Visible l → Visible k → Visible (row (prints x) k)
  pub seen : Visible l → Visible r
  pub stays : normal (normal x) ≡ normal x
  pub same : prints (normal x) ≡ prints x

-- ---- attributes before a node

pub record AttributesMeet {A : Type 0} (reads : Reader (List A)) (spells : Bool → List A → Toks → Toks → Type 0) (normal : List A → List A) (print : List A → Print) : Type 0 where
  -- where they spell a list clearly and no `#` follows, the read answers them
  pub met : (s : Stream) (x : List A) (k : Toks) → spells true x s.rest k → token.sees_pound k ≡ false → Answers reads x s k
  -- there are none, or they begin with `#`
  pub begins : (x : List A) (l k : Toks) → spells true x l k → (l ≡ k) ⊎ (token.sees_pound l ≡ true)
  pub light : (x : List A) (l k : Toks) → spells true x l k → NotMore l k
  pub reprint : (x : List A) (l k : Toks) → spells false x l k → ReprintsFront (spells true) normal print x l k
  -- they print nothing only where nothing is spelt for them, and what they print does not begin with `<`
  pub shows : (x : List A) (l k : Toks) → spells false x l k → (h : Toks) → ((l ≡ k) × (row (print x) h ≡ h)) ⊎ (token.sees_lt (row (print x) h) ≡ false)
  -- before other tokens they are spelt clearly too
  pub moves : (k : Toks) (x : List A) (l r : Toks) → spells true x l r → Calm l → Moved (spells true x) k l r
  -- they end in no mark that is glued to what follows
  pub ends : (x : List A) (l r : Toks) → spells true x l r → Ended r → Ended l

-- ---- const arguments and the defaults of const parameters

pub record ConstsMeet {E : Type 0} (reads : Reader E) (argument default : Bool → E → Toks → Toks → Type 0) (normal : E → E) (print : E → Print) : Type 0 where
  -- where one spells a list clearly, the read answers it, whatever follows
  pub argument_met : (s : Stream) (x : E) (k : Toks) → argument true x s.rest k → Answers reads x s k
  pub argument_begins : (x : E) (l k : Toks) → argument true x l k → begins_const l ≡ true
  pub argument_less : (x : E) (l k : Toks) → argument true x l k → Fewer l k
  pub argument_reprint : (x : E) (l k : Toks) → argument false x l k → ReprintsFront (argument true) normal print x l k
  pub default_met : (s : Stream) (x : E) (k : Toks) → default true x s.rest k → Answers reads x s k
  pub default_less : (x : E) (l k : Toks) → default true x l k → Fewer l k
  pub default_reprint : (x : E) (l k : Toks) → default false x l k → ReprintsFront (default true) normal print x l k
  -- before other tokens they are spelt clearly too, and they end in no mark that is glued to what follows
  pub argument_moves : (k : Toks) (x : E) (l r : Toks) → argument true x l r → Calm l → Moved (argument true x) k l r
  pub argument_ends : (x : E) (l r : Toks) → argument true x l r → Ended r → Ended l
  pub default_moves : (k : Toks) (x : E) (l r : Toks) → default true x l r → Calm l → Moved (default true x) k l r
  pub default_ends : (x : E) (l r : Toks) → default true x l r → Ended r → Ended l
