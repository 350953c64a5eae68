-- The arguments of function types and of pointers to functions.
use Rattle.std.specs.Prelude.{ℕ, zero, suc, Bool, true, false, not, ◌&&◌, ◌||◌, if◌then◌else◌, List, [], ◌∷◌, Option, Some, None}
use Rattle.token_core.specs.declared.error.ErrorKind.TheVariants.{Unexpected}
use Rattle.token_core.specs.declared.token.Paren.{Paren}
use Rattle.token_core.specs.declared.tree.Ident.{Ident}
use Rattle.token_core.specs.Trees.{TokenStream}
use Rattle.token_core.specs.Loops.{Many, size, terminated}
use Rattle.token_core.specs.Positions.{Item}
use Rattle.token_core.specs.Reads.{Reader, ◌>>=◌, ◌<$>◌, pure, peek, optional, refuse, any_text, ident_name, is_done, is_ident, is_text, read_word, second, sees_word, third}
use Rattle.token_core.specs.Toks.{Toks}
use Rattle.syn_forms.specs.groups.Reading.{in_parens}
use Rattle.syn_forms.specs.heads.Reading.{returned}
use Rattle.syn_forms.specs.verbatim.Reading.{begin, since}
use Rattle.token_core.specs.Tokens as token

-- ---- arguments in parentheses, and the output: `(A, B) -> C`

abbrev pub Signature : Type 0 → Type 0 → Type 0
Signature A I = Paren × Many I token.Comma × Option (token.RArrow × A)

-- each argument is made of its type
abbrev pub made_inputs : {A I : Type 0} → (A → I) → Reader A → Reader (Many I token.Comma)
made_inputs make value = terminated is_done (make <$> value) token.comma

module _ {A I : Type 0} (make : A → I) (value output : Reader A) where
  unfoldable pub signature : Reader (Signature A I)
  signature = do
    g ← in_parens (made_inputs make value)
    r ← returned output
    pure (g.0, g.1, r)

-- ---- a name and `:` before an argument

abbrev pub Name : Type 0
Name = Option (Ident × token.Colon)

abbrev pub sees_ident_or_underscore : Toks → Bool
sees_ident_or_underscore l = sees_word is_ident l || token.sees_underscore l

-- An `Ident` or `_`, and in the first argument of a pointer to a function `self`, before a `:` that is not `::`.
unfoldable pub sees_name : Bool → Toks → Bool
sees_name own l = (sees_ident_or_underscore l || (own && token.sees_self_value l)) && (second token.sees_colon l && not (second token.sees_path_sep l))

unfoldable pub name : Reader (Ident × token.Colon)
name = do
  i ← read_word any_text ident_name
  c ← token.colon
  pure (i, c)

unfoldable pub sees_mut_self : Toks → Bool
sees_mut_self l = token.sees_mut l && second token.sees_self_value l

-- a name that is not `self`, or none
abbrev pub is_other : Name → Bool
is_other None = true
is_other (Some n) = not (is_text token.self_value_text n.0.text)

-- ---- an argument after its attributes, over the read of its type, and the type that holds tokens as they were written

module _ {A : Type 0} (value : Reader A) where
  unfoldable pub plain_argument : Reader (Name × A)
  plain_argument = do
    n ← optional (sees_name false) name
    x ← value
    pure (n, x)

module _ {A : Type 0} (verbatim : TokenStream → A) where
  -- `mut self` with what was read before it, held as it was written
  abbrev pub own : List Item → Reader (Name × A)
  own from = do
    m ← token.mut_word
    w ← token.self_value
    t ← since from
    pure (None, verbatim t)

module _ {A : Type 0} (value : Reader A) (verbatim : TokenStream → A) where
  -- `mut self`, `mut self: T`: held as they were written, without a name
  unfoldable pub mut_self : Reader (Name × A)
  mut_self = do
    from ← begin
    m ← token.mut_word
    typed ← peek (sees_name true)
    if typed then (do
      n ← name
      x ← value
      t ← since from
      pure (None, verbatim t)) else (do
        w ← token.self_value
        t ← since from
        pure (None, verbatim t))

  -- `x: mut self` is held as it was written too; `self: T` has a name
  unfoldable pub named_argument : Reader (Name × A)
  named_argument = do
    from ← begin
    n ← optional (sees_name true) name
    held ← peek (λ l. is_other n && sees_mut_self l)
    if held then own verbatim from else (do
      x ← value
      pure (n, x))

  -- the first argument of a pointer to a function
  unfoldable pub first_argument : Reader (Name × A)
  first_argument = do
    own ← peek sees_mut_self
    if own then mut_self else named_argument

  abbrev pub argument : Bool → Reader (Name × A)
  argument true = first_argument
  argument false = plain_argument value

-- ---- `...` after the arguments, with an optional name and comma

abbrev pub Dots : Type 0
Dots = Name × token.DotDotDot × Option token.Comma

unfoldable pub sees_dots : Toks → Bool
sees_dots l = token.sees_dot_dot_dot l || (sees_ident_or_underscore l && (second token.sees_colon l && third token.sees_dot_dot_dot l))

unfoldable pub dots : Reader Dots
dots = do
  n ← optional sees_ident_or_underscore name
  d ← token.dot_dot_dot
  c ← optional token.sees_comma token.comma
  pure (n, d, c)

-- ---- the arguments of a pointer to a function, each with its attributes

-- the arguments, and `...` at the end
abbrev pub Inputs : Type 0 → Type 0 → Type 0
Inputs B I = Many I token.Comma × Option (List B × Dots)

module _ {B I : Type 0} where
  abbrev pub no_inputs : Option (List B × Dots) → Inputs B I
  no_inputs d = (([], []), d)

  abbrev pub one_input : I → Inputs B I
  one_input x = ((x ∷ [], []), None)

  abbrev pub put_input : I → token.Comma → Inputs B I → Inputs B I
  put_input x c v = ((x ∷ v.0.0, c ∷ v.0.1), v.1)

-- an argument is made of its attributes, its name and its type
module _ {B A I : Type 0} (make : List B → Name → A → I) (attrs : Reader (List B)) (value : Reader A) (verbatim : TokenStream → A) where
  -- at most n of them; the first one may be about `self`. A `...` ends them, and nothing is read after it.
  abbrev pub inputs_from : ℕ → Bool → Reader (Inputs B I)
  inputs_from zero first = refuse Unexpected
  inputs_from (suc n) first = do
    over ← peek is_done
    if over then pure (no_inputs None) else (do
      a ← attrs
      last ← peek sees_dots
      if last then (λ d. no_inputs (Some (a, d))) <$> dots else (do
        x ← argument value verbatim first
        ends ← peek is_done
        if ends then pure (one_input (make a x.0 x.1)) else (do
          c ← token.comma
          more ← inputs_from n false
          pure (put_input (make a x.0 x.1) c more))))

  unfoldable pub inputs : Reader (Inputs B I)
  inputs s = inputs_from (suc (size s.rest)) true s
