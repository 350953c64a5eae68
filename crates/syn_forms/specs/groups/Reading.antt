-- What parentheses and brackets hold, over the read of the tree that they hold.
use Rattle.std.specs.Prelude.{if◌then◌else◌, []}
use Rattle.token_core.specs.declared.token.Bracket.{Bracket}
use Rattle.token_core.specs.declared.token.GroupToken.{GroupToken}
use Rattle.token_core.specs.declared.token.Paren.{Paren}
use Rattle.token_core.specs.declared.tree.Delimiter.TheVariants as d
use Rattle.token_core.specs.Groups as groups
use Rattle.token_core.specs.Lifetimes.{sees_lifetime}
use Rattle.token_core.specs.Loops.{Many}
use Rattle.token_core.specs.Reads.{Reader, ◌>>=◌, ◌<$>◌, pure, peek, is_done, in_group, closing}
use Rattle.syn_forms.specs.declared.groups.InBrackets.{InBrackets}
use Rattle.syn_forms.specs.declared.groups.InBrackets.TheVariants.{Element, Counted}
use Rattle.syn_forms.specs.declared.groups.ParenContent.{ParenContent}
use Rattle.syn_forms.specs.declared.groups.ParenContent.TheVariants as c
use Rattle.syn_forms.specs.lists.Reading.{more_elements}
use Rattle.syn_forms.specs.tokens.Reading.{semi, sees_comma, sees_semi}
use Rattle.token_core.specs.Tokens as token

-- a group by its token, and what is read in it
abbrev pub in_parens : {A : Type 0} → Reader A → Reader (Paren × A)
in_parens p = (λ g. (groups.paren g.0, g.1)) <$> in_group d.Parenthesis groups.paren_name p

abbrev pub in_brackets : {A : Type 0} → Reader A → Reader (Bracket × A)
in_brackets p = (λ g. (groups.bracket g.0, g.1)) <$> in_group d.Bracket groups.bracket_name p

-- an invisible group
abbrev pub in_invisible : {A : Type 0} → Reader A → Reader (GroupToken × A)
in_invisible p = (λ g. (groups.group_token g.0, g.1)) <$> (groups.open_invisible >>= (λ g. λ s. closing g.0 s (p g.1)))

-- `;` and the length of an array
abbrev pub Length : Type 0 → Type 0
Length E = token.Semi × E

module _ {E : Type 0} (lens : Reader E) where
  unfoldable pub length : Reader (Length E)
  length = do
    s ← semi
    n ← lens
    pure (s, n)

module _ {A : Type 0} (value : Reader A) where
  -- the elements of a tuple: none, or a comma follows the first
  unfoldable pub tuple_content : Reader (Many A token.Comma)
  tuple_content = do
    over ← peek is_done
    if over then pure ([], []) else (value >>= more_elements value)

-- In the place of a type:
module _ {A O Q : Type 0} (value : Reader A) where
  -- a type, or the elements of a tuple after the first
  abbrev pub type_or_elements : Reader (ParenContent A O Q)
  type_or_elements = do
    x ← value
    goes ← peek sees_comma
    if goes then c.Elements <$> more_elements value x else pure (c.One x)

-- over the reads of a type, of a trait object that begins with a lifetime, and of a trait bound
module _ {A O Q : Type 0} (value : Reader A) (object : Reader O) (asked : Reader Q) where
  -- nothing is an empty tuple; a lifetime begins a trait object and a `?` a trait bound, before a type is tried
  unfoldable pub type_paren_content : Reader (ParenContent A O Q)
  type_paren_content = do
    over ← peek is_done
    if over then pure (c.Elements ([], [])) else (do
      lifetime ← peek sees_lifetime
      if lifetime then c.Object <$> object else (do
        question ← peek token.sees_question
        if question then c.Asked <$> asked else type_or_elements value))

module _ {A E : Type 0} (lens : Reader E) (value : Reader A) where
  -- a tree, and perhaps a length
  unfoldable pub bracket_content : Reader (InBrackets A E)
  bracket_content = do
    x ← value
    goes ← peek sees_semi
    if goes then Counted x <$> length lens else pure (Element x)

  -- a tree and a length
  unfoldable pub array_content : Reader (A × Length E)
  array_content = do
    x ← value
    n ← length lens
    pure (x, n)

  abbrev pub array : Reader (Bracket × A × Length E)
  array = (λ g. (groups.bracket g.0, g.1.0, g.1.1)) <$> in_group d.Bracket groups.bracket_name array_content
