-- What a reader reads in parentheses.
use Rattle.std.proofs.Common.{◌≡◌, Ok, Err}
use Rattle.token_core.specs.declared.token.Paren.{Paren}
use Rattle.token_core.specs.declared.tree.Delimiter.TheVariants as d
use Rattle.token_core.specs.Groups as groups
use Rattle.token_core.specs.Refusal.{Refusal}
use Rattle.token_core.specs.Stream.{Stream}
use Rattle.token_core.specs.Reads.{Reader, open_group, finished}
use Rattle.syn_forms.specs.groups.Reading.{in_parens}
use Rattle.syn_forms.proofs.groups_laws.Inside as inside

module _ {A : Type 0} (p : Reader A) where
  abbrev pub opens : Reader (Paren × Stream)
  opens s = groups.opened groups.paren (open_group d.Parenthesis groups.paren_name s)

  -- it answers
  pub read_inside : (s t c u : Stream) (k : Paren) (x : A) → opens s ≡ Ok ((k, c), t) → p c ≡ Ok (x, u) → in_parens p s ≡ Ok ((k, x), finished u t)
  read_inside = inside.read_inside groups.paren (open_group d.Parenthesis groups.paren_name) (λ k x. (k, x)) p

  -- it is refused
  pub refused_inside : (s t c : Stream) (k : Paren) (e : Refusal) → opens s ≡ Ok ((k, c), t) → p c ≡ Err e → in_parens p s ≡ Err e
  refused_inside = inside.refused_inside groups.paren (open_group d.Parenthesis groups.paren_name) (λ k x. (k, x)) p

  -- it isn't there
  pub not_opened : (s : Stream) (e : Refusal) → opens s ≡ Err e → in_parens p s ≡ Err e
  not_opened = inside.not_opened groups.paren (open_group d.Parenthesis groups.paren_name) (λ k x. (k, x)) p
