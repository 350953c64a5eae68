use Rattle.std.proofs.Common.{◌≡◌, false, length, rules, arith}
use Rattle.std.proofs.lemmas.Grind.{common_steps}
use Rattle.token_core.specs.Lifetimes.{sees_lifetime}
use Rattle.token_core.specs.Reads.{is_done}
use Rattle.token_core.specs.Tokens as token
use Rattle.syn_ty.proofs.ty_laws.Steps.{as_told, elements_in_parens}
use Rattle.syn_ty.specs.ty.Knot as knot
use Rattle.syn_ty.proofs.grammar.Grammar.paren_content.Goals as goal

pub returns : goal.returns
returns g c =
    let n : is_done c.args.input.now.rest ≡ false = first_of (search rules, grind (arith, common_steps)) in
    let l : sees_lifetime c.args.input.now.rest ≡ false = first_of (search rules, grind (arith, common_steps)) in
    let q : token.sees_question c.args.input.now.rest ≡ false = first_of (search rules, grind (arith, common_steps)) in
    let r = knot.reads_below g.A.Attributes.reads g.E.Value.reads (length c.args.self.now.begin) in
    record { parses = as_told _ _ c.type_or_elements.result c.args.input.now c.type_or_elements.new.input (elements_in_parens r c.args.input.now n l q) c.type_or_elements.ensures.parses }
