use Rattle.token_core.proofs.Fronteds.{fronted}
use Rattle.token_core.proofs.Headlines.{heads}
use Rattle.syn_forms.specs.tokens.Grammars as grammars
use Rattle.syn_forms.proofs.tokens_laws.Mutability.{mutability_lawful, mutability_front, mutability_front_lawful}
use Rattle.syn_forms.proofs.tokens.PointerMutabilityParse.parse.Goals as goal

pub returns-clause-promise : goal.returns-clause-promise
returns-clause-promise c = heads (grammars.mutability) (mutability_lawful) _ _ _ c.parse_mutability.ensures.parses.0

pub returns-clause-takes : goal.returns-clause-takes
returns-clause-takes c = mutability_front _ _ _ c.parse_mutability.ensures.parses.0

pub returns-clause-fronts : goal.returns-clause-fronts
returns-clause-fronts c = fronted grammars.mutability_front mutability_front_lawful _ _ _ c.parse_mutability.ensures.parses.0
