use Rattle.token_core.proofs.Fronteds.{fronted}
use Rattle.token_core.proofs.Headlines.{heads}
use Rattle.syn_attr.specs.attr.Grammars as grammars
use Rattle.syn_attr.proofs.attr_laws.Laws.{list_lawful, list_front, list_front_lawful}
use Rattle.syn_attr.proofs.attr.read.MetaListParse.parse.Goals as goal

pub returns-clause-promise : goal.returns-clause-promise
returns-clause-promise c = heads grammars.list list_lawful _ _ _ c.parse_meta_list.ensures.parses.0

pub returns-clause-takes : goal.returns-clause-takes
returns-clause-takes c = list_front _ _ _ c.parse_meta_list.ensures.parses.0

pub returns-clause-fronts : goal.returns-clause-fronts
returns-clause-fronts c = fronted grammars.list_front list_front_lawful _ _ _ c.parse_meta_list.ensures.parses.0
