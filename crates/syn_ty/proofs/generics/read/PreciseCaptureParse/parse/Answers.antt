use Rattle.token_core.proofs.Fronteds.{fronted}
use Rattle.token_core.proofs.Headlines.{heads}
use Rattle.syn_ty.specs.ty.Frontings as frontings
use Rattle.syn_ty.specs.ty.Promises as promises
use Rattle.syn_ty.proofs.ty_laws.FrontLaws.{capture_fronts}
use Rattle.syn_ty.proofs.ty_laws.WholeLaws.{capture_lawful}
use Rattle.syn_ty.proofs.ty_laws.sound.Whole.{takes}
use Rattle.syn_ty.proofs.ty_laws.sound.Bound.{capture_took}
use Rattle.syn_ty.proofs.generics.read.PreciseCaptureParse.parse.Goals as goal

pub returns-clause-promise : goal.returns-clause-promise
returns-clause-promise c = heads promises.capture capture_lawful _ _ _ c.parse_capture.ensures.parses.0

pub returns-clause-fronts : goal.returns-clause-fronts
returns-clause-fronts c = fronted frontings.capture capture_fronts _ _ _ c.parse_capture.ensures.parses.0

pub returns-clause-takes : goal.returns-clause-takes
returns-clause-takes c = takes capture_took _ _ _ c.parse_capture.ensures.parses.0
