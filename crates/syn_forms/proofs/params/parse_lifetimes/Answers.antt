use Rattle.std.proofs.Common.{length, subst}
use Rattle.token_core.specs.Reads.{Reads, Follows}
use Rattle.syn_forms.specs.params.Reading.{ends_lifetime}
use Rattle.syn_forms.proofs.params_laws.Lifetimes.{lifetimes}
use Rattle.syn_forms.proofs.params.parse_lifetimes.Goals as goal

pub returns : goal.returns
returns c =
    let same = lifetimes ends_lifetime (length c.args.begin) c.args.input.now c.requires.few in
    record { parses = subst (λ o. Reads o c.list.result c.list.new.input × Follows c.args.input.now c.list.new.input) same c.list.ensures.parses }
