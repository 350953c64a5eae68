use Rattle.syn_laws.proofs.aside_laws.Readers.{without_values}
use Rattle.syn_laws.proofs.aside.without_values_aside.Goals as goal

pub returns : goal.returns
returns c = without_values
