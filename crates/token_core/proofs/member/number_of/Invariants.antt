use Rattle.std.proofs.Common.{◌≡◌, ◌≤◌, ◌-◌, length, drop}
use Rattle.token_core.specs.Members.{number_after, no_number, fitting}
use Rattle.token_core.proofs.member.number_of.Given as goal

abbrev pub invariant-digits : goal.invariant-digits
invariant-digits l = record {
  in_range : l.at ≤ length l.digits;
  told : number_after l.base l.number (drop l.at l.digits) ≡ number_after l.base no_number l.digits;
  fits : fitting l.number ≡ l.number;
}

abbrev pub decreases-digits : goal.decreases-digits
decreases-digits l = length l.initial.digits - l.at
