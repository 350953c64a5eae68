use Rattle.std.proofs.Common.{◌≡◌, Some, Err, sym, ap, ◌∙◌}
use Rattle.token_core.specs.declared.error.ErrorKind.TheVariants.{OpenRangeInSlice}
use Rattle.token_core.specs.Refusal.{refusal}
use Rattle.token_core.proofs.Suffixes.{follows_self}
use Rattle.syn_pat.specs.pat.Reading.{open_range, unless_open}
use Rattle.syn_pat.proofs.pat.read.step.as_element.Goals as goal

-- the refusal is that of a range that lacks a bound
pub returns-in-Some : goal.returns-in-Some
returns-in-Some g c =
    let open_ : open_range c.args.pat ≡ Some (c.in-Some.start, c.in-Some.end) = ap open_range (sym c.get.ensures) ∙ sym c.open_range.ensures ∙ c.in-Some.is in
    record {
      parses = (
        λ h. ap (λ o. unless_open o c.args.pat c.args.input.now) open_ ∙ ap Err (ap (λ t. refusal OpenRangeInSlice t c.in-Some.start c.in-Some.end) (sym c.text.ensures) ∙ sym (c.of.ensures.made h)),
        follows_self c.args.input.now,
      );
    }
