use Rattle.std.proofs.Common.{◌∙◌, ap}
use Rattle.token_core.specs.Seen.{view}
use Rattle.token_core.specs.Trees.{delimiter_of, span_of, content_of}
use Rattle.token_core.proofs.Flats.{view-flat}
use Rattle.token_core.proofs.Fronts.{group_shown, group_nested}
use Rattle.token_core.proofs.buffer.group_front.Goals as goal

pub of-requires : goal.of-requires
of-requires c =
    let g = c.args.group.now in
    (group_nested (span_of g) (content_of g) c.args.n (delimiter_of g) c.args.more.now c.around.result.0.now c.around.result.1.now (λ e. c.in_default.not-None (c.delimiter.ensures ∙ e)) c.around.ensures.inside c.around.ensures.after c.requires).0

pub of-requires-in_default : goal.of-requires-in_default
of-requires-in_default c =
    let g = c.args.group.now in
    (group_nested (span_of g) (content_of g) c.args.n (delimiter_of g) c.args.more.now c.around.result.0.now c.around.result.1.now (λ e. c.in_default.not-None (c.delimiter.ensures ∙ e)) c.around.ensures.inside c.around.ensures.after c.requires).1

pub returns-in_default : goal.returns-in_default
returns-in_default c =
    let g = c.args.group.now in
    record {
      shown = rw (c.of.ensures, c.of-in_default.ensures) (group_shown (span_of g) (content_of g) c.args.n (delimiter_of g) c.args.more.now c.around.result.0.now c.around.result.1.now (λ e. c.in_default.not-None (c.delimiter.ensures ∙ e)) c.around.ensures.inside c.around.ensures.after);
      linked = rw (c.of.ensures) (ap view (group_nested (span_of g) (content_of g) c.args.n (delimiter_of g) c.args.more.now c.around.result.0.now c.around.result.1.now (λ e. c.in_default.not-None (c.delimiter.ensures ∙ e)) c.around.ensures.inside c.around.ensures.after c.requires).2 ∙ view-flat (content_of g));
    }
