use Rattle.std.proofs.Common.{◌≡◌, map, take, drop, ◌+◌, sym, ap, ◌∙◌}
use Rattle.std.proofs.lemmas.List.{take-map, drop-map}
use Rattle.token_core.specs.Seen.{view}
use Rattle.token_core.specs.Entries.{saw, entries_view}
use Rattle.token_core.specs.Trees.{delimiter_of, span_of, content_of}
use Rattle.token_core.proofs.Invisibles.{invisible_shown, invisible_nested, invisible_hidden}
use Rattle.token_core.proofs.Places.{holds_invisible}
use Rattle.token_core.proofs.buffer.invisible_group.Goals as goal

pub of-requires : goal.of-requires
of-requires c =
    let g = c.args.group.now in
    (invisible_nested (span_of g) (content_of g) c.args.n (delimiter_of g) c.args.more.now c.around.result.0.now c.around.result.1.now (sym c.delimiter.ensures ∙ c.in-None.is) c.around.ensures.inside c.around.ensures.after c.requires).0

pub of-requires-in-None : goal.of-requires-in-None
of-requires-in-None c =
    let g = c.args.group.now in
    (invisible_nested (span_of g) (content_of g) c.args.n (delimiter_of g) c.args.more.now c.around.result.0.now c.around.result.1.now (sym c.delimiter.ensures ∙ c.in-None.is) c.around.ensures.inside c.around.ensures.after c.requires).1

pub returns-in-None : goal.returns-in-None
returns-in-None c =
    let g = c.args.group.now in
    let l = c.args.more.now in
    let i : entries_view c.around.result.0.now ≡ view (take c.args.n (map saw l)) = ap entries_view c.around.ensures.inside ∙ ap view (sym (take-map saw c.args.n l)) in
    let r : entries_view c.around.result.1.now ≡ view (drop (c.args.n + 1) (map saw l)) = ap entries_view c.around.ensures.after ∙ ap view (sym (drop-map saw (c.args.n + 1) l)) in
    record {
      shown = rw (c.of.ensures, c.of-in-None.ensures) (invisible_shown (span_of g) (content_of g) c.args.n (delimiter_of g) l c.around.result.0.now c.around.result.1.now (sym c.delimiter.ensures ∙ c.in-None.is) c.around.ensures.inside c.around.ensures.after c.requires);
      held = rw (c.of.ensures, c.of-in-None.ensures) (holds_invisible (span_of g) (content_of g) c.args.n (delimiter_of g) (map saw l) _ _ (sym c.delimiter.ensures ∙ c.in-None.is) i r c.requires);
    }

pub returns-in_default : goal.returns-in_default
returns-in_default c =
    let g = c.args.group.now in
    record { shown = invisible_hidden (span_of g) (content_of g) c.args.n (delimiter_of g) _ (λ e. c.in_default.not-None (c.delimiter.ensures ∙ e)); held = tt }
