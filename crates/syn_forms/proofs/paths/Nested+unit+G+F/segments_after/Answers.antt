use Rattle.std.specs.Prelude.{IfOk}
use Rattle.std.proofs.Common.{◌≡◌, ◌<◌, ◌++◌, ◌∷◌, [], Ok, true, length, refl, sym, ap, subst, ◌∙◌, arith}
use Rattle.token_core.specs.Loops.{after, never, size}
use Rattle.token_core.specs.Reads.{Reads}
use Rattle.token_core.proofs.Suffixes.{follows_self, follows_trans}
use Rattle.syn_path.specs.path.Reading.{sep}
use Rattle.syn_forms.specs.nested.Below.{ahead, held}
use Rattle.syn_forms.specs.paths.Reading.{segment, segments}
use Rattle.syn_forms.proofs.lists_laws.Turns.{Told, last, marked_whole, next, no_memory, passed_on, put_whole, refused, start, stuck}
use Rattle.syn_forms.proofs.nested_laws.Ahead.{fewer_tokens}
use Rattle.syn_forms.proofs.paths.Nested+unit+G+F.segments_after.Goals as goal

pub turn-init : goal.turn-init
turn-init g c =
    record {
      told = start never (segment g.G.Arguments.absent (held g.G.Tree.read (length c.args.self.now.begin) tt) c.args.style) (g.S.Further.more c.args.further) sep c.args.segments true c.args.input.now;
      whole = c.requires.whole;
      few = c.requires.few;
      within = follows_self _;
    }

pub segment-requires-clause-nests : goal.segment-requires-clause-nests
segment-requires-clause-nests g c = c.requires.nests

pub segment-requires-clause-few : goal.segment-requires-clause-few
segment-requires-clause-few g c = c.turn.invariant.few

pub returns-in-Err-clause-parses : goal.returns-in-Err-clause-parses
returns-in-Err-clause-parses g c =
    let value = (segment g.G.Arguments.absent (held g.G.Tree.read (length c.args.self.now.begin) tt) c.args.style) in
    let i = c.turn.invariant.told in
    let read = subst (λ r. Reads (value c.turn.input) r c.segment.new.input) c.in-Err.is c.segment.ensures.parses.0 in (
      λ k. i.told ∙ refused never value (g.S.Further.more c.args.further) sep i.turns c.turn.segments true c.turn.input c.in-Err.e refl (read k),
      follows_trans _ _ _ c.turn.invariant.within c.segment.ensures.parses.1,
    )

pub push_value-requires : goal.push_value-requires
push_value-requires g c = c.turn.invariant.whole

pub returns-in_err-push_value-in-Ok-clause-parses : goal.returns-in_err-push_value-in-Ok-clause-parses
returns-in_err-push_value-in-Ok-clause-parses g c = (no_memory _ _ _ c.from_residual.ensures, follows_trans _ _ _ c.turn.invariant.within c.segment.ensures.parses.1)

pub returns-then-not-goes_on-clause-parses : goal.returns-then-not-goes_on-clause-parses
returns-then-not-goes_on-clause-parses g c =
    let read = subst (λ r. Reads ((segment g.G.Arguments.absent (held g.G.Tree.read (length c.args.self.now.begin) tt) c.args.style) c.turn.input) r c.segment.new.input) c.in-Ok.is c.segment.ensures.parses.0 in
    let i = c.turn.invariant.told in (
      i.told
          ∙ last never (segment g.G.Arguments.absent (held g.G.Tree.read (length c.args.self.now.begin) tt) c.args.style) (g.S.Further.more c.args.further) sep i.turns c.turn.segments true c.turn.input c.segment.new.input c.in-Ok.segment refl read (sym c.if-not-goes_on.ensures)
          ∙ ap (λ z. Ok (z, c.segment.new.input)) (sym c.in_ok-push_value-in-Ok.ensures.ok),
      follows_trans _ _ _ c.turn.invariant.within c.segment.ensures.parses.1,
    )

pub returns-then-not-goes_on-clause-ended : goal.returns-then-not-goes_on-clause-ended
returns-then-not-goes_on-clause-ended g c = put_whole _ _ _ _ c.in_ok-push_value-in-Ok.ensures.ok c.turn.invariant.whole

pub returns-in_err-parse_path_sep-clause-parses : goal.returns-in_err-parse_path_sep-clause-parses
returns-in_err-parse_path_sep-clause-parses g c =
    let read = subst (λ r. Reads ((segment g.G.Arguments.absent (held g.G.Tree.read (length c.args.self.now.begin) tt) c.args.style) c.turn.input) r c.segment.new.input) c.in-Ok.is c.segment.ensures.parses.0 in
    let i = c.turn.invariant.told in
    let e = c.in_err-parse_path_sep.field-0.0 in (
      passed_on _ _ _ _ e c.from_residual-in_err-parse_path_sep.ensures c.in_err-parse_path_sep.ensures.parses.0
          (λ h. i.told ∙ stuck never (segment g.G.Arguments.absent (held g.G.Tree.read (length c.args.self.now.begin) tt) c.args.style) (g.S.Further.more c.args.further) sep i.turns c.turn.segments true c.turn.input c.segment.new.input c.in-Ok.segment e refl read (sym c.if-not-goes_on.ensures) h),
      follows_trans _ _ _ c.turn.invariant.within (follows_trans _ _ _ c.segment.ensures.parses.1 c.parse_path_sep.ensures.parses.1),
    )

pub push_punct-requires : goal.push_punct-requires
push_punct-requires g c = put_whole _ _ _ _ c.in_ok-push_value-in-Ok.ensures.ok c.turn.invariant.whole

pub returns-in_err-push_punct-clause-parses : goal.returns-in_err-push_punct-clause-parses
returns-in_err-push_punct-clause-parses g c = (no_memory _ _ _ c.from_residual-in_err-push_punct.ensures, follows_trans _ _ _ c.turn.invariant.within (follows_trans _ _ _ c.segment.ensures.parses.1 c.parse_path_sep.ensures.parses.1))

pub turn-smaller : goal.turn-smaller
turn-smaller g c =
    let less = subst (λ r. IfOk r (λ _. ahead c.segment.new.input < ahead c.turn.input)) c.in-Ok.is c.segment.ensures.taken in
    let further = c.in_ok-parse_path_sep.ensures.taken in
    omega (arith, less, further)

pub turn-preserved : goal.turn-preserved
turn-preserved g c =
    let read = subst (λ r. Reads ((segment g.G.Arguments.absent (held g.G.Tree.read (length c.args.self.now.begin) tt) c.args.style) c.turn.input) r c.segment.new.input) c.in-Ok.is c.segment.ensures.parses.0 in
    let value = (segment g.G.Arguments.absent (held g.G.Tree.read (length c.args.self.now.begin) tt) c.args.style) in
    let more = g.S.Further.more c.args.further in
    let whole = after c.args.segments (segments g.G.Arguments.absent (held g.G.Tree.read (length c.args.self.now.begin) tt) more c.args.style c.args.input.now) in
    let put = c.in_ok-push_value-in-Ok.ensures.ok in
    let marked = c.in_ok-push_punct.ensures.ok in
    let v : c.push_punct.new.self ≡ (c.turn.segments.0 ++ c.in-Ok.segment ∷ [], c.turn.segments.1 ++ c.in_ok-parse_path_sep.field-0 ∷ []) = marked ∙ ap (λ z. (z.0, z.1 ++ c.in_ok-parse_path_sep.field-0 ∷ [])) put in
    let few = c.turn.invariant.few in
    let taken = subst (λ r. IfOk r (λ _. ahead c.segment.new.input < ahead c.turn.input)) c.in-Ok.is c.segment.ensures.taken in
    let further = c.in_ok-parse_path_sep.ensures.taken in
    let less : size c.parse_path_sep.new.input.rest < size c.turn.input.rest = fewer_tokens c.turn.input c.segment.new.input c.parse_path_sep.new.input c.segment.ensures.parses.1 c.parse_path_sep.ensures.parses.1 further in
    let k = next never value more sep whole c.turn.segments true c.turn.input c.segment.new.input c.parse_path_sep.new.input c.in-Ok.segment c.in_ok-parse_path_sep.field-0 c.turn.invariant.told refl read (sym c.if-not-goes_on.ensures) c.in_ok-parse_path_sep.ensures.parses.0 less in
    record {
      told = subst (λ z. Told never value more sep whole z true c.parse_path_sep.new.input) (sym v) (record { turns = k.turns; enough = k.enough; told = k.told });
      whole = marked_whole _ _ _ _ marked (put_whole _ _ _ _ put c.turn.invariant.whole);
      few = omega (arith, few, taken, further);
      within = follows_trans _ _ _ c.turn.invariant.within (follows_trans _ _ _ c.segment.ensures.parses.1 c.parse_path_sep.ensures.parses.1);
    }
