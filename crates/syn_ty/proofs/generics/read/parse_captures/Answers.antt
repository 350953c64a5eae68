use Rattle.std.proofs.Common.{◌≡◌, ◌<◌, true, false, ◌++◌, ◌∷◌, [], Ok, Err, sym, ap, subst, ◌∙◌, rules, arith}
use Rattle.std.proofs.lemmas.Grind.{common_steps}
use Rattle.token_core.specs.Loops.{size}
use Rattle.token_core.specs.Tokens as token
use Rattle.token_core.proofs.Suffixes.{follows}
use Rattle.syn_path.proofs.path_laws.Turns.{refused_by}
use Rattle.syn_forms.proofs.nested_laws.Ahead.{fewer_tokens}
use Rattle.syn_ty.proofs.generics_laws.Captures.{Told, start, over, refused, last, stuck, next}
use Rattle.syn_ty.proofs.generics.read.parse_captures.Goals as goal

pub returns-then-peek : goal.returns-then-peek
returns-then-peek c =
    let d : token.sees_gt c.turn.input.rest ≡ true = first_of (search rules, grind (arith, common_steps)) in
    record { parses = (over c.args.input.now c.turn.input c.turn.params c.turn.invariant.told d, grind (arith, follows)) }

pub returns-in_err-param : goal.returns-in_err-param
returns-in_err-param c =
    let e = c.in_err-param.field-0.0 in
    let d : token.sees_gt c.turn.input.rest ≡ false = first_of (search rules, grind (arith, common_steps)) in
    let was : c.parse_listed.result ≡ Err e = first_of (search rules, grind (arith, common_steps)) in
    let back : c.from_residual.result ≡ Err e = first_of (search rules, grind (arith, common_steps)) in
    record {
      parses = (
        refused_by _ _ _ _ _ _ e was back c.parse_listed.ensures.parses.0 (λ h. refused c.args.input.now c.turn.input c.turn.params e c.turn.invariant.told d h),
        grind (arith, follows),
      );
    }

pub returns-then-peek-2 : goal.returns-then-peek-2
returns-then-peek-2 c =
    let d : token.sees_gt c.turn.input.rest ≡ false = first_of (search rules, grind (arith, common_steps)) in
    let n : token.sees_gt c.parse_listed.new.input.rest ≡ true = first_of (search rules, grind (arith, common_steps)) in
    let v : c.push_value.new.self ≡ (c.turn.params.0 ++ c.in_ok-param.param ∷ [], c.turn.params.1) = first_of (search rules, grind (arith, common_steps)) in
    record {
      parses = (
        last c.args.input.now c.turn.input c.parse_listed.new.input c.turn.params c.in_ok-param.param c.turn.invariant.told d c.in_ok-param.ensures.parses.0 n
            ∙ ap (λ z. Ok (z, c.parse_listed.new.input)) (sym v),
        grind (arith, follows),
      );
    }

pub returns-in_err-comma : goal.returns-in_err-comma
returns-in_err-comma c =
    let e = c.in_err-comma.field-0.0 in
    let d : token.sees_gt c.turn.input.rest ≡ false = first_of (search rules, grind (arith, common_steps)) in
    let n : token.sees_gt c.parse_listed.new.input.rest ≡ false = first_of (search rules, grind (arith, common_steps)) in
    let was : c.parse_captured_comma.result ≡ Err e = first_of (search rules, grind (arith, common_steps)) in
    let back : c.from_residual-in_err-comma.result ≡ Err e = first_of (search rules, grind (arith, common_steps)) in
    record {
      parses = (
        refused_by _ _ _ _ _ _ e was back c.parse_captured_comma.ensures.parses.0
            (λ h. stuck c.args.input.now c.turn.input c.parse_listed.new.input c.turn.params c.in_ok-param.param e c.turn.invariant.told d c.in_ok-param.ensures.parses.0 n h),
        grind (arith, follows),
      );
    }

pub turn-init : goal.turn-init
turn-init c =
    let none : c.new-params.result ≡ ([], []) = first_of (search rules, grind (arith, common_steps)) in
    record { told = subst (λ z. Told c.args.input.now z c.args.input.now) (sym none) (start c.args.input.now); whole = grind (arith, common_steps); within = grind (arith, follows) }

pub turn-preserved : goal.turn-preserved
turn-preserved c =
    let d : token.sees_gt c.turn.input.rest ≡ false = first_of (search rules, grind (arith, common_steps)) in
    let n : token.sees_gt c.parse_listed.new.input.rest ≡ false = first_of (search rules, grind (arith, common_steps)) in
    let v : c.push_punct.new.self ≡ (c.turn.params.0 ++ c.in_ok-param.param ∷ [], c.turn.params.1 ++ c.in_ok-comma.comma ∷ []) = first_of (search rules, grind (arith, common_steps)) in
    let less : size c.parse_captured_comma.new.input.rest < size c.turn.input.rest = fewer_tokens c.turn.input c.parse_listed.new.input c.parse_captured_comma.new.input c.parse_listed.ensures.parses.1 c.parse_captured_comma.ensures.parses.1 c.in_ok-comma.ensures.taken in
    record {
      told = subst (λ z. Told c.args.input.now z c.parse_captured_comma.new.input) (sym v)
          (next c.args.input.now c.turn.input c.parse_listed.new.input c.parse_captured_comma.new.input c.turn.params c.in_ok-param.param c.in_ok-comma.comma c.turn.invariant.told d c.in_ok-param.ensures.parses.0 n c.in_ok-comma.ensures.parses.0 less);
      whole = grind (arith, common_steps);
      within = grind (arith, follows);
    }
