use Rattle.std.proofs.Common.{◌≡◌, [], ◌∷◌, ◌++◌, length, sym, ap, ◌∙◌, arith}
use Rattle.token_core.specs.Loops.{after, terminated}
use Rattle.token_core.specs.Reads.{is_done}
use Rattle.token_core.proofs.Suffixes.{follows_self, follows_trans}
use Rattle.token_core.proofs.Steps.{link}
use Rattle.syn_forms.specs.nested.Below.{held}
use Rattle.syn_forms.specs.lists.Reading.{more_elements}
use Rattle.syn_forms.specs.tokens.Reading.{comma}
use Rattle.syn_forms.proofs.lists_laws.Turns.{marked_whole, new_whole, no_memory, one_yet_at, passed_on, put_whole, stopped, told_by}
use Rattle.syn_forms.proofs.nested.Nested.more_elements.Goals as goal

pub push_value-requires : goal.push_value-requires
push_value-requires g c = new_whole _ c.new-elems.ensures

pub returns-in_err-push_value : goal.returns-in_err-push_value
returns-in_err-push_value g c = record { parses = (no_memory _ _ _ c.from_residual.ensures, follows_self _) }

pub returns-in_err-parse_comma : goal.returns-in_err-parse_comma
unfolding more_elements
returns-in_err-parse_comma g c =
    let e = c.in_err-parse_comma.field-0.0 in
    record { parses = (passed_on _ _ _ _ e c.from_residual-in_err-parse_comma.ensures c.in_err-parse_comma.ensures.parses.0 (λ h. stopped _ e h), c.parse_comma.ensures.parses.1) }

pub push_punct-requires : goal.push_punct-requires
push_punct-requires g c = put_whole _ _ _ _ c.in_ok-push_value.ensures.ok (new_whole _ c.new-elems.ensures)

pub returns-in_err-push_punct : goal.returns-in_err-push_punct
returns-in_err-push_punct g c = record { parses = (no_memory _ _ _ c.from_residual-in_err-push_punct.ensures, c.parse_comma.ensures.parses.1) }

pub list_after-requires-clause-nests : goal.list_after-requires-clause-nests
list_after-requires-clause-nests g c = c.requires.nests

pub list_after-requires-clause-few : goal.list_after-requires-clause-few
list_after-requires-clause-few g c =
    let few = c.requires.few in
    let less = c.in_ok-parse_comma.ensures.taken in
    omega (arith, few, less)

pub list_after-requires-clause-whole : goal.list_after-requires-clause-whole
list_after-requires-clause-whole g c = marked_whole _ _ _ _ c.in_ok-push_punct.ensures.ok (put_whole _ _ _ _ c.in_ok-push_value.ensures.ok (new_whole _ c.new-elems.ensures))

pub returns : goal.returns
unfolding more_elements
returns g c =
    let p = c.in_ok-parse_comma.field-0 in
    let begun : c.push_punct.new.self ≡ (c.args.first ∷ [], p ∷ []) = c.in_ok-push_punct.ensures.ok ∙ ap (λ z. (z.0, z.1 ++ p ∷ [])) (c.in_ok-push_value.ensures.ok ∙ ap (λ z. (z.0 ++ c.args.first ∷ [], z.1)) c.new-elems.ensures) in
    record {
      parses = (
        told_by _ _ (link _ c.in_ok-parse_comma.ensures.parses.0 (sym (one_yet_at _ _ _)) ∙ ap (λ z. after z (terminated is_done (held g.T.Tree.read (length c.args.self.now.begin) c.args.place) comma c.parse_comma.new.input)) (sym begun)) c.list_after.ensures.parses.0,
        follows_trans _ _ _ c.parse_comma.ensures.parses.1 c.list_after.ensures.parses.1,
      );
    }
