use Rattle.std.specs.Prelude.{string_bytes}
use Rattle.std.proofs.Common.{◌+◌, Ok, Err, arith, ◌∙◌, ap, refl}
use Rattle.token_text.specs.Wholes.{text_end}
use Rattle.syn_run.specs.Calls.{told, refused, number}
use Rattle.token_text.specs.declared.piece.Docs.TheVariants.{Read}
use Rattle.syn_run.specs.Readers.{category}
use Rattle.syn_run.proofs.Called.{tells_so}
use Rattle.syn_run.proofs.Bounds.{bounded-text, bounded-refusal}
use Rattle.syn_run.proofs.call.read_by.Goals as goal

pub returns-in-Ok : goal.returns-in-Ok
returns-in-Ok g c =
    let C = category g.X.Subtree c.args.reader in
    let t = c.as_str.result.now in
    record {
      came = told t;
      is = (Ok t, bounded-text Read c.args.limit C (text_end c.args.text.now) c.args.text.now string_bytes c.in-Ok.shown t c.as_str.ensures.value c.in-Ok.ensures, refl);
      tells = c.tell.ensures;
    }

pub returns-in-Err : goal.returns-in-Err
returns-in-Err g c =
    let C = category g.X.Subtree c.args.reader in
    let e = c.in-Err.refusal in
    record {
      came = refused e;
      is = (Err e, bounded-refusal Read c.args.limit C (text_end c.args.text.now) c.args.text.now string_bytes e c.in-Err.ensures, refl);
      tells = tells_so _ _ _ _ _ _ _ _ _ _ c.text.ensures (ap (λ n. 16 + n) (c.number-kind.ensures.value ∙ ap number c.kind.ensures)) c.place_of.ensures c.tell-in-Err.ensures;
    }
