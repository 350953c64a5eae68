-- Laws of escaped texts.
use Rattle.std.proofs.Common.{◌≡◌, ℕ, List, ◌∷◌, ◌++◌, append_assoc, sym, ap, ◌∙◌}
use Rattle.token_core.specs.Toks.{Bytes}
use Rattle.kulojenta_lines.specs.Json.{escaped, escaped_char}

pub escaped_goes : (cs ds : List ℕ) (c : ℕ) (whole out new : Bytes) → whole ≡ out ++ escaped cs → cs ≡ c ∷ ds → new ≡ out ++ escaped_char c → whole ≡ new ++ escaped ds
escaped_goes cs ds c whole out new h e n =
    h ∙ ap (λ t. out ++ escaped t) e ∙ sym (append_assoc out (escaped_char c) (escaped ds)) ∙ ap (λ t. t ++ escaped ds) (sym n)
