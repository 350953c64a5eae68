use Rattle.std.proofs.Common.{◌≡◌, true, false, if◌then◌else◌, sym, ap, ◌∙◌, rules}
use Rattle.token_core.specs.Front.{front}
use Rattle.token_core.specs.Sees.{class_at, rest_of, is_quote, is_any_ident}
use Rattle.token_core.proofs.SeenClasses.{lifetime_seen}
use Rattle.token_core.proofs.place.Place.sees_lifetime.Goals as goal

pub returns-then-is_quote : goal.returns-then-is_quote
returns-then-is_quote c =
    let l = c.args.self.now in
    let b : c.is_quote.result ≡ true = search rules in
    let q : is_quote (class_at (front l)) ≡ true = sym (c.is_quote.ensures ∙ ap is_quote c.step-class.ensures.class) ∙ b in
    c.is_any_ident.ensures ∙ ap is_any_ident c.class.ensures ∙ ap (λ k. is_any_ident (class_at (front k))) c.step-class.ensures.more
    ∙ sym (ap (λ z. if z then is_any_ident (class_at (front (rest_of (front l)))) else false) q) ∙ lifetime_seen l

pub returns-else-is_quote : goal.returns-else-is_quote
returns-else-is_quote c =
    let l = c.args.self.now in
    let b : c.is_quote.result ≡ false = search rules in
    let q : is_quote (class_at (front l)) ≡ false = sym (c.is_quote.ensures ∙ ap is_quote c.step-class.ensures.class) ∙ b in
    b ∙ sym (ap (λ z. if z then is_any_ident (class_at (front (rest_of (front l)))) else false) q) ∙ lifetime_seen l
