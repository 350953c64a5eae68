-- Which way a function on the front of a text goes.
use Rattle.std.proofs.Common.{◌≡◌, ℕ, Bool, true, false, ◌&&◌, ◌==◌, ◌∷◌, Ok, Err, refl, sym, ap, ◌∙◌}
use Rattle.std.specs.Char.{is_ascii_digit}
use Rattle.token_core.specs.declared.tree.LitKind.{LitKind}
use Rattle.token_core.specs.declared.error.ErrorKind.TheVariants.{UnknownToken}
use Rattle.token_text.specs.declared.piece.Docs.{Docs}
use Rattle.token_text.specs.declared.piece.Form.{Form}
use Rattle.token_text.specs.declared.piece.Leaf.TheVariants.{Doc}
use Rattle.token_text.specs.declared.piece.Piece.TheVariants.{Leaf}
use Rattle.token_text.specs.declared.piece.Style.{Style}
use Rattle.token_text.specs.Characters.{Text, begins_with}
use Rattle.token_text.specs.Front.{exponent, exponent_digits, plain, numeral, number, unopened, slash, doc_in, known, lifetime_piece, any_word, backslash}
use Rattle.token_text.specs.Pieces.{after_sign, is_e, is_char, style_of, has_lone_return}

pub exponent_goes : (k : LitKind) (cs ds : Text) (c : ℕ) → cs ≡ c ∷ ds → is_e c ≡ true → exponent k cs ≡ exponent_digits (after_sign ds)
unfolding exponent
exponent_goes k cs ds c e h = rw (e, h) refl

pub plain_number : (c : ℕ) (cs : Text) → (c == 98 && begins_with (is_char 39) cs) ≡ false → is_ascii_digit c ≡ true → plain c cs ≡ numeral (number c cs)
unfolding plain
plain_number c cs h k = rw (h, k) refl

pub unopened_slash : (docs : Docs) (c : ℕ) (cs : Text) → c ≡ 47 → unopened docs c cs ≡ slash docs cs
unfolding unopened
unopened_slash docs c cs h = rw h refl

pub unopened_quote : (docs : Docs) (c : ℕ) (cs : Text) → c ≡ 39 → unopened docs c cs ≡ known lifetime_piece (any_word cs)
unfolding unopened
unopened_quote docs c cs h = rw h refl

pub unopened_backslash : (docs : Docs) (c : ℕ) (cs : Text) → c ≡ 92 → unopened docs c cs ≡ backslash cs
unfolding unopened
unopened_backslash docs c cs h = rw h refl

module _ (f : Form) (cs rest w v : Text) (b : Bool) (e : v ≡ w) (h : b ≡ has_lone_return v) where
  pub doc_refused : b ≡ true → doc_in f cs rest w ≡ Err UnknownToken
  doc_refused k = let lone : has_lone_return w ≡ true = ap has_lone_return (sym e) ∙ sym h ∙ k in rw lone refl

  pub doc_found : (s : Style) → b ≡ false → s ≡ style_of cs → doc_in f cs rest w ≡ Ok (Leaf (Doc s f), rest)
  doc_found s k t = let lone : has_lone_return w ≡ false = ap has_lone_return (sym e) ∙ sym h ∙ k in rw lone (ap (λ (x : Style). Ok (Leaf (Doc x f), rest)) (sym t))
