-- Codes of the parts of tokens: how the models of streams and refusals are told apart.
use Rattle.std.specs.Prelude.{ℕ, zero, suc, Bool, true, false, refl, ◌≡◌}
use Rattle.std.specs.Coded.{Coded, code_by, coded×, coded_ℕ, coded_bool, coded_list}
use Rattle.token_core.specs.declared.tree.Delimiter.{Delimiter}
use Rattle.token_core.specs.declared.tree.Delimiter.TheVariants.{Parenthesis, Brace, Bracket, None}
use Rattle.token_core.specs.declared.tree.Spacing.{Spacing}
use Rattle.token_core.specs.declared.tree.Spacing.TheVariants.{Joint, Alone}
use Rattle.token_core.specs.declared.tree.LitKind.{LitKind}
use Rattle.token_core.specs.declared.tree.LitKind.TheVariants.{Str, ByteStr, CStr, Byte, Char, Int, Float}
use Rattle.token_core.specs.declared.span.Span.{Span}
use Rattle.token_core.specs.declared.span.DelimSpan.{DelimSpan}
use Rattle.token_core.specs.declared.tree.Ident.{Ident}
use Rattle.token_core.specs.declared.tree.Punct.{Punct}
use Rattle.token_core.specs.declared.tree.Literal.{Literal}
use Rattle.token_core.specs.Toks.{Bytes}

abbrev kind_number : LitKind → ℕ
kind_number Str = 0
kind_number ByteStr = 1
kind_number CStr = 2
kind_number Byte = 3
kind_number Char = 4
kind_number Int = 5
kind_number Float = 6

abbrev number_kind : ℕ → LitKind
number_kind zero = Str
number_kind (suc zero) = ByteStr
number_kind (suc (suc zero)) = CStr
number_kind (suc (suc (suc zero))) = Byte
number_kind (suc (suc (suc (suc zero)))) = Char
number_kind (suc (suc (suc (suc (suc zero))))) = Int
number_kind _ = Float

abbrev delimiter_number : Delimiter → ℕ
delimiter_number Parenthesis = 0
delimiter_number Brace = 1
delimiter_number Bracket = 2
delimiter_number None = 3

abbrev number_delimiter : ℕ → Delimiter
number_delimiter zero = Parenthesis
number_delimiter (suc zero) = Brace
number_delimiter (suc (suc zero)) = Bracket
number_delimiter _ = None

abbrev is_joint : Spacing → Bool
is_joint Joint = true
is_joint Alone = false

abbrev spacing_of : Bool → Spacing
spacing_of true = Joint
spacing_of false = Alone

pub kind_back : (k : LitKind) → number_kind (kind_number k) ≡ k
kind_back Str = refl
kind_back ByteStr = refl
kind_back CStr = refl
kind_back Byte = refl
kind_back Char = refl
kind_back Int = refl
kind_back Float = refl

pub delimiter_back : (d : Delimiter) → number_delimiter (delimiter_number d) ≡ d
delimiter_back Parenthesis = refl
delimiter_back Brace = refl
delimiter_back Bracket = refl
delimiter_back None = refl

pub spacing_back : (s : Spacing) → spacing_of (is_joint s) ≡ s
spacing_back Joint = refl
spacing_back Alone = refl

abbrev pub bytes_code : Coded Bytes
bytes_code = coded_list coded_ℕ

abbrev pub span_code : Coded Span
span_code = code_by (ℕ × ℕ) (coded× coded_ℕ coded_ℕ) (λ s. (s.lo, s.hi)) (λ p. record { lo = p.0; hi = p.1 }) (λ _. refl)

abbrev pub delim_span_code : Coded DelimSpan
delim_span_code = code_by (Span × Span) (coded× span_code span_code) (λ s. (s.opening, s.closing)) (λ p. record { opening = p.0; closing = p.1 }) (λ _. refl)

abbrev pub kind_code : Coded LitKind
kind_code = code_by ℕ coded_ℕ kind_number number_kind kind_back

abbrev pub delimiter_code : Coded Delimiter
delimiter_code = code_by ℕ coded_ℕ delimiter_number number_delimiter delimiter_back

abbrev pub spacing_code : Coded Spacing
spacing_code = code_by Bool coded_bool is_joint spacing_of spacing_back

abbrev pub ident_code : Coded Ident
ident_code = code_by (Bytes × Span) (coded× bytes_code span_code) (λ i. (i.text, i.span)) (λ p. record { text = p.0; span = p.1 }) (λ _. refl)

abbrev pub punct_code : Coded Punct
punct_code = code_by (ℕ × (Spacing × Span)) (coded× coded_ℕ (coded× spacing_code span_code)) (λ x. (x.ch, (x.spacing, x.span))) (λ p. record { ch = p.0; spacing = p.1.0; span = p.1.1 }) (λ _. refl)

abbrev pub literal_code : Coded Literal
literal_code = code_by (LitKind × (Bytes × Span)) (coded× kind_code (coded× bytes_code span_code)) (λ l. (l.kind, (l.text, l.span))) (λ p. record { kind = p.0; text = p.1.0; span = p.1.1 }) (λ _. refl)
