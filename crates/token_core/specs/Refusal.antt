-- Refusals: what they say, and from where to where they point.
use Rattle.std.specs.Prelude.{◌≡◌, ◌≢◌, ◌⊎◌, ℕ, ◌==◌, if◌then◌else◌, [], Option, Some, None, refl, codes}
use Rattle.std.specs.Coded.{Coded, code_by, coded×, coded_ℕ}
use Rattle.token_core.specs.declared.error.ErrorKind.{ErrorKind}
use Rattle.token_core.specs.declared.error.ErrorKind.TheVariants.{OutOfMemory, Expected, Unexpected, Custom, ExpectedDelimiter, ExpectedPathSegment, ExpectedPathIdent, ExpectedAttributeArguments, ExpectedParentheses, TokenInAttribute, ExpectedMetaArguments, ExpectedParenthesis, ExpectedMetaValue, ExpectedEquals, AttributeInAttribute, ExpectedNestedAttribute, LiteralInNestedAttribute, TokenInNestedAttribute, UnclosedDelimiter, UnexpectedClosingDelimiter, UnknownToken, UnterminatedToken, DocComment, MalformedNumber, BinderWithQuestion, GenericsOnWhere, CaptureNotAllowed, ConditionalConstNotAllowed, ConstNotAllowed, NoTraitInObject, NoTraitInImpl, RangeWithoutEnd, OpenRangeInSlice, BoundModifiersNotSupported, NestedTooDeep}
use Rattle.token_core.specs.declared.span.Span.{Span}
use Rattle.token_core.specs.Toks.{Bytes}
use Rattle.token_core.specs.Spans.{none}
use Rattle.token_core.specs.Codes.{bytes_code, span_code}

pub record Refusal : Type 0 where
  pub kind : ErrorKind
  pub text : Bytes
  pub start : Span
  pub end : Span

-- the text of a kind that has one
unfoldable pub fixed : ErrorKind → Bytes
fixed OutOfMemory = codes "out of memory"
fixed Expected = []
fixed Unexpected = codes "unexpected token"
fixed Custom = []
fixed ExpectedDelimiter = codes "expected delimiter"
fixed ExpectedPathSegment = codes "expected path segment after `::`"
fixed ExpectedPathIdent = codes "expected this path to be an identifier"
fixed ExpectedAttributeArguments = []
fixed ExpectedParentheses = []
fixed TokenInAttribute = codes "unexpected token in attribute"
fixed ExpectedMetaArguments = []
fixed ExpectedParenthesis = codes "expected `(`"
fixed ExpectedMetaValue = []
fixed ExpectedEquals = codes "expected `=`"
fixed AttributeInAttribute = codes "unexpected attribute inside of attribute"
fixed ExpectedNestedAttribute = codes "expected nested attribute"
fixed LiteralInNestedAttribute = codes "unexpected literal in nested attribute, expected ident"
fixed TokenInNestedAttribute = codes "unexpected token in nested attribute, expected ident"
fixed UnclosedDelimiter = codes "unclosed delimiter"
fixed UnexpectedClosingDelimiter = codes "unexpected closing delimiter"
fixed UnknownToken = codes "unknown start of token"
fixed UnterminatedToken = codes "unterminated literal or comment"
fixed DocComment = codes "documentation comments are not supported"
fixed MalformedNumber = codes "malformed number"
fixed BinderWithQuestion = codes "`for<...>` binder not allowed with `?` trait polarity modifier"
fixed GenericsOnWhere = codes "generic parameters on `where` clauses are reserved for future use"
fixed CaptureNotAllowed = codes "`use<...>` precise capturing syntax is not allowed here"
fixed ConditionalConstNotAllowed = codes "`[const]` is not allowed here"
fixed ConstNotAllowed = codes "`const` is not allowed here"
fixed NoTraitInObject = codes "at least one trait is required for an object type"
fixed NoTraitInImpl = codes "at least one trait must be specified"
fixed RangeWithoutEnd = codes "expected range upper bound"
fixed OpenRangeInSlice = codes "range pattern is not allowed unparenthesized inside slice pattern"
fixed BoundModifiersNotSupported = codes "trait bound modifiers are not supported here"
fixed NestedTooDeep = codes "nested too deep"

abbrev pub text_or : Option Bytes → Bytes
text_or None = fixed OutOfMemory
text_or (Some t) = t

abbrev pub refusal : ErrorKind → Bytes → Span → Span → Refusal
refusal k t s e = record { kind = k; text = t; start = s; end = e }

abbrev pub custom : Span → Span → Bytes → Refusal
custom s e t = refusal Custom t s e

abbrev pub named : ErrorKind → Span → Refusal
named k s = refusal k (fixed k) s s

abbrev pub out_of_memory : Refusal
out_of_memory = named OutOfMemory none

-- the refusal that was asked for, unless its text can't be stored
abbrev pub Made : Refusal → Refusal → Type 0
Made e r = e.kind ≢ OutOfMemory → e ≡ r

-- the same, and where memory ran out it is the refusal for that
abbrev pub Stored : Refusal → Refusal → Type 0
Stored e r = (e ≡ r) ⊎ (e ≡ out_of_memory)

-- ---- a code for refusals

abbrev kind_number : ErrorKind → ℕ
kind_number OutOfMemory = 0
kind_number Expected = 1
kind_number Unexpected = 2
kind_number Custom = 3
kind_number ExpectedDelimiter = 4
kind_number ExpectedPathSegment = 5
kind_number ExpectedPathIdent = 6
kind_number ExpectedAttributeArguments = 7
kind_number ExpectedParentheses = 8
kind_number TokenInAttribute = 9
kind_number ExpectedMetaArguments = 10
kind_number ExpectedParenthesis = 11
kind_number ExpectedMetaValue = 12
kind_number ExpectedEquals = 13
kind_number AttributeInAttribute = 14
kind_number ExpectedNestedAttribute = 15
kind_number LiteralInNestedAttribute = 16
kind_number TokenInNestedAttribute = 17
kind_number UnclosedDelimiter = 18
kind_number UnexpectedClosingDelimiter = 19
kind_number UnknownToken = 20
kind_number UnterminatedToken = 21
kind_number DocComment = 22
kind_number MalformedNumber = 23
kind_number BinderWithQuestion = 24
kind_number GenericsOnWhere = 25
kind_number CaptureNotAllowed = 26
kind_number ConditionalConstNotAllowed = 27
kind_number ConstNotAllowed = 28
kind_number NoTraitInObject = 29
kind_number NoTraitInImpl = 30
kind_number RangeWithoutEnd = 31
kind_number OpenRangeInSlice = 32
kind_number BoundModifiersNotSupported = 33
kind_number NestedTooDeep = 34

abbrev number_kind : ℕ → ErrorKind
number_kind n =
    if n == 0 then OutOfMemory else (
    if n == 1 then Expected else (
    if n == 2 then Unexpected else (
    if n == 3 then Custom else (
    if n == 4 then ExpectedDelimiter else (
    if n == 5 then ExpectedPathSegment else (
    if n == 6 then ExpectedPathIdent else (
    if n == 7 then ExpectedAttributeArguments else (
    if n == 8 then ExpectedParentheses else (
    if n == 9 then TokenInAttribute else (
    if n == 10 then ExpectedMetaArguments else (
    if n == 11 then ExpectedParenthesis else (
    if n == 12 then ExpectedMetaValue else (
    if n == 13 then ExpectedEquals else (
    if n == 14 then AttributeInAttribute else (
    if n == 15 then ExpectedNestedAttribute else (
    if n == 16 then LiteralInNestedAttribute else (
    if n == 17 then TokenInNestedAttribute else (
    if n == 18 then UnclosedDelimiter else (
    if n == 19 then UnexpectedClosingDelimiter else (
    if n == 20 then UnknownToken else (
    if n == 21 then UnterminatedToken else (
    if n == 22 then DocComment else (
    if n == 23 then MalformedNumber else (
    if n == 24 then BinderWithQuestion else (
    if n == 25 then GenericsOnWhere else (
    if n == 26 then CaptureNotAllowed else (
    if n == 27 then ConditionalConstNotAllowed else (
    if n == 28 then ConstNotAllowed else (
    if n == 29 then NoTraitInObject else (
    if n == 30 then NoTraitInImpl else (
    if n == 31 then RangeWithoutEnd else (
    if n == 32 then OpenRangeInSlice else (
    if n == 33 then BoundModifiersNotSupported else (
    NestedTooDeep))))))))))))))))))))))))))))))))))

pub kind_back : (k : ErrorKind) → number_kind (kind_number k) ≡ k
kind_back OutOfMemory = refl
kind_back Expected = refl
kind_back Unexpected = refl
kind_back Custom = refl
kind_back ExpectedDelimiter = refl
kind_back ExpectedPathSegment = refl
kind_back ExpectedPathIdent = refl
kind_back ExpectedAttributeArguments = refl
kind_back ExpectedParentheses = refl
kind_back TokenInAttribute = refl
kind_back ExpectedMetaArguments = refl
kind_back ExpectedParenthesis = refl
kind_back ExpectedMetaValue = refl
kind_back ExpectedEquals = refl
kind_back AttributeInAttribute = refl
kind_back ExpectedNestedAttribute = refl
kind_back LiteralInNestedAttribute = refl
kind_back TokenInNestedAttribute = refl
kind_back UnclosedDelimiter = refl
kind_back UnexpectedClosingDelimiter = refl
kind_back UnknownToken = refl
kind_back UnterminatedToken = refl
kind_back DocComment = refl
kind_back MalformedNumber = refl
kind_back BinderWithQuestion = refl
kind_back GenericsOnWhere = refl
kind_back CaptureNotAllowed = refl
kind_back ConditionalConstNotAllowed = refl
kind_back ConstNotAllowed = refl
kind_back NoTraitInObject = refl
kind_back NoTraitInImpl = refl
kind_back RangeWithoutEnd = refl
kind_back OpenRangeInSlice = refl
kind_back BoundModifiersNotSupported = refl
kind_back NestedTooDeep = refl

abbrev pub kind_code : Coded ErrorKind
kind_code = code_by ℕ coded_ℕ kind_number number_kind kind_back

abbrev pub refusal_code : Coded Refusal
refusal_code = code_by (ErrorKind × (Bytes × (Span × Span))) (coded× kind_code (coded× bytes_code (coded× span_code span_code)))
    (λ r. (r.kind, (r.text, (r.start, r.end)))) (λ p. record { kind = p.0; text = p.1.0; start = p.1.1.0; end = p.1.1.1 }) (λ _. refl)
