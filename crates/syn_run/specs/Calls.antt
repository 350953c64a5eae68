-- What a call from C says, and what becomes of the caller's room.
use Rattle.std.specs.Prelude.{◌≡◌, ◌⊎◌, ◌+◌, ◌<◌, ◌≤◌, ◌++◌, ℕ, [], Option, Some, None, Result, Ok, Err, drop, length, codes, IsUtf8}
use Rattle.token_core.specs.declared.error.ErrorKind.{ErrorKind}
use Rattle.token_core.specs.declared.error.ErrorKind.TheVariants.{OutOfMemory, Expected, Unexpected, Custom, ExpectedDelimiter, ExpectedPathSegment, ExpectedPathIdent, ExpectedAttributeArguments, ExpectedParentheses, TokenInAttribute, ExpectedMetaArguments, ExpectedParenthesis, ExpectedMetaValue, ExpectedEquals, AttributeInAttribute, ExpectedNestedAttribute, LiteralInNestedAttribute, TokenInNestedAttribute, UnclosedDelimiter, UnexpectedClosingDelimiter, UnknownToken, UnterminatedToken, DocComment, MalformedNumber, BinderWithQuestion, GenericsOnWhere, CaptureNotAllowed, ConditionalConstNotAllowed, ConstNotAllowed, NoTraitInObject, NoTraitInImpl, RangeWithoutEnd, OpenRangeInSlice, BoundModifiersNotSupported, NestedTooDeep}
use Rattle.token_core.specs.Toks.{Bytes}
use Rattle.token_core.specs.Refusal.{Refusal}
use Rattle.token_text.specs.declared.piece.Docs.TheVariants.{Read}
use Rattle.token_text.specs.Note as note
use Rattle.token_text.specs.Wholes.{text_end}
use Rattle.syn_readers.specs.Readers.{Category}
use Rattle.syn_run.specs.declared.call.Call.{Call}
use Rattle.syn_run.specs.declared.readers.Reader.{Reader}
use Rattle.syn_run.specs.Table.{named, name_at}
use Rattle.syn_run.specs.Run.{RepliesWithin}

-- the number of a kind
unfoldable pub number : ErrorKind → ℕ
number OutOfMemory = 0
number Expected = 1
number Unexpected = 2
number Custom = 3
number ExpectedDelimiter = 4
number ExpectedPathSegment = 5
number ExpectedPathIdent = 6
number ExpectedAttributeArguments = 7
number ExpectedParentheses = 8
number TokenInAttribute = 9
number ExpectedMetaArguments = 10
number ExpectedParenthesis = 11
number ExpectedMetaValue = 12
number ExpectedEquals = 13
number AttributeInAttribute = 14
number ExpectedNestedAttribute = 15
number LiteralInNestedAttribute = 16
number TokenInNestedAttribute = 17
number UnclosedDelimiter = 18
number UnexpectedClosingDelimiter = 19
number UnknownToken = 20
number UnterminatedToken = 21
number DocComment = 22
number MalformedNumber = 23
number BinderWithQuestion = 24
number GenericsOnWhere = 25
number CaptureNotAllowed = 26
number ConditionalConstNotAllowed = 27
number ConstNotAllowed = 28
number NoTraitInObject = 29
number NoTraitInImpl = 30
number RangeWithoutEnd = 31
number OpenRangeInSlice = 32
number BoundModifiersNotSupported = 33
number NestedTooDeep = 34

-- What a call comes to.
pub data Came : Type 0 where
  -- the text of a tree's print, or a note
  told : Bytes → Came
  -- the text is refused
  refused : Refusal → Came
  -- something is not UTF-8
  not_utf8 : Came
  -- there is no such reader
  unknown : Came
  -- no memory is left for a note
  no_memory : Came

-- the text that says it, the status, the number of why there is none, and the place in the text
abbrev pub said : Came → Bytes
said (told t) = t
said (refused e) = e.text
said not_utf8 = codes "input is not UTF-8"
said unknown = codes "unknown reader"
said no_memory = codes "out of memory"

abbrev pub status : Came → ℕ
status (told t) = 0
status (refused e) = 1
status not_utf8 = 1
status unknown = 2
status no_memory = 1

abbrev pub kind : Came → ℕ
kind (told t) = 0
kind (refused e) = 16 + number e.kind
kind not_utf8 = 2
kind unknown = 1
kind no_memory = 16

abbrev pub place : Bytes → Came → ℕ × ℕ
place text (told t) = (0, 0)
place text (refused e) = note.place_of text e
place text not_utf8 = (0, 0)
place text unknown = (0, 0)
place text no_memory = (0, 0)

-- The room takes a text at its front, and the status is this; or it is too short, stays as it is, and the status is 3.
abbrev pub Takes : Bytes → ℕ → Bytes → Bytes → ℕ → Type 0
Takes text ends old new result =
    ((length text ≤ length old) × (new ≡ text ++ drop (length text) old) × (result ≡ ends)) ⊎ ((length old < length text) × (new ≡ old) × (result ≡ 3))

-- A call says this: how long the text is, whether the room takes it or not; why there is none; and a place.
pub record Tells (text : Bytes) (ends why : ℕ) (at : ℕ × ℕ) (old new : Bytes) (call : Call) : Type 0 where
  pub bytes : call.bytes ≡ length text
  pub kind : call.kind ≡ why
  pub start : call.start ≡ at.0
  pub end : call.end ≡ at.1
  pub takes : Takes text ends old new call.status

-- A call on a text comes to one thing, for which this holds, and says it.
pub record Calls (Is : Came → Type 0) (text old new : Bytes) (call : Call) : Type 0 where
  pub came : Came
  pub is : Is came
  pub tells : Tells (said came) (status came) (kind came) (place text came) old new call

-- ---- a read

abbrev pub of_answer : Result Bytes Refusal → Came
of_answer (Ok t) = told t
of_answer (Err e) = refused e

-- what a reader, within a limit and in the scope of the text's end, comes to, where comments of documentation are read
abbrev pub Answers : {A : Type 0} → ℕ → Category A → Bytes → Came → Type 0
Answers limit C text came = (r : Result Bytes Refusal) × RepliesWithin Read limit C (text_end text) text (λ t. t) r × (came ≡ of_answer r)

abbrev pub Comes : {T : Reader → Type 0} → ℕ → ((r : Reader) → Category (T r)) → Option Reader → Bytes → Came → Type 0
Comes limit of None text came = came ≡ unknown
Comes limit of (Some r) text came = (¬ IsUtf8 text × (came ≡ not_utf8)) ⊎ Answers limit (of r) text came

abbrev pub Reads : {T : Reader → Type 0} → ℕ → ((r : Reader) → Category (T r)) → Bytes → Bytes → Bytes → Bytes → Call → Type 0
Reads limit of name text = Calls (λ came. (¬ IsUtf8 name × (came ≡ unknown)) ⊎ Comes limit of (named name) text came) text

-- ---- a note

-- it is the note for a message at a place, unless memory runs out
abbrev pub IsNote : Bytes → Bytes → Bytes → ℕ × ℕ → Came → Type 0
IsNote name text message at came = (came ≡ told (note.note name text message at.0 at.1)) ⊎ (came ≡ no_memory)

-- where all three are UTF-8
abbrev pub Notes : Bytes → Bytes → Bytes → ℕ × ℕ → Bytes → Bytes → Call → Type 0
Notes name text message at =
    Calls (λ came. ((¬ (IsUtf8 name × IsUtf8 text × IsUtf8 message)) × (came ≡ not_utf8)) ⊎ IsNote name text message at came) text

-- ---- the names of the readers

abbrev pub of_name : Option Bytes → Came
of_name None = unknown
of_name (Some name) = told name

-- it is the name of the reader that stands there in the table
abbrev pub Names : ℕ → Bytes → Bytes → Call → Type 0
Names index = Calls (λ came. came ≡ of_name (name_at index)) []
