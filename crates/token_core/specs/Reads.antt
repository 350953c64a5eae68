-- What the tests and reads of a stream answer, and where they leave it.
use Rattle.std.specs.Prelude.{◌≡◌, ◌≢◌, ℕ, Bool, true, false, not, ◌⊎◌, ◌==◌, if◌then◌else◌, List, [], ◌∷◌, ◌++◌, Option, Some, None, is_some, Result, Ok, Err, codes}
use Rattle.std.specs.Str.{bytes_eq}
use denote.Ref.{Bor}
use Rattle.token_core.specs.declared.tree.Delimiter.{Delimiter}
use Rattle.token_core.specs.declared.tree.Delimiter.TheVariants as d
use Rattle.token_core.specs.declared.tree.Spacing.{Spacing}
use Rattle.token_core.specs.declared.tree.Spacing.TheVariants.{Joint, Alone}
use Rattle.token_core.specs.Trees.{TokenStream}
use Rattle.token_core.specs.declared.span.Span.{Span}
use Rattle.token_core.specs.declared.span.DelimSpan.{DelimSpan}
use Rattle.token_core.specs.declared.tree.Ident.{Ident}
use Rattle.token_core.specs.declared.tree.Punct.{Punct}
use Rattle.token_core.specs.declared.tree.Literal.{Literal}
use Rattle.token_core.specs.declared.mark.Spans.{Spans}
use Rattle.token_core.specs.declared.error.ErrorKind.{ErrorKind}
use Rattle.token_core.specs.declared.error.ErrorKind.TheVariants.{OutOfMemory, Expected, Unexpected, ExpectedDelimiter}
use Rattle.token_core.specs.Toks.{Bytes, Toks, done, word, mark, lit, group, enter, leave}
use Rattle.token_core.specs.Spans.{none}
use Rattle.token_core.specs.Refusal.{Refusal, refusal, fixed}
use Rattle.token_core.specs.Front.{front, past_ends}
use Rattle.token_core.specs.Keywords.{is_keyword}
use Rattle.token_core.specs.Rebuilt.{stream_of}
use Rattle.token_core.specs.Positions.{an_end, items}
use Rattle.token_core.specs.Stream.{Stream}

-- ---- what stands at the front

abbrev pub as_word : Toks → Option (Ident × Toks)
as_word (word i k) = Some (i, k)
as_word _ = None

abbrev pub as_punct : Toks → Option (Punct × Toks)
as_punct (mark p k) = Some (p, k)
as_punct _ = None

abbrev pub as_lit : Toks → Option (Literal × Toks)
as_lit (lit l k) = Some (l, k)
as_lit _ = None

abbrev pub as_group : Toks → Option (Delimiter × DelimSpan × Toks × Toks)
as_group (group d s c k) = Some (d, s, c, k)
as_group _ = None

abbrev pub is_end : Toks → Bool
is_end done = true
is_end _ = false

abbrev pub is_joint : Spacing → Bool
is_joint Joint = true
is_joint Alone = false

abbrev pub same_delimiter : Delimiter → Delimiter → Bool
same_delimiter d.Parenthesis d.Parenthesis = true
same_delimiter d.Brace d.Brace = true
same_delimiter d.Bracket d.Bracket = true
same_delimiter d.None d.None = true
same_delimiter _ _ = false

-- ---- marks: each character but the last is Joint, and the last may have either spacing

abbrev pub three : Span → Span → Span → Spans
three a b c = record { first = a; second = b; third = c }

-- a character before others; a short mark repeats its last span
abbrev pub put_first : Span → Option (Spans × Toks) → Option (Spans × Toks)
put_first a None = None
put_first a (Some q) = Some (three a q.0.first q.0.second, q.1)

abbrev pub past_next : ℕ → Bool → (Toks → Option (Spans × Toks)) → Option (Punct × Toks) → Option (Spans × Toks)
past_next c last f None = None
past_next c true f (Some p) = if p.0.ch == c then Some (three p.0.span p.0.span p.0.span, p.1) else None
past_next c false f (Some p) = if p.0.ch == c then (if is_joint p.0.spacing then put_first p.0.span (f p.1) else None) else None

abbrev pub is_last : List ℕ → Bool
is_last [] = true
is_last (c ∷ cs) = false

-- the spans of a mark of these characters, and what follows it
abbrev pub past_mark : List ℕ → Toks → Option (Spans × Toks)
past_mark [] l = Some (three none none none, l)
past_mark (c ∷ cs) l = past_next c (is_last cs) (past_mark cs) (as_punct (front l))

-- ---- tests

unfoldable pub sees_mark : List ℕ → Toks → Bool
sees_mark cs l = is_some (past_mark cs l)

abbrev pub word_meets : (Bytes → Bool) → Option (Ident × Toks) → Bool
word_meets test None = false
word_meets test (Some p) = test p.0.text

-- an identifier whose text meets the test
unfoldable pub sees_word : (Bytes → Bool) → Toks → Bool
sees_word test l = word_meets test (as_word (front l))

abbrev pub group_meets : Delimiter → Option (Delimiter × DelimSpan × Toks × Toks) → Bool
group_meets d None = false
group_meets d (Some p) = same_delimiter p.0 d

unfoldable pub sees_group : Delimiter → Toks → Bool
sees_group d l = group_meets d (as_group (front l))

-- nothing but empty invisible groups is left
unfoldable pub is_done : Toks → Bool
is_done l = is_end (front l)

-- a quote that is Joint counts with the identifier after it, as a lifetime
abbrev pub after_quote : Toks → Option (Ident × Toks) → Toks
after_quote k None = k
after_quote k (Some p) = p.1

abbrev pub after_mark : Punct → Toks → Toks
after_mark p k = if p.ch == 39 then (if is_joint p.spacing then after_quote k (as_word (front k)) else k) else k

abbrev pub after_front : Toks → Option Toks
after_front done = None
after_front (word i k) = Some k
after_front (mark p k) = Some (after_mark p k)
after_front (lit l k) = Some k
after_front (group d s c k) = Some k
after_front (enter s k) = None
after_front (leave k) = None

-- what follows the first tree
unfoldable pub after_one : Toks → Option Toks
after_one l = after_front (front l)

abbrev pub meets : (Toks → Bool) → Option Toks → Bool
meets test None = false
meets test (Some l) = test l

abbrev pub second : (Toks → Bool) → Toks → Bool
second test l = meets test (after_one l)

abbrev pub third : (Toks → Bool) → Toks → Bool
third test l = meets (second test) (after_one l)

-- ---- readers

abbrev pub Outcome : Type 0 → Type 0
Outcome A = Result (A × Stream) Refusal

abbrev pub Reader : Type 0 → Type 0
Reader A = Stream → Outcome A

abbrev pub and_then : {A B : Type 0} → Outcome A → (A → Reader B) → Outcome B
and_then (Ok p) f = f p.0 p.1
and_then (Err e) f = Err e

infixl 10 ◌>>=◌
abbrev pub ◌>>=◌ : {A B : Type 0} → Reader A → (A → Reader B) → Reader B
p >>= f = λ i. and_then (p i) f

infixl 10 ◌>>◌
abbrev pub ◌>>◌ : {A B : Type 0} → Reader A → Reader B → Reader B
p >> q = p >>= (λ _. q)

abbrev pub pure : {A : Type 0} → A → Reader A
pure a = λ i. Ok (a, i)

infixr 11 ◌<$>◌
abbrev pub ◌<$>◌ : {A B : Type 0} → (A → B) → Reader A → Reader B
f <$> p = p >>= (λ x. pure (f x))

-- a test, which takes nothing
abbrev pub peek : (Toks → Bool) → Reader Bool
peek test = λ s. Ok (test s.rest, s)

-- what a reader reads where a test sees it
abbrev pub optional : {A : Type 0} → (Toks → Bool) → Reader A → Reader (Option A)
optional sees p = do
  there ← peek sees
  if there then Some <$> p else pure None

-- ---- refusals: they point at the first token, and where none is left at the end of the scope

abbrev pub span_at : Toks → Span → Span
span_at done s = s
span_at (word i k) s = i.span
span_at (mark p k) s = p.span
span_at (lit l k) s = l.span
span_at (group d p c k) s = p.opening
span_at (enter p k) s = s
span_at (leave k) s = s

unfoldable pub here : Stream → Span
here s = span_at (front s.rest) s.scope.at

abbrev pub at_end : Bool → Bytes → Bytes
at_end true t = codes "unexpected end of input, " ++ t
at_end false t = t

unfoldable pub refused : ErrorKind → Bytes → Stream → Refusal
refused k t s = refusal k (at_end (is_done s.rest) t) (here s) (here s)

abbrev pub refuse : {A : Type 0} → ErrorKind → Reader A
refuse k = λ s. Err (refused k (fixed k) s)

unfoldable pub expected_text : Bytes → Bytes
expected_text name = codes "expected " ++ name

abbrev pub expected : Bytes → Stream → Refusal
expected name = refused Expected (expected_text name)

-- ---- reads of one token

abbrev pub past : Stream → Toks → Span → Stream
past s l last = record s { rest = l; last = last }

abbrev pub word_past : Stream → Option (Ident × Toks) → Option (Ident × Stream)
word_past s None = None
word_past s (Some p) = Some (p.0, past s p.1 p.0.span)

-- the identifier at the front, and the stream after it
unfoldable pub next_word : Stream → Option (Ident × Stream)
next_word s = word_past s (as_word (front s.rest))

abbrev pub goes_on : {A : Type 0} → (A → Span) → Refusal → Stream → Option (A × Toks) → Outcome A
goes_on end e s None = Err e
goes_on end e s (Some p) = Ok (p.0, past s p.1 (end p.0))

unfoldable pub read_mark : List ℕ → Bytes → Reader Spans
read_mark cs name s = goes_on (λ m. m.third) (expected name s) s (past_mark cs s.rest)

abbrev pub word_if : (Bytes → Bool) → Refusal → Option (Ident × Stream) → Outcome Ident
word_if test e None = Err e
word_if test e (Some p) = if test p.0.text then Ok p else Err e

-- an identifier whose text meets the test
unfoldable pub read_word : (Bytes → Bool) → Bytes → Reader Ident
read_word test name s = word_if test (expected name s) (next_word s)

abbrev pub any_text : Bytes → Bool
any_text t = true

abbrev pub is_ident : Bytes → Bool
is_ident t = not (is_keyword t)

abbrev pub is_text : Bytes → Bytes → Bool
is_text w t = bytes_eq t w

abbrev pub ident_name : Bytes
ident_name = codes "identifier"

abbrev pub builtin_text : Bytes
builtin_text = codes "builtin"

-- ---- groups

-- a child stream: a group's content, after which its end stands and then what follows the group
abbrev pub inside : Stream → DelimSpan → Toks → Toks → Stream
inside s d c k = record { rest = c; left = None; last = none; scope = record { at = d.closing; after = an_end ∷ (items k ++ s.scope.after) } }

abbrev pub opened : Delimiter → Refusal → Stream → Option (Delimiter × DelimSpan × Toks × Toks) → Outcome (DelimSpan × Stream)
opened d e s None = Err e
opened d e s (Some p) = if same_delimiter p.0 d then Ok ((p.1, inside s p.1 p.2 p.3), past s p.3 p.1.closing) else Err e

-- the child stream of the group at the front
unfoldable pub open_group : Delimiter → Bytes → Reader (DelimSpan × Stream)
open_group d name s = opened d (expected name s) s (as_group (front s.rest))

abbrev pub first_of : Option Span → Option Span → Option Span
first_of None b = b
first_of (Some a) b = Some a

-- the span of what is left, if anything is
abbrev pub left_here : Stream → Option Span
left_here s = if is_done s.rest then None else Some (here s)

abbrev pub leaves : Stream → Option Span
leaves s = first_of s.left (left_here s)

-- after a child's first left-over tree is handed on
unfoldable pub finished : Stream → Stream → Stream
finished child s = record s { left = first_of s.left (leaves child) }

abbrev pub closing : {A : Type 0} → DelimSpan → Stream → Outcome A → Outcome (DelimSpan × A)
closing d s (Err e) = Err e
closing d s (Ok p) = Ok ((d, p.0), finished p.1 s)

-- what a reader reads in the group at the front
abbrev pub in_group : {A : Type 0} → Delimiter → Bytes → Reader A → Reader (DelimSpan × A)
in_group d name p = open_group d name >>= (λ g. λ s. closing g.0 s (p g.1))

abbrev pub Body : Type 0
Body = Delimiter × DelimSpan × TokenStream

abbrev pub bodied : Stream → Option (Delimiter × DelimSpan × Toks × Toks) → Outcome Body
bodied s None = Err (refused ExpectedDelimiter (fixed ExpectedDelimiter) s)
bodied s (Some p) = Ok ((p.0, p.1, stream_of p.2), past s p.3 p.1.closing)

-- the visible group at the front, after the ends of invisible groups
unfoldable pub delimited : Reader Body
delimited s = bodied s (as_group (past_ends s.rest))

-- ---- suffixes

pub data IsSuffix : Toks → Toks → Type 0 where
  all_of : {t : Toks} → IsSuffix t t
  past_word : {r k : Toks} (i : Ident) → IsSuffix r k → IsSuffix r (word i k)
  past_punct : {r k : Toks} (p : Punct) → IsSuffix r k → IsSuffix r (mark p k)
  past_lit : {r k : Toks} (l : Literal) → IsSuffix r k → IsSuffix r (lit l k)
  past_group : {r k : Toks} (d : Delimiter) (s : DelimSpan) (c : Toks) → IsSuffix r k → IsSuffix r (group d s c k)
  past_enter : {r k : Toks} (s : DelimSpan) → IsSuffix r k → IsSuffix r (enter s k)
  past_leave : {r k : Toks} → IsSuffix r k → IsSuffix r (leave k)

-- ---- positions

abbrev pub forked : Stream → Stream
forked s = record s { left = None }

-- a fork of a stream, or what it became
pub record IsFork (fork s : Stream) : Type 0 where
  pub suffix : IsSuffix fork.rest s.rest
  pub scope : fork.scope ≡ s.scope

-- what was forked goes on from the fork
abbrev pub advanced : Stream → Stream → Stream
advanced s f = record f { left = first_of s.left f.left }

-- ---- what a function that reads ensures: the outcome, want of memory aside

abbrev pub Reads : {A : Type 0} → Outcome A → Result A Refusal → Stream → Type 0
Reads outcome (Ok a) new = outcome ≡ Ok (a, new)
Reads outcome (Err e) new = e.kind ≢ OutOfMemory → outcome ≡ Err e

-- the same, of an identifier that is lent
abbrev pub lent : Result (Bor Ident) Refusal → Result Ident Refusal
lent (Ok i) = Ok i.now
lent (Err e) = Err e

-- ---- what a later state of a stream keeps

-- a later state of a stream: at a suffix, with the left-over token that it had, in the same scope
pub record Follows (old new : Stream) : Type 0 where
  pub suffix : IsSuffix new.rest old.rest
  pub kept : first_of old.left new.left ≡ new.left
  pub scope : new.scope ≡ old.scope

-- a function that reads as this reader does, and leaves the stream in a later state
abbrev pub Parses : {A : Type 0} → Reader A → Result A Refusal → Stream → Stream → Type 0
Parses p result old new = Reads (p old) result new × Follows old new

-- ---- relations of what a read may answer, for reads whose outcome is not one function

abbrev pub Parsed : {A : Type 0} → (A → Stream → Type 0) → (Refusal → Type 0) → Result A Refusal → Stream → Type 0
Parsed reads refuses (Ok a) new = reads a new
Parsed reads refuses (Err e) new = e.kind ≢ OutOfMemory → refuses e

-- ---- whole reads

-- a read answered, and left this
pub record Ends {A : Type 0} (reads : Stream → A → Stream → Type 0) (s : Stream) (a : A) (left : Option Span) : Type 0 where
  pub last : Stream
  pub read : reads s a last
  pub is : leaves last ≡ left

abbrev pub left_over : Span → Refusal
left_over at = refusal Unexpected (fixed Unexpected) at at

-- The read is refused, or it answers and leaves something over.
abbrev pub Refuses : {A : Type 0} → (Stream → A → Stream → Type 0) → (Stream → Refusal → Type 0) → Stream → Refusal → Type 0
Refuses {A = A} reads refuses s e = refuses s e ⊎ ((a : A) × (at : Span) × Ends reads s a (Some at) × (e ≡ left_over at))

-- A whole read answers what the read answers and leaves nothing over.
abbrev pub WholeRead : {A : Type 0} → (Stream → A → Stream → Type 0) → (Stream → Refusal → Type 0) → Stream → Result A Refusal → Type 0
WholeRead reads refuses s (Ok a) = Ends reads s a None
WholeRead reads refuses s (Err e) = e.kind ≢ OutOfMemory → Refuses reads refuses s e

-- what is promised of an answer, or of a refusal that is not for want of memory
abbrev pub Promised : {A : Type 0} → (Option A → Type 0) → Result A Refusal → Type 0
Promised promise (Ok a) = promise (Some a)
Promised promise (Err e) = e.kind ≢ OutOfMemory → promise None

-- an answer after which nothing is left over
abbrev pub kept : {A : Type 0} → A → Option Span → Option A
kept a None = Some a
kept a (Some at) = None

-- A whole read that begins here, where nothing was left over before, keeps the promise.
abbrev pub Keeps : {A : Type 0} → (Toks → Option A → Type 0) → Stream → Result A Refusal → Stream → Type 0
Keeps promise s (Ok a) new = s.left ≡ None → promise s.rest (kept a (leaves new))
Keeps promise s (Err e) new = e.kind ≢ OutOfMemory → s.left ≡ None → promise s.rest None

-- where nothing is promised
pub nothing_promised : {A : Type 0} (s : Stream) (r : Result A Refusal) (t : Stream) → Keeps (λ (l : Toks) (o : Option A). Unit {0}) s r t
nothing_promised s (Ok a) t = λ h. tt
nothing_promised s (Err e) t = λ k h. tt

-- the relations of a read whose outcome is a function
abbrev pub Gives : {A : Type 0} → Reader A → Stream → A → Stream → Type 0
Gives f s a new = f s ≡ Ok (a, new)

abbrev pub Fails : {A : Type 0} → Reader A → Stream → Refusal → Type 0
Fails f s e = f s ≡ Err e

-- ---- a token that may be there

abbrev pub OptionReads : {A : Type 0} → (Toks → Bool) → (Stream → A → Stream → Type 0) → Stream → Option A → Stream → Type 0
OptionReads sees reads s None new = (sees s.rest ≡ false) × (new ≡ s)
OptionReads sees reads s (Some a) new = (sees s.rest ≡ true) × reads s a new

abbrev pub OptionRefuses : (Toks → Bool) → (Stream → Refusal → Type 0) → Stream → Refusal → Type 0
OptionRefuses sees refuses s e = (sees s.rest ≡ true) × refuses s e

pub ruleset no_promise = (nothing_promised)
