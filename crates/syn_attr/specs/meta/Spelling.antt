-- The grammar of nested properties. Each rule says what stands at the front of a list, which may be within invisible groups.
use Rattle.std.specs.Prelude.{◌≡◌, ◌≢◌, true, List, [], ◌∷◌, Option, Some, None, Ok, Err, codes}
use Rattle.token_core.specs.declared.error.ErrorKind.{ErrorKind}
use Rattle.token_core.specs.declared.error.ErrorKind.TheVariants.{OutOfMemory, ExpectedNestedAttribute, LiteralInNestedAttribute, TokenInNestedAttribute}
use Rattle.token_core.specs.declared.span.DelimSpan.{DelimSpan}
use Rattle.token_core.specs.declared.span.Span.{Span}
use Rattle.token_core.specs.declared.tree.Delimiter.TheVariants.{Parenthesis}
use Rattle.token_core.specs.declared.tree.Ident.{Ident}
use Rattle.token_core.specs.declared.tree.Literal.{Literal}
use Rattle.token_core.specs.declared.tree.Spacing.{Spacing}
use Rattle.token_core.specs.declared.tree.Spacing.TheVariants.{Joint}
use Rattle.token_core.specs.Front.{front}
use Rattle.token_core.specs.Groups.{paren_name}
use Rattle.token_core.specs.Lits.{is_number}
use Rattle.token_core.specs.Reads.{Follows, WholeRead, advanced, expected, finished, forked, ident_name, inside, past, refused}
use Rattle.token_core.specs.Refusal.{Refusal, fixed}
use Rattle.token_core.specs.Stream.{Stream}
use Rattle.token_core.specs.Toks.{Toks, done, word, mark, lit, group}
use Rattle.token_core.specs.Tokens as token
use Rattle.token_core.specs.Trees.{punct}
use Rattle.syn_path.specs.path.Paths.{Sep, ModPath, ModSegment, last_span, nothing, path_of, segment_of}
use Rattle.syn_path.specs.path.Spelling.{sep_at}
use Rattle.syn_attr.specs.meta.Turns.{Answer, Step, Called}

-- ---- what stands at the front

-- `::`, the first of its characters Joint: no longer mark begins with it
pub data IsSep : Sep → Toks → Toks → Type 0 where
  is_sep : {a b : Span} {j : Spacing} {l m r : Toks} → front l ≡ mark (punct token.colon_char Joint a) m → front m ≡ mark (punct token.colon_char j b) r → IsSep (sep_at a b) l r

-- `,` with this span
pub data IsComma : Span → Toks → Toks → Type 0 where
  is_comma : {a : Span} {j : Spacing} {l r : Toks} → front l ≡ mark (punct token.comma_char j a) r → IsComma a l r

-- a literal: one token that is no identifier, or a minus before a number
pub data BeginsLit : Toks → Type 0 where
  a_token : {x : Literal} {l r : Toks} → front l ≡ lit x r → BeginsLit l
  a_negative : {x : Literal} {a : Span} {j : Spacing} {l m r : Toks} → front l ≡ mark (punct token.minus_char j a) m → front m ≡ lit x r → is_number x.kind ≡ true → BeginsLit l

abbrev pub NoWord : Toks → Type 0
NoWord l = (i : Ident) (r : Toks) → front l ≢ word i r

abbrev pub NoSep : Toks → Type 0
NoSep l = (p : Sep) (r : Toks) → IsSep p l r → ⊥

abbrev pub NoComma : Toks → Type 0
NoComma l = (a : Span) (r : Toks) → IsComma a l r → ⊥

abbrev pub NoParentheses : Toks → Type 0
NoParentheses l = (d : DelimSpan) (c r : Toks) → front l ≢ group Parenthesis d c r

-- ---- the path of a property

-- a leading `::`, where one stands
pub data IsLeading : Option Sep → Toks → Toks → Type 0 where
  no_leading : {l : Toks} → NoSep l → IsLeading None l l
  leading : {p : Sep} {l r : Toks} → IsSep p l r → IsLeading (Some p) l r

-- identifiers, keywords too, joined by `::`: none after the last
pub data AreSegments : List ModSegment → List Sep → Toks → Toks → Type 0 where
  last_segment : {i : Ident} {l r : Toks} → front l ≡ word i r → AreSegments (segment_of nothing i ∷ []) [] l r
  more_segments : {i : Ident} {p : Sep} {all : List ModSegment} {seps : List Sep} {l m n r : Toks} → front l ≡ word i m → IsSep p m n → AreSegments all seps n r →
      AreSegments (segment_of nothing i ∷ all) (p ∷ seps) l r

pub data IsPropertyPath : ModPath → Toks → Toks → Type 0 where
  a_property_path : {o : Option Sep} {all : List ModSegment} {seps : List Sep} {l m r : Toks} → IsLeading o l m → AreSegments all seps m r → IsPropertyPath (path_of o (all, seps)) l r

-- ---- where no property begins

-- what stands in the place of the first identifier: nothing, a literal, or another token
pub data NoFirst : Toks → ErrorKind → Type 0 where
  nothing_left : {l : Toks} → front l ≡ done → NoFirst l ExpectedNestedAttribute
  a_literal : {l : Toks} → BeginsLit l → NoFirst l LiteralInNestedAttribute
  another : {l : Toks} → front l ≢ done → NoWord l → (BeginsLit l → ⊥) → NoFirst l TokenInNestedAttribute

-- identifiers with a `::` after each, up to where there is none
pub data Breaks : Toks → Toks → Type 0 where
  no_word : {l : Toks} → NoWord l → Breaks l l
  past_word : {i : Ident} {p : Sep} {l m n r : Toks} → front l ≡ word i m → IsSep p m n → Breaks n r → Breaks l r

-- the same position, with these tokens before it
abbrev pub before : Stream → Toks → Stream
before s l = record s { rest = l }

-- The refusal points at what stands there; where nothing is left, it says so and points at the end of the scope.
pub data NoPath (s : Stream) : Refusal → Type 0 where
  -- no identifier after the optional `::`
  no_first : {o : Option Sep} {k : ErrorKind} {l : Toks} → IsLeading o s.rest l → NoFirst l k → NoPath s (refused k (fixed k) (before s l))
  -- none after a later one
  breaks_off : {o : Option Sep} {i : Ident} {p : Sep} {l m n r : Toks} → IsLeading o s.rest l → front l ≡ word i m → IsSep p m n → Breaks n r → NoPath s (expected ident_name (before s r))

-- ---- properties

-- what a refusal is where it isn't for want of memory
abbrev pub Unless : Refusal → Type 0 → Type 0
Unless e P = e.kind ≢ OutOfMemory → P

-- after a path: at what follows it, just after its last identifier
abbrev pub past_path : Stream → ModPath → Toks → Stream
past_path s p r = past s r (last_span p.segments.0 s.last)

-- A property: its path, with which no `::` goes on, and a call at it. The call leaves the stream further on, with the left-over tree that it had.
pub record Property {F : Type 0} (step : Step F) (f : F) (s : Stream) (answer : Answer) (t : Stream) (g : F) : Type 0 where
  pub path : ModPath
  pub rest : Toks
  pub after : Stream
  pub spelt : IsPropertyPath path s.rest rest
  pub apart : NoSep rest
  pub call : Called step f path (forked (past_path s path rest)) answer after g
  pub later : Follows (forked (past_path s path rest)) after
  pub stands : t ≡ advanced (past_path s path rest) after

-- Properties with a comma between each two, and perhaps after the last. An error is the last answer.
pub data AreProperties {F : Type 0} (step : Step F) : F → Stream → Answer → Stream → F → Type 0 where
  -- where a property should begin there is none
  no_path : {f : F} {s t : Stream} {e : Refusal} → Unless e (NoPath s e) → AreProperties step f s (Err e) t f
  -- the call answers an error
  stopped : {f g : F} {s t : Stream} {e : Refusal} → Property step f s (Err e) t g → AreProperties step f s (Err e) t g
  -- nothing is left after it
  last : {f g : F} {s t : Stream} → Property step f s (Ok tt) t g → front t.rest ≡ done → AreProperties step f s (Ok tt) t g
  -- neither is nothing left, nor is there a comma
  no_comma : {f g : F} {s a t : Stream} {e : Refusal} → Property step f s (Ok tt) a g → front a.rest ≢ done → Unless e (NoComma a.rest × (e ≡ expected (codes "`,`") a)) → AreProperties step f s (Err e) t g
  -- nothing is left after its comma
  last_comma : {f g : F} {s a : Stream} {c : Span} {r : Toks} → Property step f s (Ok tt) a g → IsComma c a.rest r → front r ≡ done → AreProperties step f s (Ok tt) (past a r c) g
  -- the next property follows
  next : {f g h : F} {s a t : Stream} {c : Span} {r : Toks} {answer : Answer} → Property step f s (Ok tt) a g → IsComma c a.rest r → front r ≢ done →
      AreProperties step g (past a r c) answer t h → AreProperties step f s answer t h

-- the calls lead the closure, one after the other, on from the state in which it was handed in
abbrev pub Listed : {F : Type 0} → Step F → F → Stream → Answer → Stream → Type 0
Listed {F = F} step f s r t = (g : F) × AreProperties step f s r t g

-- of which there may be none
pub data MayList {F : Type 0} (step : Step F) (f : F) : Stream → Answer → Stream → Type 0 where
  none : {s : Stream} → front s.rest ≡ done → MayList step f s (Ok tt) s
  some : {s t : Stream} {answer : Answer} → front s.rest ≢ done → Listed step f s answer t → MayList step f s answer t

-- a whole read of them
abbrev pub ListsAll : {F : Type 0} → Step F → F → Stream → Answer → Type 0
ListsAll step f s r = WholeRead (λ old a new. MayList step f old (Ok a) new) (λ old e. (new : Stream) × MayList step f old (Err e) new) s r

-- in parentheses, of which there is at least one: the content is a stream of its own, which is finished after the last
pub data Encloses {F : Type 0} (step : Step F) (f : F) : Stream → Answer → Stream → Type 0 where
  no_parentheses : {s t : Stream} {e : Refusal} → Unless e (NoParentheses s.rest × (e ≡ expected paren_name s)) → Encloses step f s (Err e) t
  refused_inside : {s t : Stream} {d : DelimSpan} {c r : Toks} {e : Refusal} → front s.rest ≡ group Parenthesis d c r → Listed step f (inside s d c r) (Err e) t → Encloses step f s (Err e) (past s r d.closing)
  all_inside : {s t : Stream} {d : DelimSpan} {c r : Toks} → front s.rest ≡ group Parenthesis d c r → Listed step f (inside s d c r) (Ok tt) t → Encloses step f s (Ok tt) (finished t (past s r d.closing))
