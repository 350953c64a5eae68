-- What a type in an invisible group is, and which list it spells with what follows the group: each case leaves no other.
use Rattle.std.specs.Prelude.{◌≡◌, Bool, true, false, ◌&&◌, not, List, [], Option, Some, None, Result, Ok, Err}
use Rattle.syn_forms.specs.declared.places.TypePlace.TheVariants.{Plus}
use Rattle.syn_forms.specs.paths.Reading.{goes_on, longer, path_with}
use Rattle.syn_path.specs.declared.path.PathStyle.TheVariants.{AsWritten}
use Rattle.syn_ty.specs.declared.ty.TypeOf.TheVariants as v
use Rattle.syn_ty.specs.path.Paths.{Sep}
use Rattle.syn_ty.specs.path.Spelling.{AreSegments, IsPath}
use Rattle.syn_ty.specs.ty.Parts.{Manner, is_clear, End, Parts}
use Rattle.syn_ty.specs.ty.Reading.{as_path, has_arguments, path_within, qself_in, sees_further_arguments, sees_further_segment, with_path}
use Rattle.syn_ty.specs.ty.Trees.{Path, PathArguments, PathSegment, TypePath, TypeTree}
use Rattle.syn_ty.specs.ty.Types.{group_with, qualified_with}
use Rattle.token_core.specs.declared.span.DelimSpan.{DelimSpan}
use Rattle.token_core.specs.declared.token.GroupToken.{GroupToken}
use Rattle.token_core.specs.Groups.{group_token, next_invisible}
use Rattle.token_core.specs.Rebuilt.{Visible}
use Rattle.token_core.specs.Refusal.{Refusal}
use Rattle.token_core.specs.Spellings.{IsMark}
use Rattle.token_core.specs.Stream.{Stream}
use Rattle.token_core.specs.Toks.{Toks, done}

-- a path that takes the arguments which follow
abbrev pub takes_arguments : {A E : Type 0} → Option (TypePath A E) → Bool
takes_arguments None = false
takes_arguments (Some p) = not (has_arguments (path_within p))

module _ {A E : Type 0} (part : Manner → Parts A E) (how : Manner) where
  -- A path goes on up to where no `::` follows, but one before parentheses: with nothing, or with `::` and segments.
  pub data GoesOn (p : Path A E) : Path A E → Toks → Toks → Type 0 where
    no_further : {r : Toks} → goes_on r ≡ false → GoesOn p p r r
    further : {c : Sep} {xs : List (PathSegment A E)} {cs : List Sep} {l m r : Toks} → IsMark (is_clear how) c l m → AreSegments part how AsWritten xs cs m r → goes_on r ≡ false → GoesOn p (longer p c (xs, cs)) l r

  -- What the type x in a group becomes, where the list goes on after the group.
  pub data Becomes (g : GroupToken) (x : TypeTree A E) : TypeTree A E → Toks → Toks → Type 0 where
    -- `::` and an identifier follow a path: it goes on with these segments
    segments : {p : TypePath A E} {q : Path A E} {l r : Toks} → sees_further_segment l ≡ true → as_path x ≡ Some p → GoesOn (path_within p) q l r → Becomes g x (v.Path (with_path p q)) l r
    -- they follow another type: it qualifies the path which they begin
    qualifies : {q : Path A E} {l r : Toks} → sees_further_segment l ≡ true → as_path x ≡ None → IsPath part how AsWritten q l r → goes_on r ≡ false → Becomes g x (v.Path (qualified_with [] (Some (qself_in g x)) q)) l r
    -- `<`, or `::` and `<`, follow a path whose last segment has no arguments: it takes them, and goes on
    arguments : {p : TypePath A E} {a : PathArguments A E} {q : Path A E} {l m r : Toks} → sees_further_segment l ≡ false → sees_further_arguments l ≡ true → as_path x ≡ Some p → has_arguments (path_within p) ≡ false →
        (part how).arguments a l m → GoesOn (path_with a (path_within p)) q m r → Becomes g x (v.Path (with_path p q)) l r
    -- else the group is a type of its own
    alone : {r : Toks} → sees_further_segment r ≡ false → (sees_further_arguments r && takes_arguments (as_path x)) ≡ false → Becomes g x (v.Group (group_with [] g x)) r r

  -- An invisible group whose content is a type, or again such a group with what follows it there; and what follows the group.
  pub data IsGrouped : TypeTree A E → Toks → Toks → Type 0 where
    a_group : {s : DelimSpan} {e : End} {x y : TypeTree A E} {l c k r : Toks} → next_invisible l ≡ Some (s, c, k) → (part how).ty Plus e x c done → Becomes (group_token s) x y k r → IsGrouped y l r
    a_group_in_a_group : {s : DelimSpan} {x y : TypeTree A E} {l c k r : Toks} → next_invisible l ≡ Some (s, c, k) → IsGrouped x c done → Becomes (group_token s) x y k r → IsGrouped y l r

-- A list that begins with an invisible group: after it there is no other, and in it none either, but that its content may again be such a list.
pub data InGroups : Toks → Type 0 where
  in_one : {s : DelimSpan} {l c k : Toks} → next_invisible l ≡ Some (s, c, k) → Visible c → Visible k → InGroups l
  in_another : {s : DelimSpan} {l c k : Toks} → next_invisible l ≡ Some (s, c, k) → InGroups c → Visible k → InGroups l

-- A read took what its answer spells, where it began at such a list and in the end no finished group has a tree left over.
abbrev pub TakesGroup : {A : Type 0} → (A → Toks → Toks → Type 0) → Stream → Result A Refusal → Stream → Type 0
TakesGroup Is s (Ok a) t = InGroups s.rest → t.left ≡ None → Is a s.rest t.rest
TakesGroup Is s (Err e) t = Unit {0}
