-- Paths over their arguments, and over the type that qualifies them.
use Rattle.std.specs.Prelude.{ℕ, Bool, true, not, nat_eq, ◌&&◌, ◌||◌, if◌then◌else◌, List, [], ◌∷◌, ◌++◌, length, Option, Some, None}
use Rattle.syn_path.specs.declared.path.PathOf.{PathOf}
use Rattle.syn_path.specs.declared.path.PathSegmentOf.{PathSegmentOf}
use Rattle.syn_path.specs.declared.path.PathStyle.{PathStyle}
use Rattle.syn_path.specs.declared.path.PathStyle.TheVariants.{Expr, AsWritten}
use Rattle.syn_path.specs.declared.path.QSelfOf.{QSelfOf}
use Rattle.syn_path.specs.path.Paths.{Sep, segment_of, path_of}
use Rattle.syn_path.specs.path.Reading.{leading, sees_angle, sees_sep, sep}
use Rattle.token_core.specs.declared.tree.Delimiter.TheVariants.{Parenthesis}
use Rattle.token_core.specs.declared.tree.Ident.{Ident}
use Rattle.token_core.specs.Loops.{Many, joined}
use Rattle.token_core.specs.Reads.{Reader, ◌>>=◌, ◌<$>◌, pure, peek, any_text, ident_name, is_ident, is_text, read_word, sees_group, sees_word, third}
use Rattle.token_core.specs.Toks.{Bytes, Toks}
use Rattle.token_core.specs.Tokens as token

-- ---- tests

-- `super`, `self`, `crate` and `try` take no arguments
abbrev pub is_bare_word : Bytes → Bool
is_bare_word t = is_text token.super_text t || (is_text token.self_value_text t || (is_text token.crate_text t || is_text token.try_text t))

-- an `Ident` or `Self`
abbrev pub is_named_word : Bytes → Bool
is_named_word t = is_ident t || is_text token.self_type_text t

-- `::` and `<`
unfoldable pub sees_turbofish : Toks → Bool
sees_turbofish l = sees_sep l && third token.sees_lt l

-- arguments in angle brackets: in both styles after `::`, and in that of types also at a `<` that is neither `<=` nor `<<=`
abbrev pub sees_arguments : PathStyle → Toks → Bool
sees_arguments AsWritten l = sees_angle l || sees_turbofish l
sees_arguments Expr l = sees_turbofish l

-- a `::` goes on with the path, but not where parentheses follow it: there it is the bound's that they belong to
unfoldable pub goes_on : Toks → Bool
goes_on l = sees_sep l && not (third (sees_group Parenthesis) l)

-- ---- paths by their parts

module _ {G : Type 0} where
  abbrev pub with_arguments : Ident → G → PathSegmentOf G
  with_arguments i x = record { ident = i; arguments = x }

  -- as many marks as segments
  abbrev pub ends_in_mark : PathOf G → Bool
  ends_in_mark p = nat_eq (length p.segments.0) (length p.segments.1)

  -- a path and, after a `::`, further segments
  abbrev pub longer : PathOf G → Sep → Many (PathSegmentOf G) Sep → PathOf G
  longer p c all = path_of p.leading_colon (p.segments.0 ++ all.0, p.segments.1 ++ (c ∷ all.1))

  -- the arguments of the last segment, or those given where there is no segment
  abbrev pub last_arguments : G → List (PathSegmentOf G) → G
  last_arguments x [] = x
  last_arguments x (s ∷ all) = last_arguments s.arguments all

  -- with these arguments in place of the last segment's
  abbrev pub last_with : G → List (PathSegmentOf G) → List (PathSegmentOf G)
  last_with x [] = []
  last_with x (s ∷ []) = with_arguments s.ident x ∷ []
  last_with x (s ∷ t ∷ all) = s ∷ last_with x (t ∷ all)

  abbrev pub path_with : G → PathOf G → PathOf G
  path_with x p = path_of p.leading_colon (last_with x p.segments.0, p.segments.1)

-- ---- reads, over that of arguments in angle brackets; what stands for no arguments is given

module _ {G : Type 0} (none : G) (arguments : Reader G) where
  -- what follows an `Ident` or `Self`
  abbrev pub named_segment : PathStyle → Ident → Reader (PathSegmentOf G)
  named_segment style i = do
    angle ← peek (sees_arguments style)
    if angle then with_arguments i <$> arguments else pure (segment_of none i)

  unfoldable pub segment : PathStyle → Reader (PathSegmentOf G)
  segment style = do
    bare ← peek (sees_word is_bare_word)
    if bare then segment_of none <$> read_word any_text ident_name else (read_word is_named_word ident_name >>= named_segment style)

  -- segments joined by `::`, as long as a test says that one goes on
  abbrev pub segments : (Toks → Bool) → PathStyle → Reader (Many (PathSegmentOf G) Sep)
  segments more style = joined (λ first. segment style) more sep true

  unfoldable pub path : PathStyle → Reader (PathOf G)
  path style = do
    c ← leading
    all ← segments goes_on style
    pure (path_of c all)

  -- what goes on with a path that was read: in an invisible group, for one; a path that ends in a mark goes on with nothing
  unfoldable pub rest : PathStyle → PathOf G → Reader (PathOf G)
  rest style p = do
    goes ← peek (λ l. not (ends_in_mark p) && goes_on l)
    if goes then (do
      c ← sep
      all ← segments goes_on style
      pure (longer p c all)) else pure p

  -- ---- qualified paths

  -- `as` and a path in the style of types
  unfoldable pub as_path : Reader (Option (token.As × PathOf G))
  as_path = do
    there ← peek token.sees_as
    if there then (do
      w ← token.as_word
      p ← path AsWritten
      pure (Some (w, p))) else pure None

-- The type in `<..>` with the path after it: its position is that of the first segment after the path behind `as`; without one the `::` is the path's
-- leading colon.
abbrev pub qself_of : {T : Type 0} → token.Lt → T → ℕ → Option token.As → token.Gt → QSelfOf T
qself_of l x n w g = record { lt_token = l; ty = x; position = n; as_token = w; gt_token = g }

module _ {T G : Type 0} where
  abbrev pub qualified_of : token.Lt → T → Option (token.As × PathOf G) → token.Gt → Sep → Many (PathSegmentOf G) Sep → QSelfOf T × PathOf G
  qualified_of l x None g c all = (qself_of l x 0 None g, path_of (Some c) all)
  qualified_of l x (Some a) g c all = (qself_of l x (length a.1.segments.0) (Some a.0) g, longer a.1 c all)

module _ {T G : Type 0} (typ : Reader T) (none : G) (arguments : Reader G) where
  -- the segments after it don't stop before parentheses
  unfoldable pub qualified : PathStyle → Reader (QSelfOf T × PathOf G)
  qualified style = do
    l ← token.lt
    x ← typ
    a ← as_path none arguments
    g ← token.gt
    c ← sep
    all ← segments none arguments sees_sep style
    pure (qualified_of l x a g c all)

  -- a path, qualified where a `<` stands
  unfoldable pub maybe_qualified : PathStyle → Reader (Option (QSelfOf T) × PathOf G)
  maybe_qualified style = do
    angle ← peek token.sees_lt
    if angle then (λ p. (Some p.0, p.1)) <$> qualified style else (λ p. (None, p)) <$> path none arguments style
