-- The marks of ranges: what reads of them answer, and what they print.
use Rattle.std.specs.Prelude.{◌&&◌, not, if◌then◌else◌, Bool, Err, codes}
use Rattle.token_core.specs.declared.mark.Mark.{Mark}
use Rattle.token_core.specs.declared.range.RangeLimits.{RangeLimits}
use Rattle.token_core.specs.declared.range.RangeLimits.TheVariants as r
use Rattle.token_core.specs.Toks.{Bytes, Toks}
use Rattle.token_core.specs.Marks as marks
use Rattle.token_core.specs.Prints.{Print, mark}
use Rattle.token_core.specs.Reads.{Reader, ◌>>=◌, ◌<$>◌, peek, expected, sees_mark}

abbrev pub DotDot : Type 0
DotDot = Mark 8 2

abbrev pub DotDotDot : Type 0
DotDotDot = Mark 9 3

abbrev pub DotDotEq : Type 0
DotDotEq = Mark 10 3

abbrev pub sees_dot2 : Toks → Bool
sees_dot2 = sees_mark (marks.chars_of 8)

abbrev pub sees_dot3 : Toks → Bool
sees_dot3 = sees_mark (marks.chars_of 9)

abbrev pub sees_dot2_eq : Toks → Bool
sees_dot2_eq = sees_mark (marks.chars_of 10)

abbrev pub limits_name : Bytes
limits_name = codes "`..=` or `..`"

abbrev pub no_limits : Reader RangeLimits
no_limits s = Err (expected limits_name s)

-- `..=`, or `..` that isn't `...`
unfoldable pub read : Reader RangeLimits
read = do
  closed ← peek sees_dot2_eq
  if closed then r.Closed <$> marks.read 10 3 else (do
    open_ ← peek (λ l. sees_dot2 l && not (sees_dot3 l))
    if open_ then r.HalfOpen <$> marks.read 8 2 else no_limits)

-- `...` is kept as `..=`
abbrev pub closed_by : DotDotDot → RangeLimits
closed_by d = r.Closed (record { spans = d.spans })

unfoldable pub read_obsolete : Reader RangeLimits
read_obsolete = do
  obsolete ← peek sees_dot3
  if obsolete then closed_by <$> marks.read 9 3 else read

abbrev pub print : RangeLimits → Print
print (r.HalfOpen d) = mark d
print (r.Closed d) = mark d
