-- The tokens at the front of a buffer: within invisible groups, and after the ends of those that are left.
use Rattle.std.specs.Prelude.{◌≡◌, Bool, true, false}
use Rattle.token_core.specs.declared.class.Entry.{Entry}
use Rattle.token_core.specs.declared.buffer.Front.{Front}
use Rattle.token_core.specs.declared.buffer.Front.TheVariants as f
use Rattle.token_core.specs.Toks.{Toks, done, word, mark, lit, group, enter, leave}
use Rattle.token_core.specs.Seen.{Seen, saw_enter, saw_leave}
use Rattle.token_core.specs.Trees.{delimiter_of, span_of, content_of, toks}
use Rattle.token_core.specs.Entries.{saw}

abbrev pub front : Toks → Toks
front done = done
front (word t k) = word t k
front (mark p k) = mark p k
front (lit l k) = lit l k
front (group d s c k) = group d s c k
front (enter s k) = front k
front (leave k) = front k

-- after the ends of invisible groups, but not into one
abbrev pub past_ends : Toks → Toks
past_ends done = done
past_ends (word t k) = word t k
past_ends (mark p k) = mark p k
past_ends (lit l k) = lit l k
past_ends (group d s c k) = group d s c k
past_ends (enter s k) = enter s k
past_ends (leave k) = past_ends k

abbrev pub bounds : Seen → Bool
bounds (saw_enter s c n) = true
bounds saw_leave = true
bounds _ = false

abbrev pub is_bound : Entry → Bool
is_bound e = bounds (saw e)

abbrev pub ends : Seen → Bool
ends saw_leave = true
ends _ = false

abbrev pub is_end : Entry → Bool
is_end e = ends (saw e)

-- what does not begin at a bound
abbrev pub settled : Toks → Toks
settled (enter s k) = done
settled (leave k) = done
settled done = done
settled (word t k) = word t k
settled (mark p k) = mark p k
settled (lit l k) = lit l k
settled (group d s c k) = group d s c k

-- what stands at the front of a buffer, as tokens
abbrev pub shows : Front → Toks
shows f.Done = done
shows (f.Word i r) = word i.now r
shows (f.Mark p r) = mark p r
shows (f.Literal l r) = lit l.now r
shows (f.Group g c r) = group (delimiter_of g.now) (span_of g.now) c r

-- a group's entries are those of its content
abbrev pub Linked : Front → Type 0
Linked f.Done = Unit {0}
Linked (f.Word i r) = Unit {0}
Linked (f.Mark p r) = Unit {0}
Linked (f.Literal l r) = Unit {0}
Linked (f.Group g c r) = c ≡ toks (content_of g.now)
