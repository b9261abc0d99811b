-- Entries that move, or change where they stand.
use Rattle.std.specs.Prelude.{ℕ, ◌+◌, ◌-◌, Bool, ◌&&◌, nat_le, nat_lt, List, [], ◌∷◌, ◌++◌, take, drop}
use Rattle.mlt_tree.specs.declared.entry.Entry.{Entry}
use Rattle.mlt_tree.specs.declared.entry.Entry.TheVariants.{Clip, Gap}
use Rattle.mlt_tree.specs.declared.tree.Attached.{Attached}
use Rattle.mlt_tree.specs.Edits.{clip, replaced}

-- the entry at an index moves to an index of the list without it
abbrev pub moved : List Entry → (from to : ℕ) → List Entry
moved es from to = replaced (replaced es from 1 []) to 0 (take 1 (drop from es))

-- an entry with the frames first to last in place of its own
abbrev pub resized : Entry → (first last : ℕ) → Entry
resized (Clip unit s filters) first last = clip unit.0 first last filters
resized (Gap count) first last = Gap (last + 1 - first)

-- whether an entry can have the frames first to last, of a unit of so many where it is a clip
abbrev pub is_within : Entry → (first last length : ℕ) → Bool
is_within (Clip unit s filters) first last length = nat_le first last && nat_lt last length
is_within (Gap count) first last length = nat_le first last

-- a clip with one more filter
abbrev pub with_filter : Entry → Attached → Entry
with_filter (Clip unit s filters) filter = Clip unit s (filters ++ filter ∷ [])
with_filter (Gap count) filter = Gap count
