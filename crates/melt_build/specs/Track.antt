-- The last entry of a list.
use Rattle.std.specs.Prelude.{ℕ, ◌≡◌, ◌+◌, List, [], length, Option, None, Some}
use Rattle.mlt_tree.specs.declared.entry.Entry.{Entry}

-- the index of the last entry, where there is one
abbrev pub IsLastIndex : List Entry → Option ℕ → Type 0
IsLastIndex es None = es ≡ []
IsLastIndex es (Some last) = length es ≡ last + 1
