-- A pixel as four bytes of a list, and as one word.
use Rattle.std.specs.Prelude.{ℕ, ◌+◌, ◌*◌, List, slice_index, slice_set}

-- the word of the four bytes from a place on, the least significant first
abbrev pub word_of : List ℕ → ℕ → ℕ
word_of xs i =
    slice_index xs i + 256 * slice_index xs (i + 1) + 65536 * slice_index xs (i + 2) + 16777216 * slice_index xs (i + 3)

-- the list with four bytes from a place on
abbrev pub four : List ℕ → ℕ → ℕ → ℕ → ℕ → ℕ → List ℕ
four xs i a b c d = slice_set (slice_set (slice_set (slice_set xs i a) (i + 1) b) (i + 2) c) (i + 3) d
