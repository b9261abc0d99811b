-- The size of a tree, as a table of units keeps it, and how the sizes of its parts make it up. Filters and merges
-- do not change it.
use Rattle.std.specs.Prelude.{ℕ, ◌≡◌, ◌+◌, ◌-◌, ◌^◌, ◌<◌, min, max, List, length, fold, slice_index_or}
use Rattle.mlt_tree.specs.declared.draft.Draft.{Draft}
use Rattle.mlt_tree.specs.declared.entry.Entry.{Entry}
use Rattle.mlt_tree.specs.declared.entry.Entry.TheVariants.{Clip, Gap}
use Rattle.mlt_tree.specs.Sizes.{need}
use Rattle.mlt_tree.specs.Tree.{Tree, len}
use Rattle.mlt_graph.specs.declared.size.Size.{Size}

-- the least of a number and 2^32 - 1
abbrev pub kept : ℕ → ℕ
kept n = min n (2 ^ 32 - 1)

-- the size of a tree of this depth
abbrev pub size_of : Tree → ℕ → Size
size_of tree depth = record { length = kept (len tree); need = kept (need tree); depth = kept depth }

-- no frame, and nothing to work out
abbrev pub nothing : Size
nothing = record { length = 0; need = 0; depth = 0 }

-- frames that are worked out at once
abbrev pub plain : ℕ → Size
plain frames = record { length = frames; need = 1; depth = 0 }

-- so many frames of it
abbrev pub part : ℕ → Size → Size
part frames size = record size { length = kept frames }

abbrev pub entry_size : List Size → Entry → Size
entry_size table (Clip unit span filters) = part (span.last.0 + 1 - span.first.0) (slice_index_or table unit.0 nothing)
entry_size table (Gap frames) = plain (kept frames)

-- one after the other
abbrev pub then_size : Size → Size → Size
then_size a b = record { length = kept (a.length + b.length); need = max a.need b.need; depth = max a.depth b.depth }

abbrev pub entries_size : List Size → List Entry → Size
entries_size table es = fold (λ size e. then_size size (entry_size table e)) (plain 0) es

-- one over the other
abbrev pub over_size : Size → Size → Size
over_size a b = record { length = max a.length b.length; need = max a.need b.need; depth = max a.depth b.depth }

-- tracks over each other
abbrev pub drafts_size : List Size → List Draft → Size
drafts_size table drafts = fold (λ size draft. over_size size (entries_size table draft.entries)) nothing drafts

-- a unit of these
abbrev pub list_size : Size → Size
list_size size = record size { depth = kept (size.depth + 1) }

-- a unit of so many tracks, each of which is kept while they are put over each other
abbrev pub tractor_size : ℕ → Size → Size
tractor_size count tracks = record {
  length = tracks.length;
  need = kept (tracks.need + count);
  depth = kept (tracks.depth + 1);
}

-- a mix of two halves
abbrev pub mix_size : List Size → (a b : Entry) → Size
mix_size table a b = tractor_size 2 (over_size (entry_size table a) (entry_size table b))

-- the table has the size of each unit
pub record AreSizes (table : List Size) (units : ℕ → Tree) (depths : ℕ → ℕ) : Type 0 where
  pub each : (unit : ℕ) → unit < length table → slice_index_or table unit nothing ≡ size_of (units unit) (depths unit)
