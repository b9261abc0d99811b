-- The sources that operations load, and those that they take as maps.
use Rattle.std.specs.Prelude.{ℕ, List, [], ◌∷◌}
use Rattle.std.specs.List.{flat_map}
use Rattle.mlt_frame.specs.declared.op.Op.{Op}
use Rattle.mlt_frame.specs.declared.op.Op.TheVariants.{Load, Absent, Filter, Merge, Keep}
use Rattle.mlt_tree.specs.Merges.{map_of}
use Rattle.mlt_tree.specs.Sources.{numbered}

-- the source of an operation that loads one
abbrev pub load : Op → List ℕ
load (Load source at) = source.0 ∷ []
load Absent = []
load (Filter depth step) = []
load (Merge a b step) = []
load (Keep row count) = []

-- the sources of the loads, in the order in which they were pushed
abbrev pub loads : List Op → List ℕ
loads ops = flat_map load ops

-- the source that a merge takes as its map
abbrev pub map : Op → List ℕ
map (Load source at) = []
map Absent = []
map (Filter depth step) = []
map (Merge a b step) = numbered (map_of step)
map (Keep row count) = []

-- the sources of the maps
abbrev pub maps : List Op → List ℕ
maps ops = flat_map map ops
