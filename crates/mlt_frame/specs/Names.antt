-- The sources and maps of a tree that operations name.
use Rattle.std.specs.Prelude.{ℕ, ◌≡◌, true, All}
use Rattle.std.specs.List.{Contains}
use Rattle.mlt_frame.specs.declared.op.Op.{Op}
use Rattle.mlt_frame.specs.declared.op.Op.TheVariants.{Load, Absent, Filter, Merge, Keep}
use Rattle.mlt_tree.specs.declared.tree.SourceKind.{SourceKind}
use Rattle.mlt_tree.specs.Medium.{Medium, makes}
use Rattle.mlt_tree.specs.Merges.{map_of}
use Rattle.mlt_tree.specs.Sources.{numbered, sources_in, maps_in}
use Rattle.mlt_tree.specs.Tree.{Tree}

-- the tree has the source, and it gives the medium
abbrev pub IsSource : Medium → Tree → ℕ → Type 0
IsSource v t source = (kind : SourceKind) × (makes v kind ≡ true) × Contains (sources_in t) (source, kind)

-- what an operation names is of these sources and maps
abbrev pub NamesOnly : (sources maps : ℕ → Type 0) → Op → Type 0
NamesOnly sources maps (Load source at) = sources source.0
NamesOnly sources maps Absent = Unit {0}
NamesOnly sources maps (Filter depth step) = Unit {0}
NamesOnly sources maps (Merge a b step) = All maps (numbered (map_of step))
NamesOnly sources maps (Keep row count) = Unit {0}

-- an operation names sources of the medium and maps of the tree alone
abbrev pub Names : Medium → Tree → Op → Type 0
Names v t op = NamesOnly (IsSource v t) (Contains (maps_in t)) op
