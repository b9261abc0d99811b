-- The sources that a tree names, and when a table of sources fits it.
use Rattle.std.specs.Prelude.{ℕ, ◌≡◌, true, List, [], ◌∷◌, ◌++◌, Option, None, Some, All, slice_get, IsSomeAnd}
use Rattle.std.specs.List.{flat_map}
use Rattle.std.specs.Option.{option_map}
use Rattle.mlt_base.specs.declared.profile.SourceNo.{SourceNo}
use Rattle.mlt_tree.specs.declared.merge.MergeSpec.{MergeSpec}
use Rattle.mlt_tree.specs.declared.merge.MergeSpec.TheVariants.{Luma, Composite, Matte, Mix, Sum}
use Rattle.mlt_tree.specs.declared.node.Body.{Body}
use Rattle.mlt_tree.specs.declared.node.Body.TheVariants as body
use Rattle.mlt_tree.specs.declared.tree.Plant.{Plant}
use Rattle.mlt_tree.specs.declared.tree.Plant.TheVariants.{OnTrack, Between}
use Rattle.mlt_tree.specs.declared.tree.SourceKind.{SourceKind}
use Rattle.mlt_tree.specs.Medium.{Pictures, makes}
use Rattle.mlt_tree.specs.Show.{Source, kind_of}
use Rattle.mlt_tree.specs.Tree.{Tree, Parts, Tracks, Src, Blank, Part, Seq, With, Rows, End, Then, NoTrack, Track}

-- the number of a map, where there is one
abbrev pub numbered : Option SourceNo → List ℕ
numbered None = []
numbered (Some map) = map.0 ∷ []

abbrev pub maps_of_merge : MergeSpec → List ℕ
maps_of_merge (Luma map softness) = numbered map
maps_of_merge (Composite geometry) = []
maps_of_merge Matte = []
maps_of_merge Mix = []
maps_of_merge Sum = []

abbrev pub maps_of : Plant → List ℕ
maps_of (OnTrack track spec span) = []
maps_of (Between a b spec span) = maps_of_merge spec

abbrev mutual
  -- the sources of a tree, each with its kind
  pub sources_in : Tree → List (ℕ × SourceKind)
  sources_in (Src source kind frames) = (source, kind) ∷ []
  sources_in (Blank frames) = []
  sources_in (Part t first last) = sources_in t
  sources_in (Seq parts) = sources_in_parts parts
  sources_in (With t filters) = sources_in t
  sources_in (Rows tracks plants) = sources_in_tracks tracks

  pub sources_in_parts : Parts → List (ℕ × SourceKind)
  sources_in_parts End = []
  sources_in_parts (Then t parts) = sources_in t ++ sources_in_parts parts

  pub sources_in_tracks : Tracks → List (ℕ × SourceKind)
  sources_in_tracks NoTrack = []
  sources_in_tracks (Track t hide tracks) = sources_in t ++ sources_in_tracks tracks

abbrev mutual
  -- the sources that its merges take as maps
  pub maps_in : Tree → List ℕ
  maps_in (Src source kind frames) = []
  maps_in (Blank frames) = []
  maps_in (Part t first last) = maps_in t
  maps_in (Seq parts) = maps_in_parts parts
  maps_in (With t filters) = maps_in t
  maps_in (Rows tracks plants) = maps_in_tracks tracks ++ flat_map maps_of plants

  pub maps_in_parts : Parts → List ℕ
  maps_in_parts End = []
  maps_in_parts (Then t parts) = maps_in t ++ maps_in_parts parts

  pub maps_in_tracks : Tracks → List ℕ
  maps_in_tracks NoTrack = []
  maps_in_tracks (Track t hide tracks) = maps_in t ++ maps_in_tracks tracks

-- the table has the number, with this kind
abbrev pub HasSource : List Source → ℕ × SourceKind → Type 0
HasSource table named = option_map kind_of (slice_get table named.0) ≡ Some named.1

-- the table has the number, as a picture
abbrev pub HasPicture : List Source → ℕ → Type 0
HasPicture table source = IsSomeAnd (slice_get table source) (λ s. makes Pictures (kind_of s) ≡ true)

-- the table has each source of the tree, with its kind, and each map
pub record Fits (table : List Source) (t : Tree) : Type 0 where
  pub sources : All (HasSource table) (sources_in t)
  pub maps : All (HasPicture table) (maps_in t)

-- the table has the source that a unit is, if it is one, and the maps of what is planted on it
abbrev pub FitsBody : List Source → Body → Type 0
FitsBody table (body.Source source kind frames) = HasSource table (source.0, kind)
FitsBody table (body.Entries entries) = Unit {0}
FitsBody table (body.Tractor tracks plants) = All (HasPicture table) (flat_map maps_of plants)
