-- The sources that a started frame loads or takes as maps are in a table that fits its tree.
use Rattle.std.proofs.Common.{ℕ, ◌≡◌, ◌<◌, List, [], ◌∷◌, length, slice_get, Option, None, Some, IsSomeAnd, true, option_map, All, refl, arith}
use Rattle.std.proofs.lemmas.List.Elements.{All-nil, All-cons, All-head, All-tail, All-append, All-contains}
use Rattle.std.proofs.lemmas.Option.{slice_get_within}
use Rattle.std.specs.List.{Contains}
use Rattle.mlt_frame.specs.declared.op.Op.{Op}
use Rattle.mlt_frame.specs.declared.op.Op.TheVariants.{Load, Absent, Filter, Merge, Keep}
use Rattle.mlt_frame.specs.Loads.{load, loads, map, maps}
use Rattle.mlt_frame.specs.Names.{IsSource, Names}
use Rattle.mlt_frame.specs.Started.{StartedFramesRun}
use Rattle.mlt_tree.specs.declared.tree.SourceKind.{SourceKind}
use Rattle.mlt_tree.specs.Medium.{Pictures, makes}
use Rattle.mlt_tree.specs.Show.{Source, kind_of}
use Rattle.mlt_tree.specs.Merges.{map_of}
use Rattle.mlt_tree.specs.Sources.{Fits, HasSource, HasPicture, numbered, sources_in, maps_in}
use Rattle.mlt_tree.specs.Tree.{Tree}

-- a table has this source
abbrev pub IsThere : List Source → ℕ → Type 0
IsThere table source = source < length table

has-there : (table : List Source) (named : ℕ × SourceKind) → HasSource table named → IsThere table named.0
has-there table named h = by (slice_get table named.0) refl h where
  by : (o : Option Source) → slice_get table named.0 ≡ o → option_map kind_of o ≡ Some named.1 → IsThere table named.0
  by None is h = let apart : ⊥ = grind arith in absurd apart
  by (Some s) is h = slice_get_within table named.0 s is

picture-there : (table : List Source) (source : ℕ) → HasPicture table source → IsThere table source
picture-there table source h = by (slice_get table source) refl h where
  by : (o : Option Source) → slice_get table source ≡ o → IsSomeAnd o (λ s. makes Pictures (kind_of s) ≡ true) → IsThere table source
  by None is h = absurd h
  by (Some s) is h = slice_get_within table source s is

module _ (table : List Source) (t : Tree) (fits : Fits table t) where
  source-there : (source : ℕ) → IsSource Pictures t source → IsThere table source
  source-there source named =
      has-there table (source, named.0) (All-contains (HasSource table) (sources_in t) (source, named.0) fits.sources named.2)

  load-there : (op : Op) → Names Pictures t op → All (IsThere table) (load op)
  load-there (Load source at) h = All-cons (IsThere table) source.0 [] (source-there source.0 h) (All-nil (IsThere table))
  load-there Absent h = All-nil (IsThere table)
  load-there (Filter depth step) h = All-nil (IsThere table)
  load-there (Merge a b step) h = All-nil (IsThere table)
  load-there (Keep row count) h = All-nil (IsThere table)

  loads-there : (ops : List Op) → All (Names Pictures t) ops → All (IsThere table) (loads ops)
  loads-there [] h = All-nil (IsThere table)
  loads-there (op ∷ ops) h =
      All-append (IsThere table) (load op) (loads ops) (load-there op (All-head (Names Pictures t) op ops h)) (loads-there ops (All-tail (Names Pictures t) op ops h))

  map-there : (op : Op) → Names Pictures t op → All (IsThere table) (map op)
  map-there (Load source at) h = All-nil (IsThere table)
  map-there Absent h = All-nil (IsThere table)
  map-there (Filter depth step) h = All-nil (IsThere table)
  map-there (Merge a b step) h = maps-named (numbered (map_of step)) h where
    maps-named : (sources : List ℕ) → All (Contains (maps_in t)) sources → All (IsThere table) sources
    maps-named [] named = All-nil (IsThere table)
    maps-named (source ∷ sources) named =
        All-cons (IsThere table) source sources
        (picture-there table source (All-contains (HasPicture table) (maps_in t) source fits.maps (All-head (Contains (maps_in t)) source sources named)))
        (maps-named sources (All-tail (Contains (maps_in t)) source sources named))
  map-there (Keep row count) h = All-nil (IsThere table)

  maps-there : (ops : List Op) → All (Names Pictures t) ops → All (IsThere table) (maps ops)
  maps-there [] h = All-nil (IsThere table)
  maps-there (op ∷ ops) h =
      All-append (IsThere table) (map op) (maps ops) (map-there op (All-head (Names Pictures t) op ops h)) (maps-there ops (All-tail (Names Pictures t) op ops h))

pub started-run : StartedFramesRun
started-run table t frame fits started = record {
  ranges = started.image.ranges;
  fits = started.image.fits;
  loads = loads-there table t fits frame.image.ops started.image.names;
  maps = maps-there table t fits frame.image.ops started.image.names;
}
