-- A table that has the sources and the maps of each unit fits the tree of every unit.
use Rattle.std.proofs.Common.{ℕ, ◌≡◌, ◌<◌, suc, Bool, true, false, cond, eqb, List, [], ◌∷◌, ◌++◌, length, get_or, fold, All, refl, sym, subst, arith}
use Rattle.std.proofs.lemmas.Bool.Decides.{nat_tests}
use Rattle.std.proofs.lemmas.Grind.{common_steps}
use Rattle.std.proofs.lemmas.List.Elements.{All-nil, All-cons, All-append}
use Rattle.std.specs.List.{flat_map}
use Rattle.mlt_tree.specs.declared.entry.Entry.{Entry}
use Rattle.mlt_tree.specs.declared.entry.Entry.TheVariants.{Clip, Gap}
use Rattle.mlt_tree.specs.declared.node.Body.{Body}
use Rattle.mlt_tree.specs.declared.node.Body.TheVariants.{Source, Entries, Tractor}
use Rattle.mlt_tree.specs.declared.node.Node.{Node}
use Rattle.mlt_tree.specs.declared.node.Track.{Track}
use Rattle.mlt_tree.specs.declared.node.Track.TheVariants.{Playlist, Half}
use Rattle.mlt_tree.specs.Show as show
use Rattle.mlt_tree.specs.Sources.{Fits, FitsBody, HasSource, HasPicture, sources_in, sources_in_parts, sources_in_tracks, maps_in, maps_in_parts, maps_in_tracks, maps_of}
use Rattle.mlt_tree.specs.Tree.{Tree, Parts, Tracks}
use Rattle.mlt_tree.specs.Units.{parts_of, track_tree, tracks_of, entry_tree, body_tree, node_tree, nth_tree, tree_of}

module _ (table : List show.Source) where
  -- trees that each fit
  abbrev All_fit : List Tree → Type 0
  All_fit so_far = (unit : ℕ) → Fits table (nth_tree so_far unit)

  -- the table has what each unit names
  abbrev HasSources : List Node → Type 0
  HasSources nodes = (unit : ℕ) (node : Node) → unit < length nodes → node ≡ get_or nodes unit node → FitsBody table node.body

  fits_nothing : Fits table (nth_tree [] 0)
  fits_nothing = record { sources = All-nil (HasSource table); maps = All-nil (HasPicture table) }

  record FitsParts (parts : Parts) : Type 0 where
    pub sources : All (HasSource table) (sources_in_parts parts)
    pub maps : All (HasPicture table) (maps_in_parts parts)

  record FitsTracks (tracks : Tracks) : Type 0 where
    pub sources : All (HasSource table) (sources_in_tracks tracks)
    pub maps : All (HasPicture table) (maps_in_tracks tracks)

  module _ (units : ℕ → Tree) (each : (unit : ℕ) → Fits table (units unit)) where
    fits_entry : (e : Entry) → Fits table (entry_tree units e)
    fits_entry (Clip unit span filters) = record { sources = (each unit.0).sources; maps = (each unit.0).maps }
    fits_entry (Gap frames) = record { sources = All-nil (HasSource table); maps = All-nil (HasPicture table) }

    fits_parts : (es : List Entry) → FitsParts (parts_of units es)
    fits_parts [] = record { sources = All-nil (HasSource table); maps = All-nil (HasPicture table) }
    fits_parts (e ∷ es) =
        let t = entry_tree units e in let rest = parts_of units es in
        record {
          sources = All-append (HasSource table) (sources_in t) (sources_in_parts rest) (fits_entry e).sources (fits_parts es).sources;
          maps = All-append (HasPicture table) (maps_in t) (maps_in_parts rest) (fits_entry e).maps (fits_parts es).maps;
        }

    fits_track : (track : Track) → Fits table (track_tree units track)
    fits_track (Playlist entries filters hide) = record { sources = (fits_parts entries).sources; maps = (fits_parts entries).maps }
    fits_track (Half entry frames) = fits_entry entry

    fits_tracks : (tracks : List Track) → FitsTracks (tracks_of units tracks)
    fits_tracks [] = record { sources = All-nil (HasSource table); maps = All-nil (HasPicture table) }
    fits_tracks (track ∷ tracks) =
        let t = track_tree units track in let rest = tracks_of units tracks in
        record {
          sources = All-append (HasSource table) (sources_in t) (sources_in_tracks rest) (fits_track track).sources (fits_tracks tracks).sources;
          maps = All-append (HasPicture table) (maps_in t) (maps_in_tracks rest) (fits_track track).maps (fits_tracks tracks).maps;
        }

    fits_body : (body : Body) → FitsBody table body → Fits table (body_tree units body)
    fits_body (Source source kind frames) h =
        record { sources = All-cons (HasSource table) (source.0, kind) [] h (All-nil (HasSource table)); maps = All-nil (HasPicture table) }
    fits_body (Entries entries) h = record { sources = (fits_parts entries).sources; maps = (fits_parts entries).maps }
    fits_body (Tractor tracks plants) h = record {
      sources = (fits_tracks tracks).sources;
      maps = All-append (HasPicture table) (maps_in_tracks (tracks_of units tracks)) (flat_map maps_of plants) (fits_tracks tracks).maps h;
    }

    fits_node : (node : Node) → FitsBody table node.body → Fits table (node_tree units node)
    fits_node node h = record { sources = (fits_body node.body h).sources; maps = (fits_body node.body h).maps }

  fits-cond : (t : Bool) (x y : Tree) → Fits table x → Fits table y → Fits table (cond t x y)
  fits-cond true x y first second = first
  fits-cond false x y first second = second

  nth_tree-pushed : (so_far : List Tree) (t : Tree) (unit : ℕ) → nth_tree (so_far ++ t ∷ []) unit ≡ cond (eqb unit (length so_far)) t (nth_tree so_far unit)
  nth_tree-pushed so_far t unit = grind (arith, common_steps, nat_tests)

  fits_pushed : (so_far : List Tree) (t : Tree) → All_fit so_far → Fits table t → All_fit (so_far ++ t ∷ [])
  fits_pushed so_far t each fits unit =
      subst (Fits table) (sym (nth_tree-pushed so_far t unit)) (fits-cond (eqb unit (length so_far)) t (nth_tree so_far unit) fits (each unit))

  fits_all : (so_far : List Tree) (nodes : List Node) → All_fit so_far → HasSources nodes → All_fit (fold (λ so_far node. so_far ++ node_tree (nth_tree so_far) node ∷ []) so_far nodes)
  fits_all so_far [] each sources = each
  fits_all so_far (node ∷ nodes) each sources =
      fits_all (so_far ++ node_tree (nth_tree so_far) node ∷ []) nodes
      (fits_pushed so_far (node_tree (nth_tree so_far) node) each (fits_node (nth_tree so_far) each node (sources 0 node (omega arith) refl)))
      (λ unit other below is. sources (suc unit) other (omega arith) is)

  pub fits_tree : (nodes : List Node) → HasSources nodes → (unit : ℕ) → Fits table (tree_of nodes unit)
  fits_tree nodes sources unit = fits_all [] nodes (λ unit. fits_nothing) sources unit
