-- Units and their trees, tried on small compositions: each line is checked by computing both of its sides.
use Rattle.std.specs.Prelude.{ℕ, ◌≡◌, refl, List, [], ◌∷◌, None, Some}
use Rattle.mlt_tree.specs.declared.entry.Entry.{Entry}
use Rattle.mlt_tree.specs.declared.entry.Entry.TheVariants.{Gap}
use Rattle.mlt_tree.specs.declared.node.Node.{Node}
use Rattle.mlt_tree.specs.declared.tree.SourceKind.TheVariants.{Colour}
use Rattle.mlt_tree.specs.Edits.{clip}
use Rattle.mlt_tree.specs.Needs.{needs}
use Rattle.mlt_tree.specs.Sizes.{need, weight, ops}
use Rattle.mlt_tree.specs.Tree.{len}
use Rattle.mlt_tree.specs.Units.{source_unit, list_unit, tree_of, depth_of, tractor_of, empty_level, with_entries}
use Rattle.mlt_tree.proofs.Trace.{Of, seen}

-- the tractor of one track
abbrev one_track : List Entry → Node
one_track entries = tractor_of (with_entries empty_level entries)

-- a colour by its number
abbrev colour : ℕ → Node
colour source = source_unit (record { 0 = source }) Colour 15000

-- a frame of one colour, two with nothing, a frame of another
abbrev apart : List Node
apart =
    colour 0 ∷ colour 1 ∷ one_track (clip 0 0 0 [] ∷ Gap 2 ∷ clip 1 0 0 [] ∷ []) ∷ []

apart_length : len (tree_of apart 2) ≡ 4
apart_length = refl

apart_seen : (seen (tree_of apart 2) 0 ∷ seen (tree_of apart 2) 1 ∷ seen (tree_of apart 2) 3 ∷ seen (tree_of apart 2) 4 ∷ []) ≡ (Some (Of 0) ∷ None ∷ Some (Of 1) ∷ None ∷ [])
apart_seen = refl

apart_needs : (needs (tree_of apart 2) 0 ∷ needs (tree_of apart 2) 1 ∷ needs (tree_of apart 2) 3 ∷ []) ≡ ((0 ∷ []) ∷ [] ∷ (1 ∷ []) ∷ [])
apart_needs = refl

-- both colours joined, and the joined clip twice: its unit has a number of its own
abbrev twice : List Node
twice =
    colour 0 ∷ colour 1 ∷ list_unit (clip 0 0 0 [] ∷ clip 1 0 0 [] ∷ []) ∷ one_track (clip 2 0 1 [] ∷ clip 2 0 1 [] ∷ []) ∷ []

twice_seen : (seen (tree_of twice 3) 0 ∷ seen (tree_of twice 3) 1 ∷ seen (tree_of twice 3) 2 ∷ seen (tree_of twice 3) 3 ∷ []) ≡ (Some (Of 0) ∷ Some (Of 1) ∷ Some (Of 0) ∷ Some (Of 1) ∷ [])
twice_seen = refl

-- the sources are at depth 0, the list at 1, the tractor at 2; one row and what is under it take two buffers
twice_sizes : (depth_of twice 1 ∷ depth_of twice 2 ∷ depth_of twice 3 ∷ need (tree_of twice 3) ∷ weight (tree_of twice 3) ∷ ops (tree_of twice 3) ∷ []) ≡ (0 ∷ 1 ∷ 2 ∷ 2 ∷ 1 ∷ 1 ∷ [])
twice_sizes = refl
