-- What a composition has at a position, and the sources that it needs, tried on small ones: each line is checked by
-- computing both of its sides.
use Rattle.std.specs.Prelude.{ℕ, ◌≡◌, refl, true, false, List, [], ◌∷◌, None, Some}
use Rattle.mlt_base.specs.Span.{span}
use Rattle.mlt_base.specs.declared.animation.Key.{Key}
use Rattle.mlt_tree.specs.declared.filter.FilterSpec.TheVariants as filter
use Rattle.mlt_tree.specs.declared.filter.FilterStep.TheVariants as step
use Rattle.mlt_tree.specs.declared.merge.MergeSpec.{MergeSpec}
use Rattle.mlt_tree.specs.declared.merge.MergeSpec.TheVariants as merge
use Rattle.mlt_tree.specs.declared.merge.MergeStep.{MergeStep}
use Rattle.mlt_tree.specs.declared.merge.MergeStep.TheVariants as merged
use Rattle.mlt_tree.specs.declared.tree.Hide.{Hide}
use Rattle.mlt_tree.specs.declared.tree.Plant.{Plant}
use Rattle.mlt_tree.specs.declared.tree.Plant.TheVariants.{OnTrack, Between}
use Rattle.mlt_tree.specs.declared.tree.SourceKind.TheVariants.{Colour}
use Rattle.mlt_tree.specs.Needs.{needs}
use Rattle.mlt_tree.specs.Tree.{Tree, Src, Blank, Seq, With, Rows, End, Then, NoTrack, Track}
use Rattle.mlt_tree.proofs.Trace.{Of, Filtered, Merged, MergedAlone, seen}

-- so many frames of a colour, by its number
abbrev colour : (source frames : ℕ) → Tree
colour source frames = Src source Colour frames

abbrev visible : Hide
visible = record { video = false; audio = false }

abbrev hidden : Hide
hidden = record { video = true; audio = false }

-- ---- filters

abbrev key : (frame value : ℕ) → Key
key frame value = record { frame = frame; value = record { 0 = value }; discrete = false }

-- from black to full light over two frames
abbrev fade : List Key
fade = key 0 0 ∷ key 1 65536 ∷ []

abbrev two_filters : Tree
two_filters = With (colour 7 4) (record { spec = filter.Invert; span = span 1 2 } ∷ record { spec = filter.Brightness fade; span = span 2 3 } ∷ [])

-- each acts in its span alone, the first one first, and an animation is read from the span's first frame on
filters_act : (seen two_filters 0 ∷ seen two_filters 1 ∷ seen two_filters 2 ∷ seen two_filters 3 ∷ seen two_filters 4 ∷ []) ≡ (Some (Of 7) ∷ Some (Filtered step.Invert (Of 7)) ∷ Some (Filtered (step.Brightness (record { 0 = 0 })) (Filtered step.Invert (Of 7))) ∷ Some (Filtered (step.Brightness (record { 0 = 65536 })) (Of 7)) ∷ None ∷ [])
filters_act = refl

-- nothing stays nothing
filter_on_nothing : seen (With (Blank 1) (record { spec = filter.Invert; span = span 0 0 } ∷ [])) 0 ≡ None
filter_on_nothing = refl

-- ---- tracks

-- red on three frames, under a blank and then one frame of blue
abbrev above : Tree
above =
    Rows (Track (colour 0 3) visible (Track (Seq (Then (Blank 1) (Then (colour 1 1) End))) visible NoTrack)) []

highest_shown : (seen above 0 ∷ seen above 1 ∷ seen above 2 ∷ seen above 3 ∷ []) ≡ (Some (Of 0) ∷ Some (Of 1) ∷ Some (Of 0) ∷ None ∷ [])
highest_shown = refl

-- what is covered isn't needed
covered_not_needed : (needs above 0 ∷ needs above 1 ∷ needs above 2 ∷ needs above 3 ∷ []) ≡ ((0 ∷ []) ∷ (1 ∷ []) ∷ (0 ∷ []) ∷ [] ∷ [])
covered_not_needed = refl

abbrev under_hidden : Tree
under_hidden = Rows (Track (colour 0 1) visible (Track (colour 1 1) hidden NoTrack)) []

hidden_not_shown : seen under_hidden 0 ≡ Some (Of 0)
hidden_not_shown = refl

hidden_not_needed : needs under_hidden 0 ≡ (0 ∷ [])
hidden_not_needed = refl

-- ---- plants

abbrev dissolve : MergeSpec
dissolve = merge.Luma None (record { 0 = 0 })

abbrev dissolved : ℕ → MergeStep
dissolved q = merged.Luma None (record { 0 = 0 }) (record { 0 = q })

-- two tracks of two frames each, with this between them
abbrev two_tracks : List Plant → Tree
two_tracks plants = Rows (Track (colour 0 2) visible (Track (colour 1 2) visible NoTrack)) plants

abbrev crossing : Tree
crossing = two_tracks (Between 0 1 dissolve (span 0 1) ∷ [])

-- from the lower to the upper, a half on the second of two frames
merge_acts : (seen crossing 0 ∷ seen crossing 1 ∷ []) ≡ (Some (Merged (dissolved 0) (Of 0) (Of 1)) ∷ Some (Merged (dissolved 32768) (Of 0) (Of 1)) ∷ [])
merge_acts = refl

-- both are needed, in the order of the tracks
merge_needs : (needs crossing 0 ∷ needs crossing 1 ∷ []) ≡ ((0 ∷ 1 ∷ []) ∷ (0 ∷ 1 ∷ []) ∷ [])
merge_needs = refl

-- downwards: into the upper track, which is needed behind the lower all the same
merge_upwards : needs (two_tracks (Between 1 0 dissolve (span 0 1) ∷ [])) 0 ≡ (0 ∷ 1 ∷ [])
merge_upwards = refl

-- outside its span, and of another medium, a merge does nothing
outside_span : (seen (two_tracks (Between 0 1 dissolve (span 1 1) ∷ [])) 0 ∷ seen (two_tracks (Between 0 1 merge.Sum (span 0 1) ∷ [])) 0 ∷ []) ≡ (Some (Of 1) ∷ Some (Of 1) ∷ [])
outside_span = refl

-- into a track that has nothing
abbrev into_nothing : Tree
into_nothing =
    Rows (Track (Blank 1) visible (Track (colour 1 1) visible NoTrack)) (Between 0 1 dissolve (span 0 0) ∷ [])

merge_into_nothing : seen into_nothing 0 ≡ Some (MergedAlone (dissolved 0) (Of 1))
merge_into_nothing = refl

needs_into_nothing : needs into_nothing 0 ≡ (1 ∷ [])
needs_into_nothing = refl

-- a merge of the third track into the first leaves the second to be shown, and the others aren't needed
abbrev over_merged : Tree
over_merged =
    Rows (Track (colour 0 1) visible (Track (colour 1 1) visible (Track (colour 2 1) visible NoTrack))) (Between 0 2 dissolve (span 0 0) ∷ [])

second_shown : seen over_merged 0 ≡ Some (Of 1)
second_shown = refl

second_needed : needs over_merged 0 ≡ (1 ∷ [])
second_needed = refl

-- plants in their order: a filter on what was merged, and a merge of what was merged
abbrev in_order : Tree
in_order =
    Rows (Track (colour 0 1) visible (Track (colour 1 1) visible (Track (colour 2 1) visible NoTrack))) (Between 1 2 dissolve (span 0 0) ∷ OnTrack 1 filter.Invert (span 0 0) ∷ Between 0 1 merge.Matte (span 0 0) ∷ OnTrack 2 filter.Sepia (span 0 0) ∷ [])

plants_in_order : seen in_order 0 ≡ Some (Merged merged.Matte (Of 0) (Filtered step.Invert (Merged (dissolved 0) (Of 1) (Of 2))))
plants_in_order = refl

all_needed : needs in_order 0 ≡ (0 ∷ 1 ∷ 2 ∷ [])
all_needed = refl
