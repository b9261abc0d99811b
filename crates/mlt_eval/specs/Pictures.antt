-- What operations make of pictures, and the picture that they leave.
use Rattle.std.specs.Prelude.{ℕ, List, [], ◌∷◌, Option, unwrap_or}
use Rattle.mlt_base.specs.Picture.{clear}
use Rattle.mlt_base.specs.Profile.{Measures}
use Rattle.mlt_tree.specs.declared.merge.MergeStep.{MergeStep}
use Rattle.mlt_tree.specs.Show.{Source, pixels_of, pictures_of}

-- that of the first of the registers, transparent black where it has nothing
abbrev pub top_picture : Measures → List (Option (List ℕ)) → List ℕ
top_picture profile [] = clear (pixels_of profile)
top_picture profile (top ∷ registers) = unwrap_or top (clear (pixels_of profile))

-- what a merge makes of a picture, or of nothing, and one above it
abbrev pub merge_of : Measures → List Source → MergeStep → Option (List ℕ) → List ℕ → List ℕ
merge_of profile table step = (pictures_of profile table).merge step
