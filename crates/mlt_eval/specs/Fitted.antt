-- Pictures that were fitted into the frame, each with the number of its source.
use Rattle.std.specs.Prelude.{ℕ, ◌==◌, ◌||◌, Bool, false, List, [], ◌∷◌, slice_index_or}
use Rattle.mlt_tree.specs.Show.{Fit}

-- pictures in the order in which they were added, and how many more can be added
pub record FittedPictures : Type 0 where
  pub fits : List Fit
  pub spare : ℕ

-- whether there is a picture of a source
abbrev pub is_fitted : List Fit → ℕ → Bool
is_fitted [] source = false
is_fitted (fit ∷ fits) source = (fit.source == source) || is_fitted fits source

-- no picture
abbrev pub no_fit : Fit
no_fit = record { source = 0; picture = record { width = 0; height = 0; pixels = [] } }

-- the picture at a place, counted from 0
abbrev pub fit_at : List Fit → ℕ → Fit
fit_at fits place = slice_index_or fits place no_fit
