-- The columns of rectangles along those of pictures, as they are kept from one merge to the next.
use Rattle.std.specs.Prelude.{ℕ, ◌+◌, ◌%◌, ◌==◌, ◌&&◌, ◌||◌, Bool, false, if◌then◌else◌, List, [], ◌∷◌, slice_set}
use Rattle.mlt_tree.specs.declared.merge.MergeStep.{MergeStep}
use Rattle.mlt_tree.specs.declared.merge.MergeStep.TheVariants.{Luma, Composite, Matte, Mix, Sum}

-- how many columns a picture has, and how many of a rectangle are taken along them
pub record Widths : Type 0 where
  pub pixels : ℕ
  pub taken : ℕ

-- no column
abbrev pub no_columns : Widths
no_columns = record { pixels = 1; taken = 0 }

-- the widths whose columns are kept, and the place of the oldest of them
pub record Kept : Type 0 where
  pub widths : List Widths
  pub oldest : ℕ

-- whether columns are kept
abbrev pub is_kept : List Widths → Widths → Bool
is_kept [] asked = false
is_kept (w ∷ ws) asked = ((w.pixels == asked.pixels) && (w.taken == asked.taken)) || is_kept ws asked

-- what is kept once columns are asked for: they stand in place of the oldest, where they weren't kept
abbrev pub with_columns : Widths → Kept → Kept
with_columns asked kept =
    if is_kept kept.widths asked then kept else record { widths = slice_set kept.widths kept.oldest asked; oldest = (kept.oldest + 1) % 8 }

-- what is kept once a merge is made of pictures of so many columns
abbrev pub kept_after : MergeStep → (width : ℕ) → Kept → Kept
kept_after (Luma map softness q) width kept = kept
kept_after (Composite geometry) width kept = with_columns (record { pixels = width; taken = geometry.width }) kept
kept_after Matte width kept = kept
kept_after (Mix p frames) width kept = kept
kept_after Sum width kept = kept
