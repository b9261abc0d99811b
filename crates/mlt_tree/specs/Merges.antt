-- What each merge makes of two pictures, byte by byte: xs is that of row a, and zs that of row b. Byte k is of pixel
-- k / 4 and channel k % 4, which are red, green, blue and alpha.
use Rattle.std.specs.Prelude.{ℕ, ℤ, pos, negsuc, ◌+◌, ◌-◌, ◌*◌, ◌/◌, ◌%◌, ◌==◌, ◌&&◌, nat_le, nat_lt, if◌then◌else◌, List, length, slice_index, Option, None, Some}
use Rattle.mlt_base.specs.declared.geometry.Geometry.{Geometry}
use Rattle.mlt_base.specs.declared.profile.SourceNo.{SourceNo}
use Rattle.mlt_base.specs.Fitting.{stretched_at}
use Rattle.mlt_base.specs.Mixing.{table, blended, dissolved, alpha_at, strength, laid_channel}
use Rattle.mlt_base.specs.Still.{Picture}
use Rattle.mlt_tree.specs.declared.merge.MergeStep.{MergeStep}
use Rattle.mlt_tree.specs.declared.merge.MergeStep.TheVariants.{Luma, Composite, Matte, Mix, Sum}
use Rattle.mlt_tree.specs.Filters.{lightness_at, column, row}

-- ---- from one picture to the other

-- where on its way from 0 to 65536 the edge comes to a pixel whose map is so light: the dark ones are first
abbrev pub reached_at : (lightness : ℕ) → ℕ
reached_at lightness = lightness * 65536 / 255

-- how far the edge has come, which goes on by its softness so that all pixels have turned at the end
abbrev pub edge : (softness q : ℕ) → ℕ
edge softness q = q * (65536 + softness) / 65536

-- how much of a pixel has turned that the edge reaches at a place: nothing before it, all where it lies behind the
-- whole softness
abbrev pub turned : (softness edge at : ℕ) → ℕ
turned softness edge at =
    if nat_le edge at then 0 else (if nat_le softness (edge - at) then 65536 else (edge - at) * 65536 / softness)

-- how much of byte k's pixel has turned, by a map
abbrev pub share_at : (softness q : ℕ) → (map : List ℕ) → ℕ → ℕ
share_at softness q map k = turned softness (edge softness q) (reached_at (lightness_at map k))

abbrev pub luma : (map : Option (List ℕ)) → (softness q : ℕ) → List ℕ → List ℕ → ℕ → ℕ
luma None softness q xs zs k = dissolved q xs zs k
luma (Some map) softness q xs zs k = blended (share_at softness q map k) (slice_index xs k) (slice_index zs k)

-- ---- one picture laid over the other

-- how far a place lies behind a start, which may stand before the first place, where it is one of so many from there
abbrev pub offset_in : (start : ℤ) → (count at : ℕ) → Option ℕ
offset_in (pos start) count at = if nat_le start at && nat_lt at (start + count) then Some (at - start) else None
offset_in (negsuc start) count at = if nat_lt (at + start + 1) count then Some (at + start + 1) else None

-- a byte x of alpha a, with that channel of a pixel of z laid over it that the channels of z tell
abbrev pub laid_by : (opacity : ℕ) → (z : ℕ → ℕ) → (channel a x : ℕ) → ℕ
laid_by opacity z channel a x = laid_channel channel a (strength (z 3) opacity) x (z channel)

-- row b stretched to the rectangle of a geometry, and laid over row a there
abbrev pub composite : Geometry → (width height : ℕ) → List ℕ → List ℕ → ℕ → ℕ
composite geometry width height xs zs k = by (offset_in geometry.x geometry.width (column width k)) (offset_in geometry.y geometry.height (row width k)) where
  above : Picture
  above = record { width = width; height = height; pixels = zs }

  by : Option ℕ → Option ℕ → ℕ
  by None v = slice_index xs k
  by (Some u) None = slice_index xs k
  by (Some u) (Some v) =
      laid_by geometry.opacity (stretched_at above geometry.width geometry.height u v) (k % 4) (alpha_at xs k) (slice_index xs k)

-- ---- one picture as the other's alpha

abbrev pub matte : List ℕ → List ℕ → ℕ → ℕ
matte xs zs k = if k % 4 == 3 then lightness_at zs k else slice_index xs k

-- ---- a merge at a position

-- the number of the source that a merge takes as its map, where it takes one
abbrev pub map_of : MergeStep → Option SourceNo
map_of (Luma map softness q) = map
map_of (Composite geometry) = None
map_of Matte = None
map_of (Mix p frames) = None
map_of Sum = None

-- byte k of what a merge makes of two pictures, by the picture of its map; a merge of sound leaves the first
abbrev pub merged : MergeStep → (map : Option (List ℕ)) → (width height : ℕ) → List ℕ → List ℕ → ℕ → ℕ
merged (Luma source softness q) map width height xs zs k = luma map softness.0 q.0 xs zs k
merged (Composite geometry) map width height xs zs k = composite geometry width height xs zs k
merged Matte map width height xs zs k = matte xs zs k
merged (Mix p frames) map width height xs zs k = slice_index xs k
merged Sum map width height xs zs k = slice_index xs k

-- what a merge makes of two pictures of a width
abbrev pub picture_merge : MergeStep → (map : Option (List ℕ)) → (width : ℕ) → List ℕ → List ℕ → List ℕ
picture_merge step map width xs zs = table (length xs) (merged step map width (length xs / 4 / width) xs zs)
