-- Merges that are ready to go row by row: what is worked out before the first row, and what is kept from row to row.
use Rattle.std.specs.Prelude.{ℕ, ◌≡◌, ◌*◌, ◌≤◌, List, length, Option, None, Some}
use Rattle.mlt_base.specs.declared.geometry.Geometry.{Geometry}
use Rattle.mlt_image.specs.Kept.{AreRows}
use Rattle.mlt_tree.specs.declared.merge.MergeStep.{MergeStep}
use Rattle.mlt_tree.specs.declared.merge.MergeStep.TheVariants.{Luma, Composite, Matte, Mix, Sum}
use Rattle.mlt_tree.specs.Merges.{map_of}
use Rattle.mlt_tree.specs.Ranges.{IsMergeStep}
use Rattle.mlt_trans.specs.declared.composite.Room.{Room}
use Rattle.mlt_trans.specs.Columns.{Widths}
use Rattle.mlt_trans.specs.Maps.{IsMap}
use Rattle.mlt_trans.specs.Placed.{IsVisible, places_of}
use Rattle.mlt_trans.specs.Shares.{Edge}

-- a merge into pictures of a size, with the picture that is merged into them and that of its map
pub record Merge : Type 0 where
  pub step : MergeStep
  pub map : Option (List ℕ)
  pub width : ℕ
  pub height : ℕ
  pub other : List ℕ

-- ---- before the first row

-- shares are those of the edge of a luma by a map; no other merge needs any
abbrev pub HasShares : MergeStep → Edge → Type 0
HasShares (Luma None softness q) shares = Unit {0}
HasShares (Luma (Some source) softness q) shares = shares ≡ record { softness = softness.0; q = q.0 }
HasShares (Composite geometry) shares = Unit {0}
HasShares Matte shares = Unit {0}
HasShares (Mix p frames) shares = Unit {0}
HasShares Sum shares = Unit {0}

-- columns are those of a composite's rectangle along those of pictures of a width; no other merge needs any
abbrev pub HasColumns : MergeStep → (width : ℕ) → Widths → Type 0
HasColumns (Luma source softness q) width columns = Unit {0}
HasColumns (Composite geometry) width columns = columns ≡ record { pixels = width; taken = geometry.width }
HasColumns Matte width columns = Unit {0}
HasColumns (Mix p frames) width columns = Unit {0}
HasColumns Sum width columns = Unit {0}

-- the numbers are in their ranges, the pictures have the size, and what the merge needs is worked out
pub record IsReady (m : Merge) (shares : Edge) (columns : Widths) : Type 0 where
  pub range : IsMergeStep m.step
  pub some_columns : 1 ≤ m.width
  pub few_columns : m.width ≤ 4096
  pub some_rows : 1 ≤ m.height
  pub few_rows : m.height ≤ 4096
  pub sized : length m.other ≡ m.height * (m.width * 4)
  pub map : IsMap (map_of m.step) (length m.other) m.map
  pub turned : HasShares m.step shares
  pub placed : HasColumns m.step m.width columns

-- ---- from row to row

-- a room has the columns of a frame that show a rectangle, and rows of the picture zs across at their places
pub record IsRoom (geometry : Geometry) (width : ℕ) (zs : List ℕ) (room : Room) : Type 0 where
  pub columns : IsVisible geometry.x geometry.width width room.columns.from room.columns.skip room.columns.count
  pub rows : AreRows zs width (places_of width geometry.width room.columns.skip room.columns.count) room.rows

-- a composite keeps a room, or none where the rectangle has the picture's own size; no other merge needs one
abbrev pub Keeps : MergeStep → (width height : ℕ) → (zs : List ℕ) → Option Room → Type 0
Keeps (Luma source softness q) width height zs kept = Unit {0}
Keeps (Composite geometry) width height zs None = (geometry.width ≡ width) × (geometry.height ≡ height)
Keeps (Composite geometry) width height zs (Some room) = IsRoom geometry width zs room
Keeps Matte width height zs kept = Unit {0}
Keeps (Mix p frames) width height zs kept = Unit {0}
Keeps Sum width height zs kept = Unit {0}
