-- What holds of the fields of a block.
use Rattle.std.specs.Prelude.{◌≡◌, ℕ, ◌^◌, ◌≤◌, length, map, Some}
use Rattle.std.specs.declared.alloc.Global.{Global}
use Rattle.mlt_raw.specs.Places.{somes}
use Rattle.mlt_raw.specs.declared.cells.Base.{Base}
use Rattle.mlt_raw.specs.declared.cells.Cells.{Cells}
use Rattle.mlt_raw.specs.declared.cells.Deed.{Deed}

pub record IsWholeBlock (base : Base ℕ) (size : ℕ) (cells : Cells ℕ) (deed : Deed ℕ Global) (alloc : Global) : Type 0 where
  -- the places and the right to free them are those at the base
  pub together : (cells.at ≡ base.ptr) × (deed.at ≡ base.ptr) × (deed.len ≡ size) × (deed.alloc ≡ alloc)
  -- each place holds a byte
  pub full : cells.slots ≡ map Some (somes cells.slots)
  pub count : length cells.slots ≡ size
  pub few : size ≤ 2 ^ 28
