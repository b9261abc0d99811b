-- What the registers of a rack have.
use Rattle.std.specs.Prelude.{ℕ, ◌<◌, List, [], take, Option, None, Some, slice_index_or}
use Rattle.mlt_eval.specs.declared.register.Register.{Register}
use Rattle.mlt_eval.specs.declared.register.Register.TheVariants.{Nothing, Lent, Owned}
use Rattle.mlt_eval.specs.Down.{down}
use Rattle.mlt_eval.specs.Fitted.{fit_at}
use Rattle.mlt_tree.specs.Show.{Fit}

-- the picture of a register with its block: one that was fitted, by its place, or the first bytes of the block
abbrev pub held : (bytes : ℕ) → List Fit → (block : List ℕ) → Register → Option (List ℕ)
held bytes fits block Nothing = None
held bytes fits block (Lent place) = Some ((fit_at fits place).picture.pixels)
held bytes fits block Owned = Some (take bytes block)

-- the picture of the register of a number
abbrev pub register : (bytes : ℕ) → List Fit → List (List ℕ) → List Register → ℕ → Option (List ℕ)
register bytes fits blocks states k = held bytes fits (slice_index_or blocks k []) (slice_index_or states k Nothing)

-- the first n registers, the top one first
abbrev pub registers : (bytes : ℕ) → List Fit → List (List ℕ) → List Register → (n : ℕ) → List (Option (List ℕ))
registers bytes fits blocks states n = down (register bytes fits blocks states) n

-- of n pictures that were fitted, the one that is lent is there
abbrev pub IsThere : (n : ℕ) → Register → Type 0
IsThere n Nothing = Unit {0}
IsThere n (Lent place) = place < n
IsThere n Owned = Unit {0}
