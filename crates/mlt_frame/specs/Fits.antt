-- Whether operations find the registers that they name, and how many registers they come to.
use Rattle.std.specs.Prelude.{◌≡◌, ◌≢◌, ℕ, ◌+◌, ◌-◌, ◌<◌, ◌≤◌, List, [], ◌∷◌}
use Rattle.mlt_frame.specs.declared.op.Op.{Op}
use Rattle.mlt_frame.specs.declared.op.Op.TheVariants.{Load, Absent, Filter, Merge, Keep}

-- how many registers there are after an operation on n
abbrev pub after : (n : ℕ) → Op → ℕ
after n (Load source at) = n + 1
after n Absent = n + 1
after n (Filter depth step) = n
after n (Merge a b step) = n
after n (Keep row count) = n - count + 1

-- among n registers an operation finds those that it names; a merge names two
abbrev pub Finds : (n : ℕ) → Op → Type 0
Finds n (Load source at) = Unit {0}
Finds n Absent = Unit {0}
Finds n (Filter depth step) = depth < n
Finds n (Merge a b step) = (a < n) × (b < n) × (a ≢ b)
Finds n (Keep row count) = (row < count) × (count ≤ n)

-- of k registers, n leave the room that an operation wants: a merge wants one of its own
abbrev pub HasRoom : (k n : ℕ) → Op → Type 0
HasRoom k n (Load source at) = n ≤ k
HasRoom k n Absent = n ≤ k
HasRoom k n (Filter depth step) = n ≤ k
HasRoom k n (Merge a b step) = n < k
HasRoom k n (Keep row count) = n ≤ k

-- from n registers on, operations find the registers that they name and end with one register, and no stage has
-- more than k registers, nor all k at a merge
abbrev pub FitsRegisters : (k n : ℕ) → List Op → Type 0
FitsRegisters k n [] = (n ≡ 1) × (n ≤ k)
FitsRegisters k n (op ∷ ops) = Finds n op × HasRoom k n op × FitsRegisters k (after n op) ops
