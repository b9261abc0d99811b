-- What operations make of registers, tried on small stacks: each equation is checked by computing both of its sides.
use Rattle.std.proofs.Common.{ℕ, ◌≡◌, ◌≤◌, List, [], ◌∷◌, Option, None, Some, refl, arith}
use Rattle.mlt_frame.specs.declared.op.Op.{Op}
use Rattle.mlt_frame.specs.declared.op.Op.TheVariants.{Load, Absent, Filter, Merge, Keep}
use Rattle.mlt_frame.specs.Fits.{FitsRegisters}
use Rattle.mlt_frame.specs.Loads.{loads}
use Rattle.mlt_frame.specs.Registers.{regs}
use Rattle.mlt_tree.specs.declared.filter.FilterStep.{FilterStep}
use Rattle.mlt_tree.specs.declared.filter.FilterStep.TheVariants.{Invert}
use Rattle.mlt_tree.specs.declared.merge.MergeStep.{MergeStep}
use Rattle.mlt_tree.specs.declared.merge.MergeStep.TheVariants.{Matte}
use Rattle.mlt_tree.specs.Meaning.{Matter}

-- what writes down how it was made
data Trace : Type 0 where
  Of : (source n : ℕ) → Trace
  Filtered : FilterStep → Trace → Trace
  Merged : MergeStep → Trace → Trace → Trace
  -- into a register that has nothing
  MergedAlone : MergeStep → Trace → Trace

abbrev merged : MergeStep → Option Trace → Trace → Trace
merged step None above = MergedAlone step above
merged step (Some under) above = Merged step under above

abbrev traces : Matter Trace
traces = record { source = Of; filter = Filtered; merge = merged }

-- the registers that operations leave, the top one first
abbrev made : List Op → List (Option Trace)
made ops = regs traces [] ops

abbrev load_of : (source n : ℕ) → Op
load_of source n = Load (record { 0 = source }) (record { 0 = n })

one_load : made (load_of 3 5 ∷ []) ≡ (Some (Of 3 5) ∷ [])
one_load = refl

filtered : made (load_of 3 5 ∷ Filter 0 Invert ∷ []) ≡ (Some (Filtered Invert (Of 3 5)) ∷ [])
filtered = refl

-- a filter leaves nothing as it is, and no other register changes
filter_below : made (load_of 3 5 ∷ Absent ∷ Filter 1 Invert ∷ Filter 0 Invert ∷ []) ≡ (None ∷ Some (Filtered Invert (Of 3 5)) ∷ [])
filter_below = refl

-- ---- merges

-- the top register goes into the one below it, which is kept of the two
abbrev two : List Op
two = load_of 0 5 ∷ load_of 1 5 ∷ Merge 1 0 Matte ∷ []

two_merged : made two ≡ (None ∷ Some (Merged Matte (Of 0 5) (Of 1 5)) ∷ [])
two_merged = refl

two_kept : regs traces (Some (Of 9 9) ∷ []) (load_of 0 5 ∷ load_of 1 5 ∷ Merge 1 0 Matte ∷ Keep 0 2 ∷ []) ≡ (Some (Merged Matte (Of 0 5) (Of 1 5)) ∷ Some (Of 9 9) ∷ [])
two_kept = refl

-- the other way around
merged_upwards : made (load_of 0 5 ∷ load_of 1 5 ∷ Merge 0 1 Matte ∷ Keep 1 2 ∷ []) ≡ (Some (Merged Matte (Of 1 5) (Of 0 5)) ∷ [])
merged_upwards = refl

merged_into_nothing : made (Absent ∷ load_of 1 5 ∷ Merge 1 0 Matte ∷ Keep 0 2 ∷ []) ≡ (Some (MergedAlone Matte (Of 1 5)) ∷ [])
merged_into_nothing = refl

nothing_merged : made (load_of 0 5 ∷ Absent ∷ Merge 1 0 Matte ∷ Keep 0 2 ∷ []) ≡ (Some (Of 0 5) ∷ [])
nothing_merged = refl

middle_kept : made (load_of 0 5 ∷ load_of 1 5 ∷ load_of 2 5 ∷ Keep 1 3 ∷ []) ≡ (Some (Of 1 5) ∷ [])
middle_kept = refl

-- ---- loads and room

abbrev whole : List Op
whole = load_of 4 5 ∷ Absent ∷ load_of 1 5 ∷ Merge 2 0 Matte ∷ Keep 0 3 ∷ []

loaded : loads whole ≡ (4 ∷ 1 ∷ [])
loaded = refl

-- a merge of three registers wants a fourth
whole_fits : FitsRegisters 4 0 whole
whole_fits =
    (tt, omega arith, (tt, omega arith, (tt, omega arith, ((omega arith, omega arith, omega arith), omega arith, ((omega arith, omega arith), omega arith, (refl, omega arith))))))

whole_needs : (k : ℕ) → FitsRegisters k 0 whole → 4 ≤ k
whole_needs k fits = omega (arith, fits.2.2.2.1)
