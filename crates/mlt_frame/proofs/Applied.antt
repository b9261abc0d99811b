-- How many registers operations leave.
use Rattle.std.proofs.Common.{ℕ, ◌≡◌, List, [], ◌∷◌, length, get_or, Option, None, Some, refl, arith, subst, sym, length-drop}
use Rattle.std.proofs.lemmas.List.{length-set}
use Rattle.mlt_frame.specs.declared.op.Op.{Op}
use Rattle.mlt_frame.specs.declared.op.Op.TheVariants.{Load, Absent, Filter, Merge, Keep}
use Rattle.mlt_frame.specs.Fits.{FitsRegisters, after}
use Rattle.mlt_frame.specs.Registers.{apply, regs}
use Rattle.mlt_tree.specs.Meaning.{Matter, merged_into}

module _ {A : Type 0} where
  length-merged : (merge : Option A → A → A) (a b : ℕ) (rs : List (Option A)) (x : Option A) → length (merged_into merge a b rs x) ≡ length rs
  length-merged merge a b rs None = refl
  length-merged merge a b rs (Some z) = simp length-set refl

  -- as many as the definition of fitting stacks counts
  pub length-apply : (m : Matter A) (rs : List (Option A)) (op : Op) → length (apply m rs op) ≡ after (length rs) op
  length-apply m rs (Load source at) = omega arith
  length-apply m rs Absent = omega arith
  length-apply m rs (Filter depth step) = length-set rs depth _
  length-apply m rs (Merge a b step) = length-merged (m.merge step) a b rs (get_or rs b None)
  length-apply m rs (Keep row count) = omega (arith, length-drop count rs)

  -- a stack that fits leaves one register
  pub one_left : (m : Matter A) (rs : List (Option A)) (k : ℕ) (ops : List Op) → FitsRegisters k (length rs) ops → length (regs m rs ops) ≡ 1
  one_left m rs k [] fits = fits.0
  one_left m rs k (op ∷ ops) fits = one_left m (apply m rs op) k ops (subst (λ n. FitsRegisters k n ops) (sym (length-apply m rs op)) fits.2)
