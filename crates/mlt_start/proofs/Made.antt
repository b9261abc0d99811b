-- The operations of a tree make what it has at a position.
use Rattle.std.proofs.Common.{◌≡◌, ℕ, List, sym, subst}
use Rattle.mlt_frame.specs.declared.op.Op.{Op}
use Rattle.mlt_frame.specs.Started.{Makes}
use Rattle.mlt_tree.specs.Medium.{Medium}
use Rattle.mlt_tree.specs.Tree.{Tree}
use Rattle.mlt_start.specs.Code.{code, or_absent}
use Rattle.mlt_start.proofs.Counted.{or_absent-few, or_absent-fits, or_absent-named}
use Rattle.mlt_start.proofs.Meant.{regs-code}
use Rattle.mlt_start.proofs.Ranged.{or_absent-in_range}
use Rattle.mlt_start.proofs.Planted.{IsPlanted}
use Rattle.mlt_start.proofs.Ranged.{IsRanged}

pub code-made : (v : Medium) (A : Type 0) (t : Tree) (n : ℕ) → IsPlanted t → IsRanged t → Makes v A t n (or_absent (code v t n))
code-made v A t n planted ranged = record {
  means = λ m. regs-code v m t planted n;
  fits = or_absent-fits v t planted n;
  ranges = or_absent-in_range v t ranged n;
  few = or_absent-few v t planted n;
  names = or_absent-named v t n;
}

-- the operations on a stack are those
pub ops-made : (v : Medium) (A : Type 0) (t : Tree) (n : ℕ) (ops : List Op) → IsPlanted t → IsRanged t → ops ≡ or_absent (code v t n) → Makes v A t n ops
ops-made v A t n ops planted ranged is = subst (Makes v A t n) (sym is) (code-made v A t n planted ranged)
