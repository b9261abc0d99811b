-- What operations make of registers, each of which has something or nothing. A list of registers begins with the
-- top one.
use Rattle.std.specs.Prelude.{◌-◌, List, ◌∷◌, drop, fold, get_or, set, Option, None, Some}
use Rattle.std.specs.Option.{option_map}
use Rattle.mlt_frame.specs.declared.op.Op.{Op}
use Rattle.mlt_frame.specs.declared.op.Op.TheVariants.{Load, Absent, Filter, Merge, Keep}
use Rattle.mlt_tree.specs.Meaning.{Matter, merged_into}

-- the registers after an operation
abbrev pub apply : {A : Type 0} → Matter A → List (Option A) → Op → List (Option A)
apply m registers (Load source at) = Some (m.source source.0 at.0) ∷ registers
apply m registers Absent = None ∷ registers
apply m registers (Filter depth step) = set registers depth (option_map (m.filter step) (get_or registers depth None))
apply m registers (Merge a b step) = merged_into (m.merge step) a b registers (get_or registers b None)
apply m registers (Keep row count) = get_or registers (count - 1 - row) None ∷ drop count registers

-- the registers after operations, in the order in which they were pushed
abbrev pub regs : {A : Type 0} → Matter A → List (Option A) → List Op → List (Option A)
regs m registers ops = fold (apply m) registers ops
