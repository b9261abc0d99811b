-- What a stack of operations is seen as.
use Rattle.std.specs.Prelude.{ℕ, ◌+◌, ◌-◌, min, List, [], length}
use Rattle.mlt_frame.specs.declared.op.Op.{Op}

-- the operations in the order in which they were pushed, and how many more can be pushed without memory
pub record Stack : Type 0 where
  pub ops : List Op
  pub spare : ℕ

-- how many operations a stack has room for in all
abbrev pub room : Stack → ℕ
room stack = length stack.ops + stack.spare

-- the stack without its operations, with its room
abbrev pub emptied : Stack → Stack
emptied stack = record { ops = []; spare = room stack }

-- the most operations that a stack may have: they are counted in 32 bits
abbrev pub most_ops : ℕ
most_ops = 4294967295

-- the stack of these operations, in a place where so many fit
abbrev pub stack_in : List Op → (capacity : ℕ) → Stack
stack_in ops capacity = record { ops = ops; spare = min capacity most_ops - length ops }
