use Rattle.std.proofs.Common.{◌≡◌, take}
use Rattle.mlt_eval.proofs.tests.stack_of.Given as goal

-- the operations so far
abbrev pub invariant-loop-op : goal.invariant-loop-op
invariant-loop-op l = l.stack.ops ≡ take l.op-index l.ops
