use Rattle.std.proofs.Common.{◌≡◌, ◌≤◌, drop}
use Rattle.mlt_base.specs.Animation.{value_from}
use Rattle.mlt_base.proofs.animation.value_from.Given as goal

-- from the last key passed on the value is that from the first
abbrev pub invariant-loop-b : goal.invariant-loop-b
invariant-loop-b l = (value_from l.a (drop l.b-index l.keys) l.p ≡ value_from l.fn.first l.keys l.p) × (l.a.frame ≤ l.p)
