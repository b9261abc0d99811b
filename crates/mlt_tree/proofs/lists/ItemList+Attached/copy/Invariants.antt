use Rattle.std.proofs.Common.{◌≡◌, take}
use Rattle.mlt_tree.proofs.lists.ItemList+Attached.copy.Given as goal

-- the filters so far
abbrev pub invariant-loop-filter : goal.invariant-loop-filter
invariant-loop-filter l = l.all.items ≡ take l.filter-index l.self
