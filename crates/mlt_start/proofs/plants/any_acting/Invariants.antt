use Rattle.std.proofs.Common.{◌≡◌, drop}
use Rattle.std.specs.List.{list_any}
use Rattle.mlt_start.specs.Asked.{medium_of}
use Rattle.mlt_start.specs.Code.{acts}
use Rattle.mlt_start.proofs.plants.any_acting.Given as goal

-- it depends on the others
abbrev pub invariant-loop-index : goal.invariant-loop-index
invariant-loop-index l = list_any (acts (medium_of l.asked) l.at) (drop l.index l.plants) ≡ list_any (acts (medium_of l.asked) l.at) l.plants
