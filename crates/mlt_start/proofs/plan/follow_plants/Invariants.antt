use Rattle.std.proofs.Common.{◌≡◌, length, map, fold, drop}
use Rattle.mlt_start.specs.Asked.{medium_of}
use Rattle.mlt_start.specs.Code.{has_after, ends_in}
use Rattle.mlt_start.proofs.plan.follow_plants.Given as goal

-- with the plants from here on it ends as with all
abbrev pub invariant-loop-index : goal.invariant-loop-index
invariant-loop-index l = record {
  long : length l.has ≡ length l.initial.has;
  has : fold (has_after (medium_of l.asked) l.at) l.has (drop l.index l.plants) ≡ fold (has_after (medium_of l.asked) l.at) l.initial.has l.plants;
  ends : map (ends_in (medium_of l.asked) l.at l.has (drop l.index l.plants)) l.ends ≡ map (ends_in (medium_of l.asked) l.at l.initial.has l.plants) l.initial.ends;
}
