use Rattle.std.proofs.Common.{◌≤◌, length, take}
use Rattle.melt_build.specs.Object.{HoldsTexts}
use Rattle.melt_build.proofs.object.Object.read.Given as goal

-- the texts of the properties so far
abbrev pub invariant-loop-prop : goal.invariant-loop-prop
invariant-loop-prop l = record {
  same : HoldsTexts l.texts (take l.prop-index l.words);
  few : length l.texts ≤ l.prop-index;
}
