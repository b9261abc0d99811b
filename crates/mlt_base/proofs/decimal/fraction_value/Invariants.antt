use Rattle.std.proofs.Common.{◌≡◌, ◌≤◌, length, drop}
use Rattle.mlt_base.proofs.Decimals.{fraction_of}
use Rattle.mlt_base.proofs.decimal.fraction_value.Given as goal

-- what the digits from i on write
abbrev pub invariant-loop-i : goal.invariant-loop-i
invariant-loop-i l = record {
  value : l.n ≡ fraction_of (drop l.i l.digits);
  bound : l.n ≤ 2000000;
  inside : l.i ≤ length l.digits;
}

abbrev pub decreases-loop-i : goal.decreases-loop-i
decreases-loop-i l = l.i
