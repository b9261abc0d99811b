use Rattle.std.proofs.Common.{◌≡◌, ◌+◌, drop}
use Rattle.mlt_base.specs.Reading.{digit_count}
use Rattle.mlt_base.proofs.reading.digit_count.Given as goal

-- the digits passed so far, and those ahead, are all
abbrev pub invariant-loop-b : goal.invariant-loop-b
invariant-loop-b l = (l.count ≡ l.b-index) × (l.count + digit_count (drop l.b-index l.bytes) ≡ digit_count l.bytes)
