use Rattle.std.proofs.Common.{◌≡◌, ◌-◌, ◌^◌, min, take}
use Rattle.mlt_base.specs.Reading.{number}
use Rattle.mlt_base.proofs.reading.number.Given as goal

-- the number of the digits so far
abbrev pub invariant-loop-digit : goal.invariant-loop-digit
invariant-loop-digit l = l.n ≡ min (number (take l.digit-index l.digits)) (2 ^ 64 - 1)
