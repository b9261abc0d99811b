use Rattle.std.proofs.Common.{◌≡◌, ◌+◌, ◌==◌, drop}
use Rattle.std.specs.List.{position_or_len}
use Rattle.mlt_base.proofs.reading.length_before.Given as goal

-- the bytes passed so far, and those before the mark ahead, are all
abbrev pub invariant-loop-b : goal.invariant-loop-b
invariant-loop-b l = (l.count ≡ l.b-index) × (l.count + position_or_len (λ b. b == l.mark) (drop l.b-index l.bytes) ≡ position_or_len (λ b. b == l.mark) l.bytes)
