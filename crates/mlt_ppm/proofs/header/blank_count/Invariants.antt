use Rattle.std.proofs.Common.{◌≡◌, ◌+◌, false, drop}
use Rattle.mlt_base.specs.Ppm.{blank_count}
use Rattle.mlt_ppm.proofs.header.blank_count.Given as goal

-- the bytes passed so far, and the blank ones ahead, are all
abbrev pub invariant-loop-b : goal.invariant-loop-b
invariant-loop-b l = (l.count ≡ l.b-index) × (l.count + blank_count l.comment (drop l.b-index l.bytes) ≡ blank_count false l.bytes)
