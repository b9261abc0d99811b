use Rattle.std.proofs.Common.{◌≡◌, ◌+◌, ◌^◌, ◌<◌, Some, length}
use Rattle.std.specs.List.{slice_split}
use Rattle.mlt_base.specs.Animation.{keys_of, is_semicolon}
use Rattle.mlt_base.proofs.Keys.{with_front}
use Rattle.mlt_base.proofs.animation.keys_behind.Given as goal

-- the keys so far and those of the rest are all; the rest ends where the bytes do
abbrev pub invariant-loop-rest : goal.invariant-loop-rest
invariant-loop-rest l = record {
  all : with_front l.keys.items (keys_of (Some l.last) l.at (slice_split is_semicolon l.rest)) ≡ keys_of (Some l.fn.last) l.fn.at (slice_split is_semicolon l.bytes);
  place : 0 < length l.rest → l.at + length l.rest < 2 ^ 63;
}

abbrev pub decreases-loop-rest : goal.decreases-loop-rest
decreases-loop-rest l = length l.rest
