use Rattle.std.proofs.Common.{◌≡◌, ◌≤◌, ◌<◌, ◌-◌, ◌%◌, length}
use Rattle.mlt_image.proofs.Tiled.{IsTiled}
use Rattle.mlt_image.proofs.tile.tile.Given as goal

-- whole pixels are filled, until all bytes are
abbrev pub invariant-loop-filled : goal.invariant-loop-filled
invariant-loop-filled l = record {
  some : length l.pixel ≤ l.filled;
  within : l.filled ≤ length l.bytes;
  whole : l.filled < length l.bytes → l.filled % length l.pixel ≡ 0;
  tiled : IsTiled l.pixel l.bytes l.filled;
}

abbrev pub decreases-loop-filled : goal.decreases-loop-filled
decreases-loop-filled l = length l.bytes - l.filled
