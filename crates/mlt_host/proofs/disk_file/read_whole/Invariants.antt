use Rattle.std.proofs.Common.{◌≡◌, ◌-◌, ◌≤◌, take, vec_len}
use Rattle.std.specs.Io.KnownBytes.{Consumes}
use Rattle.mlt_host.proofs.disk_file.read_whole.Given as goal

-- the filled bytes are within the list and the limit, and are those that the file has lost without a failure
abbrev pub invariant-loop-bytes : goal.invariant-loop-bytes
invariant-loop-bytes g l = record {
  within : l.filled ≤ vec_len l.bytes;
  below : l.filled ≤ l.limit;
  read : Consumes (g.F.Source.source l.initial.file).left (g.F.Source.source l.file).left (take l.filled l.bytes.items);
  failures : (g.F.Source.source l.file).failures ≡ (g.F.Source.source l.initial.file).failures;
}

-- how many more bytes the limit allows
abbrev pub decreases-loop-bytes : goal.decreases-loop-bytes
decreases-loop-bytes g l = l.limit - l.filled
