use Rattle.std.proofs.Common.{◌≡◌, ℕ, List, ◌++◌, length}
use Rattle.std.specs.Io.KnownBytes.{Appends}
use Rattle.mlt_host.proofs.disk_file.write_whole.Given as goal

-- what is gone from the rest was written, without a failure and without a flush
abbrev pub invariant-loop-rest : goal.invariant-loop-rest
invariant-loop-rest g l = record {
  written : (done : List ℕ) × (l.initial.rest ≡ done ++ l.rest) × Appends (g.W.Sink.sink l.initial.to).contents (g.W.Sink.sink l.to).contents done;
  failures : (g.W.Sink.sink l.to).failures ≡ (g.W.Sink.sink l.initial.to).failures;
  flushes : (g.W.Sink.sink l.to).flushes ≡ (g.W.Sink.sink l.initial.to).flushes;
}

-- how many bytes are to be written
abbrev pub decreases-loop-rest : goal.decreases-loop-rest
decreases-loop-rest g l = length l.rest
