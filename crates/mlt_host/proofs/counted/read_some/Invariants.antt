use Rattle.std.specs.Io.KnownBytes.{Keeps}
use Rattle.mlt_host.proofs.counted.read_some.Given as goal

-- an interrupted read takes nothing
abbrev pub invariant-loop : goal.invariant-loop
invariant-loop g l = Keeps (g.R.Read.remaining l.initial.from) (g.R.Read.remaining l.from)
