use Rattle.std.specs.Io.KnownBytes.{Keeps}
use Rattle.mlt_host.proofs.counted.write_some.Given as goal

-- an interrupted write leaves nothing
abbrev pub invariant-loop : goal.invariant-loop
invariant-loop g l = Keeps (g.W.Write.contents l.initial.to) (g.W.Write.contents l.to)
