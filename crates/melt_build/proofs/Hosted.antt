-- What one load after another leaves on a host.
use Rattle.std.proofs.Common.{◌∙◌, arith}
use Rattle.mlt_host.specs.Host.{HostState, OnlyLoads}

pub loads_both : (a b c : HostState) → OnlyLoads a b → OnlyLoads b c → OnlyLoads a c
loads_both a b c p q = record {
  files = q.files ∙ p.files;
  ports = λ port. q.ports port ∙ p.ports port;
  faults = λ port. q.faults port ∙ p.faults port;
  creates = λ port. q.creates port ∙ p.creates port;
  never_falls = omega (arith, p.never_falls, q.never_falls);
}
