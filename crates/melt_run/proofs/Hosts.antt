-- What one call after another changes on a host.
use Rattle.std.proofs.Common.{ℕ, ◌≡◌, List, Option, ap, ◌∙◌}
use Rattle.std.proofs.Math.Path.{fun_ext}
use Rattle.mlt_base.specs.declared.port.Port.{Port}
use Rattle.mlt_host.specs.Host.{HostState, PortState, OnlyPort, OnlyLoads}
use Rattle.mlt_tree.specs.Loading.{Files}

pub only_both : (port : Port) (a b c : HostState) → OnlyPort port a b → OnlyPort port b c → OnlyPort port a c
only_both port a b c p q = record {
  files = q.files ∙ p.files;
  asked = q.asked ∙ p.asked;
  load_faults = q.load_faults ∙ p.load_faults;
  other_ports = λ other apart. q.other_ports other apart ∙ p.other_ports other apart;
  other_faults = λ other apart. q.other_faults other apart ∙ p.other_faults other apart;
  other_creates = λ other apart. q.other_creates other apart ∙ p.other_creates other apart;
}

abbrev state : Option Files → Option (List (List ℕ)) → (Port → Option PortState) → ℕ → (Port → ℕ) → (Port → ℕ) → HostState
state files asked port load_faults faults creates =
    record { files = files; asked = asked; port = port; load_faults = load_faults; faults = faults; creates = creates }

-- a host on which files were loaded is as before, but for the names asked and the count of loads
pub loaded : (a b : HostState) → OnlyLoads a b → b ≡ record a { asked = b.asked; load_faults = b.load_faults }
loaded a b only =
    ap (λ files. state files b.asked b.port b.load_faults b.faults b.creates) only.files
    ∙ ap (λ port. state a.files b.asked port b.load_faults b.faults b.creates) (fun_ext only.ports)
    ∙ ap (λ faults. state a.files b.asked a.port b.load_faults faults b.creates) (fun_ext only.faults)
    ∙ ap (λ creates. state a.files b.asked a.port b.load_faults a.faults creates) (fun_ext only.creates)
