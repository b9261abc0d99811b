-- What a host in memory without failing calls tells.
use Rattle.std.specs.Prelude.{ℕ, List, Option, Some, None, option_map, option_and_then, slice_get, slice_index, if◌then◌else◌}
use Rattle.mlt_base.specs.declared.port.Port.{Port}
use Rattle.mlt_host.specs.declared.kept.Kept.{Kept}
use Rattle.mlt_host.specs.declared.calm_host.CalmPort.{CalmPort}
use Rattle.mlt_host.specs.declared.calm_host.CalmHost.{CalmHost}
use Rattle.mlt_host.specs.Host.{HostState, PortState}
use Rattle.mlt_host.specs.Ports.{index_of}
use Rattle.mlt_host.specs.Kept.{kept_state}
use Rattle.mlt_host.specs.Files.{file_in, names_in}

-- what it tells of a port: nothing once memory was wanting to it
abbrev pub told_state : CalmPort → Option PortState
told_state port = if port.told then Some (kept_state port.kept) else None

-- the bytes of the file of that name
abbrev pub calm_file : CalmHost → List ℕ → Option (List ℕ)
calm_file host = file_in host.files

-- what it tells: all but the ports to which memory was wanting; no port has ever met a fault
abbrev pub calm_state : CalmHost → HostState
calm_state host = record {
  files = Some (calm_file host);
  asked = Some (names_in host.asked.items);
  port = λ port. option_and_then told_state (slice_get host.ports (index_of port));
  load_faults = host.load_faults;
  faults = λ port. 0;
  creates = λ port. slice_index host.creates (index_of port);
}

-- what it keeps of the port
abbrev pub calm_port : CalmHost → Port → Option Kept
calm_port host port = option_map (λ told. told.kept) (slice_get host.ports (index_of port))
