-- What both hosts in memory have in common.
use Rattle.std.specs.Prelude.{◌≡◌, ℕ, List, [], Some, None, IsSomeAnd}
use Rattle.mlt_base.specs.declared.port.Port.{Port}
use Rattle.mlt_host.specs.Host.{HostState, created}

-- a host that tells everything, has no file, and on which no call was made
pub record IsUnused (state : HostState) : Type 0 where
  pub files : IsSomeAnd state.files (λ file. (name : List ℕ) → file name ≡ None)
  pub asked : state.asked ≡ Some []
  pub ports : (port : Port) → state.port port ≡ Some (created [])
  pub load_faults : state.load_faults ≡ 0
  pub faults : (port : Port) → state.faults port ≡ 0
  pub creates : (port : Port) → state.creates port ≡ 0

-- nothing but the files has changed
pub record OnlyFiles (old new : HostState) : Type 0 where
  pub asked : new.asked ≡ old.asked
  pub ports : (port : Port) → new.port port ≡ old.port port
  pub load_faults : new.load_faults ≡ old.load_faults
  pub faults : (port : Port) → new.faults port ≡ old.faults port
  pub creates : (port : Port) → new.creates port ≡ old.creates port
