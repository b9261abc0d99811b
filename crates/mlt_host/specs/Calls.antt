-- The counts that a disk of this crate keeps.
use Rattle.std.specs.Prelude.{ℕ, List, Option}
use Rattle.mlt_host.specs.declared.calls.Calls.{Calls}
use Rattle.mlt_host.specs.Disk.{DiskState}

-- a disk that tells these files and has these counts
abbrev pub counting : Option (List ℕ → Option (List ℕ)) → Calls → DiskState
counting told calls = record { files = told; failures = calls.failures; opens = calls.opens; creates = calls.creates }
