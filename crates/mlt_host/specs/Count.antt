-- Numbers that count up, and what each answer adds to a count of faults or of creates.
use Rattle.std.specs.Prelude.{ℕ, ◌+◌, ◌-◌, ◌^◌, min, Result, Ok, Err, Vec}
use Rattle.std.specs.declared.alloc.Global.{Global}
use Rattle.mlt_host.specs.declared.host.LoadFault.{LoadFault}
use Rattle.mlt_host.specs.declared.host.LoadFault.TheVariants.{Missing, Failed, TooLarge, Memory}

-- the number after it; the last number of 64 bits stands
abbrev pub next : ℕ → ℕ
next number = min (number + 1) (2 ^ 64 - 1)

-- the count of loads after this answer: a file that is missing or fails counts once
abbrev pub load_count : Result (Vec ℕ Global) LoadFault → ℕ → ℕ
load_count (Ok _) count = count
load_count (Err Missing) count = next count
load_count (Err Failed) count = next count
load_count (Err (TooLarge _)) count = count
load_count (Err Memory) count = count

-- the count of a port after this answer: an Err counts once
abbrev pub port_count : {T E : Type 0} → Result T E → ℕ → ℕ
port_count (Ok _) count = count
port_count (Err _) count = next count

-- how often the port was created after this answer of a create: an Ok counts once
abbrev pub create_count : {T E : Type 0} → Result T E → ℕ → ℕ
create_count (Ok _) count = next count
create_count (Err _) count = count
