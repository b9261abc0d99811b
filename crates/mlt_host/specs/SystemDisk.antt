-- The files of the system.
use Rattle.std.specs.Prelude.{None}
use Rattle.mlt_host.specs.declared.system_disk.SystemDisk.{SystemDisk}
use Rattle.mlt_host.specs.Disk.{DiskState}
use Rattle.mlt_host.specs.Calls.{counting}

-- what it tells: its counts alone
abbrev pub system_disk : {R F M : Type 0} → SystemDisk R F M → DiskState
system_disk disk = counting None disk.calls
