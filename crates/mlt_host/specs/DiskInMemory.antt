-- A disk in memory, and its files that are open.
use Rattle.std.specs.Prelude.{◌≡◌, ℕ, List, [], drop, Option, Some, Vec, string_bytes}
use Rattle.std.specs.declared.alloc.Global.{Global}
use Rattle.std.specs.declared.io.Cursor.{Cursor}
use Rattle.std.specs.Io.Cursor.{cursor_position, cursor_inner}
use Rattle.mlt_host.specs.declared.counted.Counted.{Counted}
use Rattle.mlt_host.specs.declared.disk_in_memory.MemDisk.{MemDisk}
use Rattle.mlt_host.specs.declared.disk_in_memory.MemFile.{MemFile}
use Rattle.mlt_host.specs.Streams.{SinkState}
use Rattle.mlt_host.specs.Counted.{inner_of, counted_sink}
use Rattle.mlt_host.specs.Disk.{DiskState}
use Rattle.mlt_host.specs.Calls.{counting}
use Rattle.mlt_host.specs.Files.{file_in}

-- the bytes of the file of that name
abbrev pub file_on : MemDisk → List ℕ → Option (List ℕ)
file_on disk = file_in disk.files

-- what it tells: its files, and its counts
abbrev pub mem_disk : MemDisk → DiskState
mem_disk disk = counting (Some (file_on disk)) disk.calls

-- the bytes that are left to be read
abbrev pub left_in : Counted (Cursor (Vec ℕ Global)) → List ℕ
left_in opened = drop (cursor_position (inner_of opened)) (cursor_inner (inner_of opened)).items

-- the name that the file was created with
abbrev pub name_of : MemFile → List ℕ
name_of file = string_bytes file.name

-- the bytes that were written
abbrev pub written_to : MemFile → List ℕ
written_to file = (inner_of file.written).items

-- what it tells to those that write to it
abbrev pub mem_sink : MemFile → SinkState
mem_sink file = counted_sink (λ written. Some written.items) file.written

-- a create of that name gives a file of that name to which nothing was written
abbrev pub IsCreated : MemFile → List ℕ → Type 0
IsCreated file name = (name_of file ≡ name) × (written_to file ≡ [])

-- each file is as it was
abbrev pub KeepsFiles : MemDisk → MemDisk → Type 0
KeepsFiles old new = (name : List ℕ) → file_on new name ≡ file_on old name
