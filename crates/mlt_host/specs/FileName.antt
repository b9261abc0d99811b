-- The name that is kept of an open file.
use Rattle.std.specs.Prelude.{ℕ, List, take}
use Rattle.mlt_host.specs.declared.file_name.FileName.{FileName}

-- the bytes of the name
abbrev pub name_in : FileName → List ℕ
name_in name = take name.length name.bytes
