-- What a disk tells of its files, and its counts of calls and of failures.
use Rattle.std.specs.Prelude.{◌≡◌, ℕ, List, Option, Some, None, Result, Ok, Err, IfSome, IsSomeAnd}
use Rattle.mlt_host.specs.declared.disk.OpenFault.{OpenFault}
use Rattle.mlt_host.specs.declared.disk.OpenFault.TheVariants.{Missing, Failed, Memory}
use Rattle.mlt_host.specs.Streams.{SourceState}
use Rattle.mlt_host.specs.Count.{next, port_count}

-- a disk; None is what it does not tell
pub record DiskState : Type 0 where
  -- the bytes of each file, by its name
  pub files : Option (List ℕ → Option (List ℕ))
  -- how often an open or a create has failed; a file that is missing is no failure of the disk
  pub failures : ℕ
  -- how often it was asked to open a file
  pub opens : ℕ
  -- how often it was asked to create a file
  pub creates : ℕ

-- the count of failures after this answer of an open
abbrev pub open_count : {T : Type 0} → Result T OpenFault → ℕ → ℕ
open_count (Ok _) count = count
open_count (Err Missing) count = count
open_count (Err Failed) count = next count
open_count (Err Memory) count = count

-- an open gives the file with all its bytes left, of which no read has failed; it is missing where the disk has none
abbrev pub IsOpenOf : {F : Type 0} → Result F OpenFault → (F → SourceState) → List ℕ → Option (List ℕ → Option (List ℕ)) → Type 0
IsOpenOf (Ok file) source name files = ((source file).failures ≡ 0) × IfSome files (λ told. IsSomeAnd (told name) (λ bytes. (source file).left ≡ Some bytes))
IsOpenOf (Err Missing) source name files = IfSome files (λ told. told name ≡ None)
IsOpenOf (Err Failed) source name files = Unit {0}
IsOpenOf (Err Memory) source name files = Unit {0}

-- it was asked once to open a file, and to create none; its files have not changed
pub record AskedToOpen (old new : DiskState) : Type 0 where
  pub files : new.files ≡ old.files
  pub opens : new.opens ≡ next old.opens
  pub creates : new.creates ≡ old.creates

-- it was asked once to create a file, and to open none; what it tells has not changed, and an Err is one failure
pub record AskedToCreate {T E : Type 0} (result : Result T E) (old new : DiskState) : Type 0 where
  pub files : new.files ≡ old.files
  pub opens : new.opens ≡ old.opens
  pub creates : new.creates ≡ next old.creates
  pub failures : new.failures ≡ port_count result old.failures
