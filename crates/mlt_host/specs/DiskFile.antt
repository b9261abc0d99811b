-- What a load of a disk answers, and which failures it may tell.
use Rattle.std.specs.Prelude.{◌≡◌, ◌⊎◌, ℕ, ◌<◌, ◌≤◌, List, length, Option, Some, None, IfSome, IsSomeAnd, Result, Ok, Err, Vec}
use Rattle.std.specs.declared.alloc.Global.{Global}
use Rattle.mlt_host.specs.declared.host.LoadFault.{LoadFault}
use Rattle.mlt_host.specs.declared.host.LoadFault.TheVariants.{Missing, Failed, TooLarge, Memory}
use Rattle.mlt_host.specs.Count.{next}
use Rattle.mlt_host.specs.Streams.{SourceState}

-- all the bytes that the file had, where they are known, or the fault that it had more than the limit
abbrev pub IsReadOf : Result (Vec ℕ Global) LoadFault → ℕ → Option (List ℕ) → Type 0
IsReadOf (Ok bytes) limit had = (length bytes.items ≤ limit) × IfSome had (λ all. bytes.items ≡ all)
IsReadOf (Err Missing) limit had = ⊥
IsReadOf (Err Failed) limit had = Unit {0}
IsReadOf (Err (TooLarge size)) limit had = (size ≡ limit) × IfSome had (λ all. limit < length all)
IsReadOf (Err Memory) limit had = Unit {0}

-- the count of failed reads after this answer: Failed is one more, and no other answer is
abbrev pub read_count : {T : Type 0} → Result T LoadFault → ℕ → ℕ
read_count (Ok _) count = count
read_count (Err Missing) count = count
read_count (Err Failed) count = next count
read_count (Err (TooLarge _)) count = count
read_count (Err Memory) count = count

-- a load has all the bytes of the file of that name, where the disk tells its files; Missing only where it has none
abbrev pub IsLoadOf : Result (Vec ℕ Global) LoadFault → List ℕ → ℕ → Option (List ℕ → Option (List ℕ)) → Type 0
IsLoadOf (Ok bytes) name limit files = (length bytes.items ≤ limit) × IfSome files (λ told. told name ≡ Some bytes.items)
IsLoadOf (Err Missing) name limit files = IfSome files (λ told. told name ≡ None)
IsLoadOf (Err Failed) name limit files = Unit {0}
IsLoadOf (Err (TooLarge size)) name limit files = (size ≡ limit) × IfSome files (λ told. IsSomeAnd (told name) (λ all. limit < length all))
IsLoadOf (Err Memory) name limit files = Unit {0}

-- the disk has failed once more, or it has not, and a file of which no read had failed has failed at one
abbrev pub OneFailure : {F : Type 0} → (F → SourceState) → ℕ → ℕ → Type 0
OneFailure {F} source before now = (now ≡ next before) ⊎ ((now ≡ before) × ((file : F) × ((source file).failures ≡ next 0)))

-- a load answers Failed only where the disk or its file has failed, and no other answer follows a failure of the disk
abbrev pub IsFaultOf : {F : Type 0} → Result (Vec ℕ Global) LoadFault → (F → SourceState) → ℕ → ℕ → Type 0
IsFaultOf (Ok _) source before now = now ≡ before
IsFaultOf (Err Missing) source before now = now ≡ before
IsFaultOf (Err Failed) source before now = OneFailure source before now
IsFaultOf (Err (TooLarge _)) source before now = now ≡ before
IsFaultOf (Err Memory) source before now = now ≡ before
