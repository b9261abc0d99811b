-- How reading goes on a host: which files it asks for, and what comes of it.
use Rattle.std.specs.Prelude.{ℕ, ◌≡◌, ◌⊎◌, List, [], ◌∷◌, ◌++◌, map, take, Some, Result, Ok, Err, IfSome, IsSomeAnd}
use Rattle.mlt_host.specs.Host.{HostState, Rose}
use Rattle.mlt_tree.specs.Loading as read
use Rattle.mlt_tree.specs.Loading.{Files, Load, Read}
use Rattle.melt_build.specs.declared.fault.BuildFault.{BuildFault}
use Rattle.melt_build.specs.declared.fault.BuildFault.TheVariants.{Refused, SourceFault, Memory}

-- ---- the names asked

abbrev pub names_of : List Load → List (List ℕ)
names_of loads = map (λ load. load.name) loads

-- these names were asked for besides
abbrev pub Asks : List (List ℕ) → HostState → HostState → Type 0
Asks names old new = IfSome new.asked (λ after. IsSomeAnd old.asked (λ before. after ≡ before ++ names))

-- of these files, in order, the last one that was asked for is that of the word at a place
pub record AsksUpTo (place : ℕ) (loads : List Load) (old new : HostState) : Type 0 where
  pub before : List Load
  pub name : List ℕ
  pub rest : List Load
  pub order : loads ≡ before ++ record { place = place; name = name } ∷ rest
  pub asked : Asks (names_of before ++ name ∷ []) old new

-- some of the first of these files were asked for
abbrev pub AsksSome : List Load → HostState → HostState → Type 0
AsksSome loads old new = (count : ℕ) × Asks (take count (names_of loads)) old new

-- ---- a step of reading

-- the host tells these files, or the step looks up none
abbrev pub TellsFiles : {Y : Type 0} → Files → Read Y → HostState → Type 0
TellsFiles files step host = (host.files ≡ Some files) ⊎ (step.loads ≡ [])

-- the refusal, where all files of the step were asked for; a file that can't be read, which was the last one asked
-- for; or want of memory
abbrev pub StepFails : {Y : Type 0} → BuildFault → Read Y → HostState → HostState → Type 0
StepFails (Refused refusal) step old new = (step.end ≡ Err (read.Refused refusal)) × Asks (names_of step.loads) old new
StepFails (SourceFault place) step old new = AsksUpTo place step.loads old new
StepFails Memory step old new = AsksSome step.loads old new

-- what the step gives, seen by view, where all of its files were asked for, or how it fails
abbrev pub Goes : {X Y : Type 0} → (X → Y) → Result X BuildFault → Read Y → HostState → HostState → Type 0
Goes view (Ok x) step old new = (step.end ≡ Ok (view x)) × Asks (names_of step.loads) old new
Goes view (Err fault) step old new = StepFails fault step old new

-- ---- on every host

abbrev pub CountsBuildFault : BuildFault → HostState → HostState → Type 0
CountsBuildFault (Refused refusal) old new = new.load_faults ≡ old.load_faults
CountsBuildFault (SourceFault place) old new = Rose old.load_faults new.load_faults
CountsBuildFault Memory old new = new.load_faults ≡ old.load_faults

-- the count of loads that failed has risen where a file can't be read, and else it is as before
abbrev pub CountsBuildLoads : {X : Type 0} → Result X BuildFault → HostState → HostState → Type 0
CountsBuildLoads (Ok x) old new = new.load_faults ≡ old.load_faults
CountsBuildLoads (Err fault) old new = CountsBuildFault fault old new
