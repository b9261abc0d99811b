-- What preparing answers, against what the words mean.
use Rattle.std.specs.Prelude.{◌≡◌, ℕ, List, [], ◌∷◌, Option, None, Some, Ok, Err, IfSome}
use Rattle.mlt_tree.specs.Loading as read
use Rattle.mlt_tree.specs.Loading.{Files, no_files, Load, Read}
use Rattle.mlt_tree.specs.Reading as meaning
use Rattle.mlt_tree.specs.Reading.{Reading, Job, reading_on, loads}
use Rattle.mlt_tree.specs.Show.{Source}
use Rattle.mlt_graph.specs.Show.{meant}
use Rattle.mlt_graph.specs.declared.show.Show.{Show}
use Rattle.mlt_host.specs.Host.{HostState, Rose}
use Rattle.melt_build.specs.Loads.{Asks, AsksUpTo, AsksSome, names_of}
use Rattle.melt_run.specs.declared.prepared.Prepared.{Prepared}
use Rattle.melt_run.specs.declared.prepared.Prepared.TheVariants.{Play, Text, Refused, SourceFault, Memory}
use Rattle.melt_run.specs.Text.{job_view}

-- what holds of the words' meaning, where the host tells the files that they name, if they name any
abbrev pub Meant : List (List ℕ) → HostState → (Reading → Type 0) → Type 0
Meant words host P = IfSome (reading_on words host.files) P

-- what is prepared is what the words mean, unless a file can't be read or memory was wanting
abbrev pub Means : Prepared → Reading → Type 0
Means (Play show table) reading = reading ≡ Ok (meaning.Play (meant show table))
Means (Text job) reading = reading ≡ Ok (meaning.Print (job_view job))
Means (Refused refusal) reading = reading ≡ Err (read.Refused refusal)
Means (SourceFault place) reading = Unit {0}
Means Memory reading = Unit {0}

-- the same of a step of reading that looks up no file
abbrev pub Reads : Prepared → Read Job → Type 0
Reads (Play show table) wanted = wanted ≡ read.done (meaning.Play (meant show table))
Reads (Text job) wanted = wanted ≡ read.done (meaning.Print (job_view job))
Reads (Refused refusal) wanted = wanted ≡ read.stopped (read.Refused refusal)
Reads (SourceFault place) wanted = ⊥
Reads Memory wanted = Unit {0}

abbrev pub IfPlay : Prepared → (Show → List Source → Type 0) → Type 0
IfPlay (Play show table) P = P show table
IfPlay (Text job) P = Unit {0}
IfPlay (Refused refusal) P = Unit {0}
IfPlay (SourceFault place) P = Unit {0}
IfPlay Memory P = Unit {0}

-- ---- the files

-- the files that the words look up, in order, where the host tells its files or the words name none
abbrev pub loads_on : List (List ℕ) → Option Files → Option (List Load)
loads_on words (Some files) = Some (loads words files)
loads_on words None = without (loads words no_files) where
  without : List Load → Option (List Load)
  without [] = Some []
  without (load ∷ more) = None

-- all of these files were asked for, in order; those up to the one that can't be read, or some of the first of them
-- where memory was wanting
abbrev pub AsksWhilePreparing : Prepared → List Load → HostState → HostState → Type 0
AsksWhilePreparing (Play show table) loads old new = Asks (names_of loads) old new
AsksWhilePreparing (Text job) loads old new = Asks (names_of loads) old new
AsksWhilePreparing (Refused refusal) loads old new = Asks (names_of loads) old new
AsksWhilePreparing (SourceFault place) loads old new = AsksUpTo place loads old new
AsksWhilePreparing Memory loads old new = AsksSome loads old new

-- a step of reading gives what is prepared, and asks for its files
pub record GoesPrepared (prepared : Prepared) (step : Read Job) (old new : HostState) : Type 0 where
  pub means : Means prepared step.end
  pub asked : AsksWhilePreparing prepared step.loads old new

-- the count of loads that failed has risen where a file can't be read, and else it is as before
abbrev pub CountsPrepared : Prepared → HostState → HostState → Type 0
CountsPrepared (Play show table) old new = new.load_faults ≡ old.load_faults
CountsPrepared (Text job) old new = new.load_faults ≡ old.load_faults
CountsPrepared (Refused refusal) old new = new.load_faults ≡ old.load_faults
CountsPrepared (SourceFault place) old new = Rose old.load_faults new.load_faults
CountsPrepared Memory old new = new.load_faults ≡ old.load_faults
