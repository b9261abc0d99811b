-- What a list of words means.
use Rattle.std.specs.Prelude.{ℕ, if◌then◌else◌, List, [], ◌∷◌, length, map, Option, None, Some, Result, Ok, Err, find, codes}
use Rattle.std.specs.List.{list_any}
use Rattle.std.specs.Option.{option_or}
use Rattle.std.specs.Str.{bytes_eq}
use Rattle.mlt_base.specs.declared.faults.WordFault.{WordFault}
use Rattle.mlt_base.specs.declared.port.Port.{Port}
use Rattle.mlt_base.specs.declared.port.Port.TheVariants.{Text}
use Rattle.mlt_base.specs.declared.table.TheConstants.{PROFILES}
use Rattle.mlt_tree.specs.declared.group.Group.{Group}
use Rattle.mlt_tree.specs.declared.group.GroupKind.TheVariants as kind
use Rattle.mlt_tree.specs.declared.query.QueryKind.{QueryKind}
use Rattle.mlt_tree.specs.declared.query.QueryKind.TheVariants.{Producers, Filters, Transitions, Consumers, Profiles}
use Rattle.mlt_tree.specs.declared.refusal.Cause.TheVariants as cause
use Rattle.mlt_tree.specs.declared.refusal.Refusal.{Refusal}
use Rattle.mlt_tree.specs.declared.services.TheConstants.{PRODUCERS, CONSUMERS, FILTERS, MERGES}
use Rattle.mlt_tree.specs.Composing.{show_of}
use Rattle.mlt_tree.specs.Loading.{Files, no_files, Load, Stop, Read, done, plainly, ◌>>=◌}
use Rattle.mlt_tree.specs.Refusing.{refuse, or_refuse, only_one, word_cause}
use Rattle.mlt_tree.specs.Services.{listed}
use Rattle.mlt_tree.specs.Show.{Show, written_name, prefix, written_frames}
use Rattle.mlt_tree.specs.Table.{is_of, of_kind}
use Rattle.mlt_tree.specs.Words.{groups}

-- a question that is answered on the text
pub data TextJob : Type 0 where
  Version : TextJob
  Query : QueryKind → TextJob

-- what words ask for
pub data Job : Type 0 where
  Play : Show → Job
  Print : TextJob → Job

-- what words mean: something to play or to print, or why they are not read to their end
abbrev pub Reading : Type 0
Reading = Result Job Stop

-- ---- the job

abbrev pub query_named : List ℕ → Option QueryKind
query_named text =
    if bytes_eq text (codes "producers") then Some Producers else (if bytes_eq text (codes "filters") then Some Filters else (if bytes_eq text (codes "transitions") then Some Transitions else (if bytes_eq text (codes "consumers") then Some Consumers else (if bytes_eq text (codes "profiles") then Some Profiles else None))))

abbrev pub query_asked : Group → Result QueryKind Refusal
query_asked g = or_refuse g.place cause.BadValue (query_named g.arg)

-- the question that is asked, if one is; a second `-query` is refused
unfoldable pub query_made : List Group → Result (Option QueryKind) Refusal
query_made gs = only_one query_asked (of_kind kind.Query gs)

abbrev pub query_job : Option QueryKind → Job
query_job None = Print Version
query_job (Some asked) = Print (Query asked)

abbrev pub query_read : Result (Option QueryKind) Refusal → Read Job
query_read asked = plainly asked >>= λ asked. done (query_job asked)

abbrev pub show_read : Read Show → Read Job
show_read read = read >>= λ show. done (Play show)

-- the first `-serialise`, else the first `-generate`: the jobs that are not built yet
abbrev pub later_job : List Group → Option Group
later_job gs = option_or (find (is_of kind.Serialise) gs) (find (is_of kind.Generate) gs)

abbrev pub play_unless : Files → ℕ → List Group → Option Group → Read Job
play_unless files count gs (Some g) = plainly (refuse g.place cause.Unsupported)
play_unless files count gs None = show_read (show_of files count gs)

-- the first of these jobs that the words have, else to play
abbrev pub job_of : Files → ℕ → List Group → Read Job
job_of files count gs =
    if list_any (is_of kind.Version) gs then done (Print Version) else (if list_any (is_of kind.Query) gs then query_read (query_made gs) else play_unless files count gs (later_job gs))

abbrev pub groups_read : Result (List Group) WordFault → Result (List Group) Refusal
groups_read (Err fault) = refuse fault.place (word_cause fault.cause)
groups_read (Ok gs) = Ok gs

-- the words read, with these files: the first fault of the words themselves, then what the groups ask for
abbrev pub words_read : List (List ℕ) → Files → Read Job
words_read words files = plainly (groups_read (groups words)) >>= job_of files (length words)

-- what the words mean with these files
abbrev pub reading : List (List ℕ) → Files → Reading
reading words files = (words_read words files).end

-- the files that the words look up, in order
abbrev pub loads : List (List ℕ) → Files → List Load
loads words files = (words_read words files).loads

-- what the words mean to a host that tells these files, or none: then only words that name no file
abbrev pub reading_on : List (List ℕ) → Option Files → Option Reading
reading_on words (Some files) = Some (reading words files)
reading_on words None = without (loads words no_files) where
  without : List Load → Option Reading
  without [] = Some (reading words no_files)
  without (load ∷ more) = None

-- ---- what is written

-- what an output is to have
pub record Written : Type 0 where
  pub name : List ℕ
  pub bytes : List ℕ

-- an output of a show, under its name
abbrev pub written_of : Show → Port → Option (List ℕ) → Option Written
written_of show port None = None
written_of show port (Some name) =
    Some (record { name = name; bytes = prefix show port (written_frames show) })

-- the outputs that are created, each with its name and its bytes
abbrev pub written : Reading → Port → Option Written
written (Ok (Play show)) port = written_of show port (written_name show port)
written (Ok (Print job)) port = None
written (Err stop) port = None

-- the names that are asked for, each with a line end
abbrev pub query_text : QueryKind → List ℕ
query_text Producers = listed (map (λ row. row.name) PRODUCERS)
query_text Filters = listed (map (λ row. row.name) FILTERS)
query_text Transitions = listed (map (λ row. row.name) MERGES)
query_text Consumers = listed CONSUMERS
query_text Profiles = listed (map (λ row. row.name) PROFILES)

abbrev pub job_text : TextJob → List ℕ
job_text Version = codes "melt 1.0.0\n"
job_text (Query asked) = query_text asked

-- the port that an answer is written to
abbrev pub job_port : TextJob → Port
job_port job = Text

-- what is appended to the text that a person reads, before any fault line
abbrev pub text_bytes : Reading → List ℕ
text_bytes (Ok (Play show)) = []
text_bytes (Ok (Print job)) = job_text job
text_bytes (Err stop) = []
