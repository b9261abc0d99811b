-- What was found from where files were loaded is found from before.
use Rattle.std.proofs.Common.{List, ℕ, ◌≡◌, Option, Ok, Err, [], ◌∷◌, ◌∙◌, subst}
use Rattle.mlt_host.specs.Host.{HostState, Rose}
use Rattle.mlt_tree.specs.Lines.{refusal_line, source_line, sink_line, memory_line}
use Rattle.mlt_tree.specs.Reading.{Reading, Play, Print, TextJob}
use Rattle.mlt_tree.specs.Show.{Run, played}
use Rattle.melt_run.specs.declared.status.Status.{Status}
use Rattle.melt_run.specs.declared.status.Status.TheVariants.{Done, Refused, SourceFault, SinkFault, Memory}
use Rattle.melt_run.specs.Ends.{Ends, PlaysOrTells, PrintsOrTells}
use Rattle.melt_run.specs.Outcome.{CountsLoads, CountsPorts, Tells}
use Rattle.melt_run.specs.Status.{line_of, IfSinkFault}

module _ (a : HostState) (names : Option (List (List ℕ))) (faults : ℕ) (z : HostState) where
  abbrev loaded : HostState
  loaded = record a { asked = names; load_faults = faults }

  tells_from : (line : List ℕ) → Tells line loaded z → Tells line a z
  tells_from [] h = h
  tells_from (c ∷ line) h = h

  plays_from : (run : Run) (status : Status) → PlaysOrTells run status loaded z → PlaysOrTells run status a z
  plays_from run (Done tally) h = h
  plays_from run (Refused refusal) h = h
  plays_from run (SourceFault place) h = h
  plays_from run (SinkFault failed tally) h = h
  plays_from run Memory h = h

  prints_from : (job : TextJob) (status : Status) → PrintsOrTells job status loaded z → PrintsOrTells job status a z
  prints_from job (Done tally) h = h
  prints_from job (Refused refusal) h = h
  prints_from job (SourceFault place) h = tells_from (source_line place) h
  prints_from job (SinkFault port tally) h = h
  prints_from job Memory h = tells_from memory_line h

  rose_from : (status : Status) → IfSinkFault status (λ port tally. Rose (loaded.faults port) (z.faults port)) → IfSinkFault status (λ port tally. Rose (a.faults port) (z.faults port))
  rose_from (Done tally) h = h
  rose_from (Refused refusal) h = h
  rose_from (SourceFault place) h = h
  rose_from (SinkFault port tally) h = h
  rose_from Memory h = h

  pub ends_from : (reading : Reading) (status : Status) → Ends reading status loaded z → Ends reading status a z
  ends_from (Ok (Play show)) status h =
      record { plays = plays_from (played show) status h.plays; rose = rose_from status h.rose; others = h.others; creates = h.creates; line = tells_from (line_of status) h.line }
  ends_from (Ok (Print job)) status h =
      record { prints = prints_from job status h.prints; rest = let rest = h.rest in record { others = rest.others; creates = rest.creates } }
  ends_from (Err stop) status h =
      record { answer = h.answer; line = tells_from (line_of status) h.line; rest = let rest = h.rest in record { others = rest.others; creates = rest.creates } }

  pub ports_from : (status : Status) → CountsPorts status loaded z → CountsPorts status a z
  ports_from (Done tally) h = h
  ports_from (Refused refusal) h = record { others = h.others; told = tells_from (refusal_line refusal) h.told }
  ports_from (SourceFault place) h = record { others = h.others; told = tells_from (source_line place) h.told }
  ports_from (SinkFault port tally) h = record { rose = h.rose; others = h.others; created = h.created; told = λ has. tells_from (sink_line port) (h.told has) }
  ports_from Memory h = record { others = h.others; told = tells_from memory_line h.told }

-- no load has failed before
pub loads_since : (a b z : HostState) (status : Status) → b.load_faults ≡ a.load_faults → CountsLoads status b z → CountsLoads status a z
loads_since a b z (Done tally) same h = h ∙ same
loads_since a b z (Refused refusal) same h = h ∙ same
loads_since a b z (SourceFault place) same h = subst (λ n. Rose n z.load_faults) same h
loads_since a b z (SinkFault port tally) same h = h ∙ same
loads_since a b z Memory same h = h ∙ same
