-- What a run leaves on each port, by what the words mean.
use Rattle.std.proofs.Common.{ℕ, ◌≡◌, ◌≢◌, ◌⊎◌, ◌+◌, ◌<◌, ◌≤◌, zero, suc, Bool, true, false, cond, List, [], ◌++◌, take, drop, Option, None, Some, Ok, Err, IfSome, refl, sym, ap, ◌∙◌, subst, inl, inr, arith, append_assoc, append-nil, take-append-drop}
use Rattle.std.proofs.lemmas.Bool.{cases_lt}
use Rattle.mlt_base.specs.declared.port.Port.{Port}
use Rattle.mlt_base.specs.declared.port.Port.TheVariants.{Video, Audio, Script, Text}
use Rattle.mlt_host.specs.Host.{HostState, PortState, Rose}
use Rattle.mlt_tree.specs.declared.refusal.Refusal.{Refusal}
use Rattle.mlt_tree.specs.Loading as read
use Rattle.mlt_tree.specs.Loading.{Stop}
use Rattle.mlt_tree.specs.Reading.{Reading, Play, Print, TextJob, Written, written, written_of}
use Rattle.mlt_tree.specs.Show.{Show, played, written_name, written_frames, piece, prefix}
use Rattle.melt_run.specs.declared.status.Status.{Status}
use Rattle.melt_run.specs.declared.status.Status.TheVariants.{Done, Refused, SourceFault, SinkFault, Memory}
use Rattle.melt_run.specs.declared.status.Tally.{Tally}
use Rattle.melt_run.specs.Ends.{Ends, EndsRun, IsStop, PlaysOrTells, PrintsOrTells}
use Rattle.melt_run.specs.Outcome.{HasFrontOf, Leaves, IsWritten, IsCreatedOnce, IsWholeTally, FailsAt, MeetsNoFault, IsDoneOrMemory, IsAccepted, Says, CountsLoads}
use Rattle.melt_run.specs.Play.{fronted, comes_before, whole_at, IsCutAt, IsUncreated, IsStopped, Stops, CreatesOnce}
use Rattle.melt_run.specs.Status.{IfDone, IfRefused, IfSinkFault}

if_some : {A : Type 0} {P Q : A → Type 0} → (o : Option A) → ((x : A) → P x → Q x) → IfSome o P → IfSome o Q
if_some None f h = tt
if_some (Some x) f h = f x h

-- ---- an output that has all of its bytes

module _ (show : Show) (port : Port) (old new : Option PortState) where
  -- it has them where it is an output, else it is as before
  whole : (o : Option (List ℕ)) → written_name show port ≡ o → (written_name show port ≡ None → new ≡ old)
      → IfSome o (λ name. IfSome new (λ now. now ≡ fronted (played show) port name (written_frames show))) → IsWritten (written_of show port o) old new
  whole None is other h = other is
  whole (Some name) is other h = h

pub written_is : (reading : Reading) (status : Status) (a c : HostState) → Ends reading status a c → IfDone status (λ _. (port : Port) → port ≢ Text → IsWritten (written reading port) (a.port port) (c.port port))
written_is (Ok (Play show)) (Done tally) a c ends = λ port apart.
    whole show port (a.port port) (c.port port) (written_name show port) refl (ends.others port apart) (ends.plays.1 port)
written_is (Ok (Print job)) (Done tally) a c ends = λ port apart. ends.rest.others port apart
written_is (Err stop) (Done tally) a c ends = absurd ends.answer
written_is reading (Refused refusal) a c ends = tt
written_is reading (SourceFault place) a c ends = tt
written_is reading (SinkFault port tally) a c ends = tt
written_is reading Memory a c ends = tt

pub tally_is : (reading : Reading) (status : Status) (a c : HostState) → Ends reading status a c → IfDone status (IsWholeTally reading)
tally_is (Ok (Play show)) (Done tally) a c ends = ends.plays.0
tally_is (Ok (Print job)) (Done tally) a c ends = ends.prints.0
tally_is (Err stop) (Done tally) a c ends = absurd ends.answer
tally_is reading (Refused refusal) a c ends = tt
tally_is reading (SourceFault place) a c ends = tt
tally_is reading (SinkFault port tally) a c ends = tt
tally_is reading Memory a c ends = tt

-- ---- refusals

pub refused_is : (reading : Reading) (status : Status) (a c : HostState) → Ends reading status a c → IfRefused status (λ refusal. reading ≡ Err (read.Refused refusal))
refused_is (Ok (Play show)) (Refused refusal) a c ends = absurd ends.plays
refused_is (Ok (Print job)) (Refused refusal) a c ends = absurd ends.prints
refused_is (Err stop) (Refused refusal) a c ends = ap Err ends.answer
refused_is reading (Done tally) a c ends = tt
refused_is reading (SourceFault place) a c ends = tt
refused_is reading (SinkFault port tally) a c ends = tt
refused_is reading Memory a c ends = tt

stop_is : (stop : Stop) (status : Status) (a c : HostState) (refusal : Refusal) → CountsLoads status a c → ¬ Rose a.load_faults c.load_faults → stop ≡ read.Refused refusal → IsStop stop status → (status ≡ Refused refusal) ⊎ (status ≡ Memory)
stop_is stop (Done tally) a c refusal counts loaded is h = absurd h
stop_is stop (Refused other) a c refusal counts loaded is h = inl (cc (is, h))
stop_is stop (SourceFault place) a c refusal counts loaded is h = absurd (loaded counts)
stop_is stop (SinkFault port tally) a c refusal counts loaded is h = absurd h
stop_is stop Memory a c refusal counts loaded is h = inr refl

pub refused_always_is : (reading : Reading) (status : Status) (a c : HostState) → CountsLoads status a c → Ends reading status a c → (refusal : Refusal) → reading ≡ Err (read.Refused refusal) → ¬ Rose a.load_faults c.load_faults → (status ≡ Refused refusal) ⊎ (status ≡ Memory)
refused_always_is (Ok (Play show)) status a c counts ends refusal is loaded = cc
refused_always_is (Ok (Print job)) status a c counts ends refusal is loaded = cc
refused_always_is (Err stop) status a c counts ends refusal is loaded = stop_is stop status a c refusal counts loaded (cc is) ends.answer

-- ---- faults

pub fault_is : (reading : Reading) (status : Status) (a c : HostState) → Ends reading status a c → IfSinkFault status (λ port tally. FailsAt reading port tally a c)
fault_is (Ok (Play show)) (SinkFault port tally) a c ends = (ends.plays.0, ends.rose, ends.plays.1)
fault_is (Ok (Print job)) (SinkFault port tally) a c ends =
    let h = ends.prints in (h.0, h.1, subst (λ p. Rose (a.faults p) (c.faults p)) (sym h.0) h.3)
fault_is (Err stop) (SinkFault port tally) a c ends = absurd ends.answer
fault_is reading (Done tally) a c ends = tt
fault_is reading (Refused refusal) a c ends = tt
fault_is reading (SourceFault place) a c ends = tt
fault_is reading Memory a c ends = tt

pub complete_is : (reading : Reading) (status : Status) (a c : HostState) → CountsLoads status a c → Ends reading status a c → IsAccepted reading → MeetsNoFault a c → IsDoneOrMemory status
complete_is reading (Done tally) a c counts ends accepted none = tt
complete_is (Ok (Play show)) (Refused refusal) a c counts ends accepted none = absurd ends.plays
complete_is (Ok (Print job)) (Refused refusal) a c counts ends accepted none = absurd ends.prints
complete_is (Err stop) (Refused refusal) a c counts ends accepted none = absurd accepted
complete_is reading (SourceFault place) a c counts ends accepted none = absurd (none.loads counts)
complete_is (Ok (Play show)) (SinkFault port tally) a c counts ends accepted none = absurd (none.ports port ends.rose)
complete_is (Ok (Print job)) (SinkFault port tally) a c counts ends accepted none = let h = ends.prints in absurd (none.ports Text h.3)
complete_is (Err stop) (SinkFault port tally) a c counts ends accepted none = absurd accepted
complete_is reading Memory a c counts ends accepted none = tt

-- ---- fronts

-- the first positions are a front of more of them
abbrev Front : Show → Port → (count total : ℕ) → Type 0
Front show port count total = (rest : List ℕ) × (prefix show port count ++ rest ≡ prefix show port total)

same_front : (show : Show) (port : Port) (count total : ℕ) → count ≡ total → Front show port count total
same_front show port count total same = subst (λ n. Front show port n total) (sym same) ([], append-nil (prefix show port total))

one_more : (show : Show) (port : Port) (count total : ℕ) → count ≤ suc total → (count < suc total) ⊎ (suc total ≤ count) → (count ≤ total → Front show port count total) → Front show port count (suc total)
one_more show port count total h (inl less) before =
    let front = before (omega arith) in let next = piece show port (show.output.first + total) in
    (front.0 ++ next, sym (append_assoc (prefix show port count) front.0 next) ∙ ap (λ bytes. bytes ++ next) front.1)
one_more show port count total h (inr last) before = same_front show port count (suc total) (omega arith)

prefix_front : (show : Show) (port : Port) (count total : ℕ) → count ≤ total → Front show port count total
prefix_front show port count zero h = same_front show port count zero (omega arith)
prefix_front show port count (suc total) h = one_more show port count total h (cases_lt count (suc total)) (λ less. prefix_front show port count total less)

-- and so are they with a part of the next
part_front : (show : Show) (port : Port) (count kept total : ℕ) → count < total → (rest : List ℕ) × ((prefix show port count ++ take kept (piece show port (show.output.first + count))) ++ rest ≡ prefix show port total)
part_front show port count kept total h =
    let next = piece show port (show.output.first + count) in
    let more = prefix_front show port (suc count) total (omega arith) in (
      drop kept next ++ more.0,
      append_assoc (prefix show port count) (take kept next) (drop kept next ++ more.0)
          ∙ ap (λ xs. prefix show port count ++ xs) (sym (append_assoc (take kept next) (drop kept next) more.0) ∙ ap (λ xs. xs ++ more.0) (take-append-drop kept next))
          ∙ sym (append_assoc (prefix show port count) next more.0)
          ∙ more.1,
    )

module _ (show : Show) (port : Port) (name : List ℕ) where
  abbrev wanted_of : Written
  wanted_of = record { name = name; bytes = prefix show port (written_frames show) }

  fronted_front : (now : PortState) (count : ℕ) → count ≤ written_frames show → now ≡ fronted (played show) port name count → HasFrontOf wanted_of now
  fronted_front now count h is =
      subst (HasFrontOf wanted_of) (sym is) (record { name = refl; front = prefix_front show port count (written_frames show) h })

  -- the cut output has a part of the next position, and the others have whole ones
  cut_front : (failed : Port) (count : ℕ) (now : PortState) → count < written_frames show → (b : Bool) → comes_before port failed ≡ b → (b ≡ true → port ≢ failed) → IsCutAt (played show) failed port name count now → HasFrontOf wanted_of now
  cut_front failed count now short true before apart cut =
      let whole : whole_at failed port count ≡ count + 1 = ap (λ b. cond b (count + 1) count) before in
      let bytes : now.bytes ≡ prefix show port (count + 1) =
      cut.bytes ∙ ap (λ kept. prefix show port (whole_at failed port count) ++ take kept (piece show port (show.output.first + whole_at failed port count))) (cut.itself (apart refl)) ∙ append-nil (prefix show port (whole_at failed port count)) ∙ ap (prefix show port) whole in
      let more = prefix_front show port (count + 1) (written_frames show) (omega arith) in
      record { name = cut.named; front = (more.0, ap (λ bytes. bytes ++ more.0) bytes ∙ more.1) }
  cut_front failed count now short false before apart cut =
      let whole : whole_at failed port count ≡ count = ap (λ b. cond b (count + 1) count) before in
      let bytes : now.bytes ≡ prefix show port count ++ take cut.kept (piece show port (show.output.first + count)) =
      cut.bytes ∙ ap (λ n. prefix show port n ++ take cut.kept (piece show port (show.output.first + n))) whole in
      let more = part_front show port count cut.kept (written_frames show) short in
      record { name = cut.named; front = (more.0, ap (λ bytes. bytes ++ more.0) bytes ∙ more.1) }

-- none comes before itself
apart_of : (port failed : Port) (b : Bool) → comes_before port failed ≡ b → b ≡ true → port ≢ failed
apart_of Video Video b is first = cc
apart_of Video Audio b is first = λ e. cc
apart_of Video Script b is first = cc
apart_of Video Text b is first = cc
apart_of Audio failed b is first = cc
apart_of Script failed b is first = cc
apart_of Text failed b is first = cc

module _ (show : Show) (port : Port) (old new : Option PortState) where
  leaves_whole : (o : Option (List ℕ)) → written_name show port ≡ o → (written_name show port ≡ None → new ≡ old)
      → IfSome o (λ name. IfSome new (λ now. now ≡ fronted (played show) port name (written_frames show))) → Leaves (written_of show port o) old new
  leaves_whole None is other h = other is
  leaves_whole (Some name) is other h = inr (if_some new (λ now eq. fronted_front show port name now (written_frames show) (omega arith) eq) h)

  leaves_same : (o : Option (List ℕ)) → written_name show port ≡ o → (written_name show port ≡ None → new ≡ old) → IfSome o (λ name. new ≡ old) → Leaves (written_of show port o) old new
  leaves_same None is other h = other is
  leaves_same (Some name) is other h = inl h

  leaves_uncreated : (failed : Port) (o : Option (List ℕ)) → written_name show port ≡ o → (written_name show port ≡ None → new ≡ old)
      → IfSome o (λ name. IsUncreated (comes_before port failed) (played show) port name old new) → Leaves (written_of show port o) old new
  leaves_uncreated failed None is other h = other is
  leaves_uncreated failed (Some name) is other h = by (comes_before port failed) h where
    by : (b : Bool) → IsUncreated b (played show) port name old new → Leaves (written_of show port (Some name)) old new
    by true h = inr (if_some new (λ now eq. fronted_front show port name now 0 (omega arith) eq) h)
    by false h = inl h

  leaves_cut : (failed : Port) (tally : Tally) → IsStopped (played show) tally → (o : Option (List ℕ)) → written_name show port ≡ o → (written_name show port ≡ None → new ≡ old)
      → IfSome o (λ name. IfSome new (IsCutAt (played show) failed port name tally.frames)) → Leaves (written_of show port o) old new
  leaves_cut failed tally counts None is other h = other is
  leaves_cut failed tally counts (Some name) is other h =
      inr (if_some new (λ now cut. cut_front show port name failed tally.frames now counts.short (comes_before port failed) refl (apart_of port failed (comes_before port failed) refl) cut) h)

show_front : (show : Show) (status : Status) (a c : HostState) → EndsRun (played show) status a c → (port : Port) → port ≢ Text → Leaves (written (Ok (Play show)) port) (a.port port) (c.port port)
show_front show status a c ends port apart = by status ends.plays where
  stops : (failed : Port) (tally : Tally) → Stops (played show) failed tally a c → Leaves (written (Ok (Play show)) port) (a.port port) (c.port port)
  stops failed tally (inl h) = leaves_uncreated show port (a.port port) (c.port port) failed (written_name show port) refl (ends.others port apart) (h.1 port)
  stops failed tally (inr h) = leaves_cut show port (a.port port) (c.port port) failed tally h.counts (written_name show port) refl (ends.others port apart) (h.cut port)

  by : (status : Status) → PlaysOrTells (played show) status a c → Leaves (written (Ok (Play show)) port) (a.port port) (c.port port)
  by (Done tally) plays = leaves_whole show port (a.port port) (c.port port) (written_name show port) refl (ends.others port apart) (plays.1 port)
  by (Refused refusal) plays = absurd plays
  by (SourceFault place) plays = leaves_same show port (a.port port) (c.port port) (written_name show port) refl (ends.others port apart) (plays port)
  by (SinkFault failed tally) plays = stops failed tally plays.1
  by Memory plays = leaves_same show port (a.port port) (c.port port) (written_name show port) refl (ends.others port apart) (plays port)

-- each port that is not the text
pub front_is : (reading : Reading) (status : Status) (a c : HostState) → Ends reading status a c → (port : Port) → port ≢ Text → Leaves (written reading port) (a.port port) (c.port port)
front_is (Ok (Play show)) status a c ends port apart = show_front show status a c ends port apart
front_is (Ok (Print job)) status a c ends port apart = ends.rest.others port apart
front_is (Err stop) status a c ends port apart = ends.rest.others port apart

-- ---- creates

named_of : (show : Show) (port : Port) (o : Option (List ℕ)) (status : Status) (old new : ℕ) → CreatesOnce port o status old new → IsCreatedOnce port (written_of show port o) status old new
named_of show port None status old new h = h
named_of show port (Some name) status old new h = h

pub created_is : (reading : Reading) (status : Status) (a c : HostState) → Ends reading status a c → (port : Port) → IsCreatedOnce port (written reading port) status (a.creates port) (c.creates port)
created_is (Ok (Play show)) status a c ends port = named_of show port (written_name show port) status (a.creates port) (c.creates port) (ends.creates port)
created_is (Ok (Print job)) status a c ends port = ends.rest.creates port
created_is (Err stop) status a c ends port = ends.rest.creates port

-- ---- what a person has read

says_print : (job : TextJob) (status : Status) (a c : HostState) → PrintsOrTells job status a c → Says (Ok (Print job)) status a c
says_print job (Done tally) a c h = h.1
says_print job (Refused refusal) a c h = h
says_print job (SourceFault place) a c h = h
says_print job (SinkFault port tally) a c h = h.2
says_print job Memory a c h = h

pub says_is : (reading : Reading) (status : Status) (a c : HostState) → Ends reading status a c → Says reading status a c
says_is (Ok (Play show)) status a c ends = ends.line
says_is (Ok (Print job)) status a c ends = says_print job status a c ends.prints
says_is (Err stop) status a c ends = ends.line
