-- What a run leaves, once the line of its end is told.
use Rattle.std.proofs.Common.{ℕ, ◌≡◌, ◌≢◌, ◌⊎◌, ◌≤◌, ◌∷◌, Bool, true, false, if◌then◌else◌, List, [], Option, None, Some, Ok, Err, IfSome, IsSomeAnd, refl, sym, ap, subst, ◌∙◌, inl, inr, arith}
use Rattle.mlt_base.specs.declared.port.Port.{Port}
use Rattle.mlt_base.specs.declared.port.Port.TheVariants.{Video, Audio, Script, Text}
use Rattle.mlt_host.specs.Count.{next}
use Rattle.mlt_host.specs.Host.{HostState, PortState, OnlyPort, Rose, appended, cut_short}
use Rattle.mlt_tree.specs.declared.refusal.Refusal.{Refusal}
use Rattle.mlt_tree.specs.Lines.{refusal_line, source_line, sink_line, memory_line, has_line}
use Rattle.mlt_tree.specs.Loading as read
use Rattle.mlt_tree.specs.Reading.{Reading, Play, Print, TextJob, job_text}
use Rattle.mlt_tree.specs.Show.{Run, Show, played, written_name}
use Rattle.melt_run.specs.declared.status.Status.{Status}
use Rattle.melt_run.specs.declared.status.Status.TheVariants.{Done, Refused, SourceFault, SinkFault, Memory}
use Rattle.melt_run.specs.declared.status.Tally.{Tally}
use Rattle.melt_run.specs.Ends.{EndsRun, EndsPrint, EndsStopped, OnlyTells, PlaysOrTells, PrintsOrTells, Ends}
use Rattle.melt_run.specs.Outcome.{Tells, CountsRun, CountsLoads, CountsPorts, CountsLine, KeepsHost, CreatesNothing}
use Rattle.melt_run.specs.Play.{EachOutput, Plays, KeepsElse, Stops, IsCutAt, IsUncreated, CountsFaults, IsCreated, CreatesOnce, was_created, comes_before, fronted}
use Rattle.melt_run.specs.Prints.{Prints}
use Rattle.melt_run.specs.Status.{line_of, IfSinkFault, IfMemory}

false_true : false ≡ true → ⊥
false_true e = cc

-- ---- the text

-- these bytes were added to what the port was
abbrev Adds : List ℕ → Option PortState → HostState → Type 0
Adds bytes port c = IfSome (c.port Text) (λ after. IsSomeAnd port (λ before. after ≡ appended before bytes))

-- or a front of them
abbrev AddsFront : List ℕ → Option PortState → HostState → Type 0
AddsFront bytes port c =
    IfSome (c.port Text) (λ after. IsSomeAnd port (λ before. (kept : ℕ) × (after ≡ cut_short before bytes kept)))

abbrev Told : List ℕ → Option PortState → ℕ → HostState → Type 0
Told bytes port faults c =
    (Adds bytes port c × (c.faults Text ≡ faults)) ⊎ (AddsFront bytes port c × Rose faults (c.faults Text))

-- a line that was told where the text was as before
tells_from : (line : List ℕ) (a b c : HostState) → b.port Text ≡ a.port Text → b.faults Text ≡ a.faults Text → Tells line b c → Tells line a c
tells_from [] a b c port faults h = (h.0 ∙ port, h.1 ∙ faults)
tells_from (x ∷ line) a b c port faults h =
    subst (λ port. Told (x ∷ line) port (a.faults Text) c) port (subst (λ n. Told (x ∷ line) (b.port Text) n c) faults h)

-- ---- a run that was played

-- the line of a port that has one
line_by : (a c : HostState) (failed : Port) → Tells (if has_line failed then sink_line failed else []) a c → has_line failed ≡ true → Tells (sink_line failed) a c
line_by a c Video told has = told
line_by a c Audio told has = told
line_by a c Script told has = absurd (false_true has)
line_by a c Text told has = absurd (false_true has)

-- no output is the text
no_text : (run : Run) (failed : Port) → run.name Text ≡ None → run.name failed ≢ None → failed ≢ Text
no_text run failed none some is = some (ap run.name is ∙ none)

-- each output is as before the line
each_kept : (run : Run) (P : Port → List ℕ → Option PortState → Type 0) (b c : HostState) → run.name Text ≡ None → ((port : Port) → port ≢ Text → c.port port ≡ b.port port) → EachOutput run (λ port name. P port name (b.port port)) → EachOutput run (λ port name. P port name (c.port port))
each_kept run P b c none same h Video = subst (λ now. IfSome (run.name Video) (λ name. P Video name now)) (sym (same Video (λ e. cc))) (h Video)
each_kept run P b c none same h Audio = subst (λ now. IfSome (run.name Audio) (λ name. P Audio name now)) (sym (same Audio (λ e. cc))) (h Audio)
each_kept run P b c none same h Script = subst (λ now. IfSome (run.name Script) (λ name. P Script name now)) (sym (same Script (λ e. cc))) (h Script)
each_kept run P b c none same h Text = subst (λ o. IfSome o (λ name. P Text name (c.port Text))) (sym none) tt

module _ (run : Run) (none : run.name Text ≡ None) (a b c : HostState) (line : OnlyPort Text b c) where
  stops_kept : (failed : Port) (tally : Tally) → Stops run failed tally a b → Stops run failed tally a c
  stops_kept failed tally (inl h) =
      inl (h.0, each_kept run (λ port name now. IsUncreated (comes_before port failed) run port name (a.port port) now) b c none line.other_ports h.1)
  stops_kept failed tally (inr h) =
      inr (record { counts = h.counts; cut = each_kept run (λ port name now. IfSome now (IsCutAt run failed port name tally.frames)) b c none line.other_ports h.cut })

  plays_kept : (status : Status) → Plays run status a b → PlaysOrTells run status a c
  plays_kept (Done tally) h =
      (h.0, each_kept run (λ port name now. IfSome now (λ state. state ≡ fronted run port name (run.frames))) b c none line.other_ports h.1)
  plays_kept (Refused refusal) h = absurd h
  plays_kept (SourceFault place) h = absurd h
  plays_kept (SinkFault failed tally) h = (h.0, stops_kept failed tally h.1)
  plays_kept Memory h = each_kept run (λ port name now. now ≡ a.port port) b c none line.other_ports h

  module _ (status : Status) (plays : Plays run status a b) (keeps : KeepsElse run status a b) where
    -- playing leaves the text, and the count of its faults
    text_port : b.port Text ≡ a.port Text
    text_port = keeps.others Text none

    text_faults : b.faults Text ≡ a.faults Text
    text_faults = by status plays keeps.faults where
      by : (status : Status) → Plays run status a b → CountsFaults status a.faults b.faults → b.faults Text ≡ a.faults Text
      by (Done tally) plays h = h Text
      by (Refused refusal) plays h = h Text
      by (SourceFault place) plays h = h Text
      by (SinkFault failed tally) plays h = h.2 Text (λ e. no_text run failed none plays.0 (sym e))
      by Memory plays h = h Text

    rose : IfSinkFault status (λ port tally. Rose (a.faults port) (c.faults port))
    rose = by status plays keeps.faults where
      by : (status : Status) → Plays run status a b → CountsFaults status a.faults b.faults → IfSinkFault status (λ port tally. Rose (a.faults port) (c.faults port))
      by (Done tally) plays h = tt
      by (Refused refusal) plays h = tt
      by (SourceFault place) plays h = tt
      by (SinkFault failed tally) plays h = subst (Rose (a.faults failed)) (sym (line.other_faults failed (no_text run failed none plays.0))) h.0
      by Memory plays h = tt

    module _ (told : Tells (line_of status) b c) (text_creates : c.creates Text ≡ b.creates Text) where
      all_creates : (port : Port) → c.creates port ≡ b.creates port
      all_creates Video = line.other_creates Video (λ e. cc)
      all_creates Audio = line.other_creates Audio (λ e. cc)
      all_creates Script = line.other_creates Script (λ e. cc)
      all_creates Text = text_creates

      line_told : Tells (line_of status) a c
      line_told = tells_from (line_of status) a b c text_port text_faults told

      creates : (port : Port) → CreatesOnce port (run.name port) status (a.creates port) (c.creates port)
      creates port = subst (CreatesOnce port (run.name port) status (a.creates port)) (sym (all_creates port)) (keeps.creates port)

      pub show_ends : EndsRun run status a c
      show_ends = record {
        plays = plays_kept status plays;
        rose = rose;
        others = λ port apart none. line.other_ports port apart ∙ keeps.others port none;
        creates = creates;
        line = line_told;
      }

      all_same : ((port : Port) → b.faults port ≡ a.faults port) → c.faults Text ≡ a.faults Text → (port : Port) → c.faults port ≡ a.faults port
      all_same h text Video = line.other_faults Video (λ e. cc) ∙ h Video
      all_same h text Audio = line.other_faults Audio (λ e. cc) ∙ h Audio
      all_same h text Script = line.other_faults Script (λ e. cc) ∙ h Script
      all_same h text Text = text

      show_ports : CountsPorts status a c
      show_ports = by status plays keeps.faults creates line_told where
        named_created : (failed : Port) (tally : Tally) (o : Option (List ℕ)) → run.name failed ≡ o → run.name failed ≢ None → CreatesOnce failed o (SinkFault failed tally) (a.creates failed) (c.creates failed) → IsCreated failed (SinkFault failed tally) (a.creates failed) (c.creates failed)
        named_created failed tally None is some h = absurd (some is)
        named_created failed tally (Some name) is some h = h

        by : (status : Status) → Plays run status a b → CountsFaults status a.faults b.faults → ((port : Port) → CreatesOnce port (run.name port) status (a.creates port) (c.creates port)) → Tells (line_of status) a c → CountsPorts status a c
        by (Done tally) plays h made told = all_same h told.1
        by (Refused refusal) plays h made told = absurd plays
        by (SourceFault place) plays h made told = absurd plays
        by (SinkFault failed tally) plays h made told = record {
          rose = subst (Rose (a.faults failed)) (sym (line.other_faults failed (no_text run failed none plays.0))) h.0;
          others = λ port apart text. line.other_faults port text ∙ h.2 port apart;
          created = λ text. named_created failed tally (run.name failed) refl plays.0 (made failed);
          told = line_by a c failed told;
        }
        by Memory plays h made told = record { others = λ port text. line.other_faults port text ∙ h port; told = told }

      -- no file was loaded
      show_loads : CountsLoads status a c
      show_loads = by status plays where
        same : c.load_faults ≡ a.load_faults
        same = line.load_faults ∙ keeps.loads

        by : (status : Status) → Plays run status a b → CountsLoads status a c
        by (Done tally) plays = same
        by (Refused refusal) plays = same
        by (SourceFault place) plays = absurd plays
        by (SinkFault failed tally) plays = same
        by Memory plays = same

      pub show_counts : CountsRun status a c
      show_counts = record { loads = show_loads; ports = show_ports }

      either : (b : Bool) (old new : ℕ) → new ≡ (if b then next old else old) → (new ≡ old) ⊎ (new ≡ next old)
      either true old new h = inr h
      either false old new h = inl h

      once_of : (port : Port) (o : Option (List ℕ)) (old new : ℕ) → CreatesOnce port o status old new → (new ≡ old) ⊎ (new ≡ next old)
      once_of port None old new h = inl h
      once_of port (Some name) old new h = by status h where
        by : (status : Status) → CreatesOnce port (Some name) status old new → (new ≡ old) ⊎ (new ≡ next old)
        by (Done tally) h = inr h
        by (Refused refusal) h = inl h
        by (SourceFault place) h = inl h
        by (SinkFault failed tally) h = either (was_created port failed tally) old new h
        by Memory h = inl h

      -- no count of another port than the text has fallen
      falls : (port : Port) → a.faults port ≤ b.faults port
      falls port = by status keeps.faults where
        same : b.faults port ≡ a.faults port → a.faults port ≤ b.faults port
        same e = omega arith

        by : (status : Status) → CountsFaults status a.faults b.faults → a.faults port ≤ b.faults port
        by (Done tally) h = same (h port)
        by (Refused refusal) h = same (h port)
        by (SourceFault place) h = same (h port)
        by (SinkFault failed tally) h = h.1 port
        by Memory h = same (h port)

      module _ (text_falls : b.faults Text ≤ c.faults Text) where
        all_fall : (port : Port) → b.faults port ≤ c.faults port
        all_fall Video = let e = line.other_faults Video (λ e. cc) in omega arith
        all_fall Audio = let e = line.other_faults Audio (λ e. cc) in omega arith
        all_fall Script = let e = line.other_faults Script (λ e. cc) in omega arith
        all_fall Text = text_falls

        pub show_keeps : KeepsHost a c
        show_keeps = record {
          files = line.files ∙ keeps.files;
          never_falls_loads = let same = line.load_faults ∙ keeps.loads in omega (arith, same);
          never_falls = λ port. omega (arith, falls port, all_fall port);
          once = λ port. once_of port (run.name port) (a.creates port) (c.creates port) (creates port);
        }

      pub show_nothing : IfMemory status (CreatesNothing a c)
      show_nothing = by status plays creates where
        port_kept : (port : Port) (o : Option (List ℕ)) → run.name port ≡ o → IfSome o (λ name. b.port port ≡ a.port port) → b.port port ≡ a.port port
        port_kept port None none h = keeps.others port none
        port_kept port (Some name) is h = h

        not_created : (port : Port) (o : Option (List ℕ)) (old new : ℕ) → CreatesOnce port o Memory old new → new ≡ old
        not_created port None old new h = h
        not_created port (Some name) old new h = h

        by : (status : Status) → Plays run status a b → ((port : Port) → CreatesOnce port (run.name port) status (a.creates port) (c.creates port)) → IfMemory status (CreatesNothing a c)
        by (Done tally) plays made = tt
        by (Refused refusal) plays made = tt
        by (SourceFault place) plays made = tt
        by (SinkFault failed tally) plays made = tt
        by Memory plays made = record {
          ports = λ port text. line.other_ports port text ∙ port_kept port (run.name port) refl (plays port);
          creates = λ port. not_created port (run.name port) (a.creates port) (c.creates port) (made port);
        }

-- ---- a run that wrote on the text alone

module _ (a c : HostState) (only : OnlyPort Text a c) (text_creates : c.creates Text ≡ a.creates Text) (text_falls : a.faults Text ≤ c.faults Text) where
  all_created : (port : Port) → c.creates port ≡ a.creates port
  all_created Video = only.other_creates Video (λ e. cc)
  all_created Audio = only.other_creates Audio (λ e. cc)
  all_created Script = only.other_creates Script (λ e. cc)
  all_created Text = text_creates

  pub only_tells : OnlyTells a c
  only_tells = record { others = only.other_ports; creates = all_created }

  pub text_nothing : CreatesNothing a c
  text_nothing = record { ports = only.other_ports; creates = all_created }

  text_fall : (port : Port) → a.faults port ≤ c.faults port
  text_fall Video = let e = only.other_faults Video (λ e. cc) in omega arith
  text_fall Audio = let e = only.other_faults Audio (λ e. cc) in omega arith
  text_fall Script = let e = only.other_faults Script (λ e. cc) in omega arith
  text_fall Text = text_falls

  pub text_keeps : KeepsHost a c
  text_keeps = record { files = only.files; never_falls_loads = let same = only.load_faults in omega (arith, same); never_falls = text_fall; once = λ port. inl (all_created port) }

  pub text_counts : (line : List ℕ) → Tells line a c → CountsLine line a c
  text_counts line told = record { others = only.other_faults; told = told }

  -- an answer was printed
  pub print_ends : (job : TextJob) (status : Status) → Prints (job_text job) status a c → EndsPrint job status a c
  print_ends job status h = record { prints = by status h; rest = only_tells } where
    by : (status : Status) → Prints (job_text job) status a c → PrintsOrTells job status a c
    by (Done tally) h = h
    by (Refused refusal) h = absurd h
    by (SourceFault place) h = absurd h
    by (SinkFault port tally) h = h
    by Memory h = absurd h

  same_faults : c.faults Text ≡ a.faults Text → (port : Port) → c.faults port ≡ a.faults port
  same_faults h Video = only.other_faults Video (λ e. cc)
  same_faults h Audio = only.other_faults Audio (λ e. cc)
  same_faults h Script = only.other_faults Script (λ e. cc)
  same_faults h Text = h

  print_ports : (job : TextJob) (status : Status) → Prints (job_text job) status a c → CountsPorts status a c
  print_ports job (Done tally) h = same_faults h.2
  print_ports job (Refused refusal) h = absurd h
  print_ports job (SourceFault place) h = absurd h
  print_ports job (SinkFault port tally) h = record {
    rose = subst (λ p. Rose (a.faults p) (c.faults p)) (sym h.0) h.3;
    others = λ other apart text. only.other_faults other text;
    created = λ text. absurd (text h.0);
    told = λ has. absurd (false_true (sym (ap has_line h.0) ∙ has));
  }
  print_ports job Memory h = absurd h

  print_loads : (job : TextJob) (status : Status) → Prints (job_text job) status a c → CountsLoads status a c
  print_loads job (Done tally) h = only.load_faults
  print_loads job (Refused refusal) h = absurd h
  print_loads job (SourceFault place) h = absurd h
  print_loads job (SinkFault port tally) h = only.load_faults
  print_loads job Memory h = absurd h

  pub print_counts : (job : TextJob) (status : Status) → Prints (job_text job) status a c → CountsRun status a c
  print_counts job status h = record { loads = print_loads job status h; ports = print_ports job status h }

  -- a refusal was told
  pub refused_ends : (refusal : Refusal) (status : Status) → status ≡ Refused refusal → Tells (refusal_line refusal) a c → EndsStopped (read.Refused refusal) status a c
  refused_ends refusal status is told =
      subst (λ s. EndsStopped (read.Refused refusal) s a c) (sym is) (record { answer = refl; line = told; rest = only_tells })

  pub refused_ports : (refusal : Refusal) (status : Status) → status ≡ Refused refusal → Tells (refusal_line refusal) a c → CountsPorts status a c
  refused_ports refusal status is told = subst (λ s. CountsPorts s a c) (sym is) (text_counts (refusal_line refusal) told)

  -- each output is as before
  same_outputs : (show : Show) → EachOutput (played show) (λ port name. c.port port ≡ a.port port)
  same_outputs show Video = only.other_ports Video (λ e. cc)
  same_outputs show Audio = by show.output.audio where
    by : (o : Option (List ℕ)) → IfSome o (λ name. c.port Audio ≡ a.port Audio)
    by None = tt
    by (Some name) = only.other_ports Audio (λ e. cc)
  same_outputs show Script = tt
  same_outputs show Text = tt

  -- a file can't be read, whatever the words mean
  unread_created : (place : ℕ) (o : Option (List ℕ)) (port : Port) → CreatesOnce port o (SourceFault place) (a.creates port) (c.creates port)
  unread_created place None port = all_created port
  unread_created place (Some name) port = all_created port

  pub unread_ends : (place : ℕ) (reading : Reading) (status : Status) → status ≡ SourceFault place → Tells (source_line place) a c → Ends reading status a c
  unread_ends place reading status is told = subst (λ s. Ends reading s a c) (sym is) (by reading) where
    by : (reading : Reading) → Ends reading (SourceFault place) a c
    by (Ok (Play show)) = record {
      plays = same_outputs show;
      rose = tt;
      others = λ port text none. only.other_ports port text;
      creates = λ port. unread_created place (written_name show port) port;
      line = told;
    }
    by (Ok (Print job)) = record { prints = told; rest = only_tells }
    by (Err stop) = record { answer = tt; line = told; rest = only_tells }

  pub unread_ports : (place : ℕ) (status : Status) → status ≡ SourceFault place → Tells (source_line place) a c → CountsPorts status a c
  unread_ports place status is told = subst (λ s. CountsPorts s a c) (sym is) (text_counts (source_line place) told)

  -- memory was wanting, whatever the words mean
  memory_created : (o : Option (List ℕ)) (port : Port) → CreatesOnce port o Memory (a.creates port) (c.creates port)
  memory_created None port = all_created port
  memory_created (Some name) port = all_created port

  pub memory_ends : (reading : Reading) (status : Status) → status ≡ Memory → Tells memory_line a c → Ends reading status a c
  memory_ends reading status is told = subst (λ s. Ends reading s a c) (sym is) (by reading) where
    by : (reading : Reading) → Ends reading Memory a c
    by (Ok (Play show)) = record {
      plays = same_outputs show;
      rose = tt;
      others = λ port text none. only.other_ports port text;
      creates = λ port. memory_created (written_name show port) port;
      line = told;
    }
    by (Ok (Print job)) = record { prints = told; rest = only_tells }
    by (Err stop) = record { answer = tt; line = told; rest = only_tells }

  pub memory_ports : (status : Status) → status ≡ Memory → Tells memory_line a c → CountsPorts status a c
  memory_ports status is told = subst (λ s. CountsPorts s a c) (sym is) (text_counts memory_line told)
