-- What is prepared of a step of reading, and the files that were asked for on the way.
use Rattle.std.proofs.Common.{ℕ, ◌≡◌, ◌++◌, List, [], ◌∷◌, length, take, Option, None, Some, Result, Ok, Err, IfSome, IsSomeAnd, refl, sym, ap, ◌∙◌, subst, inl, inr}
use Rattle.std.proofs.Math.Seq.{take-length}
use Rattle.std.proofs.lemmas.List.{append-nil}
use Rattle.mlt_host.specs.Host.{HostState}
use Rattle.mlt_tree.specs.declared.refusal.Refusal.{Refusal}
use Rattle.mlt_tree.specs.Loading as read
use Rattle.mlt_tree.specs.Loading.{Files, no_files, Load, Read, ◌>>=◌}
use Rattle.mlt_tree.specs.Reading as meaning
use Rattle.mlt_tree.specs.Reading.{Reading, Job, words_read, reading_on, loads, show_read}
use Rattle.mlt_tree.specs.Show as shown
use Rattle.mlt_tree.specs.Show.{Source}
use Rattle.mlt_graph.specs.Show.{meant}
use Rattle.mlt_graph.specs.declared.show.Show.{Show}
use Rattle.melt_build.specs.declared.fault.BuildFault.{BuildFault}
use Rattle.melt_build.specs.declared.fault.BuildFault.TheVariants as build
use Rattle.melt_build.specs.Loads.{Asks, AsksUpTo, AsksSome, TellsFiles, StepFails, names_of}
use Rattle.melt_run.specs.declared.prepared.Prepared.{Prepared}
use Rattle.melt_run.specs.declared.prepared.Prepared.TheVariants.{Play, Text, Refused, SourceFault, Memory}
use Rattle.melt_run.specs.declared.status.Status.{Status}
use Rattle.melt_run.specs.declared.status.Status.TheVariants as status
use Rattle.melt_run.specs.Outcome.{AsksFor}
use Rattle.melt_run.specs.Prepared.{AsksWhilePreparing, GoesPrepared, Means, Reads, loads_on}
use Rattle.melt_run.specs.Status.{IfSourceFault}

-- ---- a step that looks up no file

asks_none : (a : HostState) → Asks [] a a
asks_none a = go a.asked where
  go : (asked : Option (List (List ℕ))) → IfSome asked (λ after. IsSomeAnd asked (λ before. after ≡ before ++ []))
  go None = tt
  go (Some names) = sym (append-nil names)

pub reads_goes : (prepared : Prepared) (step : Read Job) (a : HostState) → Reads prepared step → GoesPrepared prepared step a a
reads_goes (Play show table) step a h =
    subst (λ step. GoesPrepared (Play show table) step a a) (sym h) (record { means = refl; asked = asks_none a })
reads_goes (Text job) step a h =
    subst (λ step. GoesPrepared (Text job) step a a) (sym h) (record { means = refl; asked = asks_none a })
reads_goes (Refused refusal) step a h =
    subst (λ step. GoesPrepared (Refused refusal) step a a) (sym h) (record { means = refl; asked = asks_none a })
reads_goes (SourceFault place) step a h = absurd h
reads_goes Memory step a h = record { means = tt; asked = (0, asks_none a) }

-- ---- a step behind another, which itself looks up no file

module _ {X Y : Type 0} (first : Read X) (second : X → Read Y) where
  both : Result X read.Stop → Read Y
  both (Ok x) = read.after first.loads (second x)
  both (Err stop) = record { loads = first.loads; end = Err stop }

  bound_end : (x : X) → first.end ≡ Ok x → (first >>= second).end ≡ (second x).end
  unfolding both
  bound_end x ok = ap (λ end. (both end).end) ok

  bound_stop : (stop : read.Stop) → first.end ≡ Err stop → (first >>= second).end ≡ Err stop
  unfolding both
  bound_stop stop is = ap (λ end. (both end).end) is

  bound_loads : ((x : X) → (second x).loads ≡ []) → (first >>= second).loads ≡ first.loads
  unfolding both
  bound_loads none = by first.end where
    by : (end : Result X read.Stop) → (both end).loads ≡ first.loads
    by (Ok x) = ap (λ more. first.loads ++ more) (none x) ∙ append-nil first.loads
    by (Err stop) = refl

module _ (step : Read shown.Show) where
  abbrev then_play : shown.Show → Read Job
  then_play show = read.done (meaning.Play show)

  show_loads : (show_read step).loads ≡ step.loads
  show_loads = bound_loads step then_play (λ show. refl)

  pub tells_show : (files : Files) (host : HostState) → TellsFiles files (show_read step) host → TellsFiles files step host
  tells_show files host (inl told) = inl told
  tells_show files host (inr none) = inr (sym show_loads ∙ none)

  module _ (a b : HostState) where
    pub play_goes : (show : Show) (table : List Source) → step.end ≡ Ok (meant show table) → Asks (names_of step.loads) a b → GoesPrepared (Play show table) (show_read step) a b
    play_goes show table ok asked = record {
      means = bound_end step then_play (meant show table) ok;
      asked = subst (λ ls. Asks (names_of ls) a b) (sym show_loads) asked;
    }

    pub refusal_goes : (refusal : Refusal) → step.end ≡ Err (read.Refused refusal) → Asks (names_of step.loads) a b → GoesPrepared (Refused refusal) (show_read step) a b
    refusal_goes refusal is asked = record {
      means = bound_stop step then_play (read.Refused refusal) is;
      asked = subst (λ ls. Asks (names_of ls) a b) (sym show_loads) asked;
    }

    pub fault_goes : (place : ℕ) → AsksUpTo place step.loads a b → GoesPrepared (SourceFault place) (show_read step) a b
    fault_goes place stops = record { means = tt; asked = subst (λ ls. AsksUpTo place ls a b) (sym show_loads) stops }

    pub memory_goes : (fault : BuildFault) → fault ≡ build.Memory → StepFails fault step a b → GoesPrepared Memory (show_read step) a b
    memory_goes fault is fails = record {
      means = tt;
      asked = subst (λ ls. AsksSome ls a b) (sym show_loads) (subst (λ f. StepFails f step a b) is fails);
    }

-- ---- the words, on a host that tells the files that they name

module _ (prepared : Prepared) (words : List (List ℕ)) (a b : HostState) (goes : (files : Files) → TellsFiles files (words_read words files) a → GoesPrepared prepared (words_read words files) a b) where
  pub means_on : IfSome (reading_on words a.files) (Means prepared)
  means_on = by a.files refl where
    without : List Load → Option Reading
    without [] = Some (words_read words no_files).end
    without (load ∷ more) = None

    by_loads : (ls : List Load) → (words_read words no_files).loads ≡ ls → IfSome (without ls) (Means prepared)
    by_loads [] none = (goes no_files (inr none)).means
    by_loads (load ∷ more) some = tt

    by : (files : Option Files) → a.files ≡ files → IfSome (reading_on words files) (Means prepared)
    by (Some files) told = (goes files (inl told)).means
    by None untold = by_loads (words_read words no_files).loads refl

  pub asked_on : IfSome (loads_on words a.files) (λ loads. AsksWhilePreparing prepared loads a b)
  asked_on = by a.files refl where
    without : List Load → Option (List Load)
    without [] = Some []
    without (load ∷ more) = None

    by_loads : (ls : List Load) → (words_read words no_files).loads ≡ ls → IfSome (without ls) (λ loads. AsksWhilePreparing prepared loads a b)
    by_loads [] none = subst (λ ls. AsksWhilePreparing prepared ls a b) none (goes no_files (inr none)).asked
    by_loads (load ∷ more) some = tt

    by : (files : Option Files) → a.files ≡ files → IfSome (loads_on words files) (λ loads. AsksWhilePreparing prepared loads a b)
    by (Some files) told = (goes files (inl told)).asked
    by None untold = by_loads (words_read words no_files).loads refl

-- ---- no more is asked for when the words are done

module _ (a b c : HostState) (same : c.asked ≡ b.asked) where
  asks_on : (names : List (List ℕ)) → Asks names a b → Asks names a c
  asks_on names h =
      subst (λ asked. IfSome asked (λ after. IsSomeAnd a.asked (λ before. after ≡ before ++ names))) (sym same) h

  -- all files were asked for
  pub all_asked : (s : Status) (loads : List Load) → IfSourceFault s (λ _. ⊥) → Asks (names_of loads) a b → AsksFor s loads a c
  all_asked (status.Done tally) loads read h = asks_on (names_of loads) h
  all_asked (status.Refused refusal) loads read h = asks_on (names_of loads) h
  all_asked (status.SourceFault place) loads read h = absurd read
  all_asked (status.SinkFault port tally) loads read h = asks_on (names_of loads) h
  all_asked status.Memory loads read h =
      (length (names_of loads), subst (λ names. Asks names a c) (sym (take-length (names_of loads))) (asks_on (names_of loads) h))

  -- those up to the one that can't be read
  pub front_asked : (s : Status) (place : ℕ) (loads : List Load) → s ≡ status.SourceFault place → AsksUpTo place loads a b → AsksFor s loads a c
  front_asked s place loads is h =
      subst (λ s. AsksFor s loads a c) (sym is) (record { before = h.before; name = h.name; rest = h.rest; order = h.order; asked = asks_on (names_of h.before ++ h.name ∷ []) h.asked })

  -- some of the first
  pub some_asked : (s : Status) (loads : List Load) → s ≡ status.Memory → AsksSome loads a b → AsksFor s loads a c
  some_asked s loads is h =
      subst (λ s. AsksFor s loads a c) (sym is) (h.0, asks_on (take h.0 (names_of loads)) h.1)
