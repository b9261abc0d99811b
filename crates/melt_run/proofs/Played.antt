-- What playing leaves, where Video is the one output.
use Rattle.std.proofs.Common.{ℕ, ◌≡◌, ◌≢◌, ◌≤◌, ◌||◌, nat_lt, Bool, true, false, if◌then◌else◌, List, Option, None, Some, IfSome, refl, sym, subst, inl, inr, arith}
use Rattle.std.proofs.lemmas.Bool.Decides.{nat_tests}
use Rattle.mlt_base.specs.declared.port.Port.{Port}
use Rattle.mlt_base.specs.declared.port.Port.TheVariants.{Video, Audio, Script, Text}
use Rattle.mlt_host.specs.Count.{next}
use Rattle.mlt_host.specs.Host.{HostState, OnlyPort, Rose}
use Rattle.mlt_tree.specs.Show.{Show, played, written_name, written_frames}
use Rattle.melt_run.specs.declared.status.Status.{Status}
use Rattle.melt_run.specs.declared.status.Status.TheVariants.{Done, SinkFault, Memory}
use Rattle.melt_run.specs.declared.status.Tally.{Tally}
use Rattle.melt_run.specs.Play.{EachOutput, EachOther, Plays, KeepsElse, IsStopped, IsCutAt, IsUncreated, comes_before, CountsFaults, IsCreated, CreatesOnce, fronted, full_tally, no_tally}

module _ (show : Show) (silent : show.output.audio ≡ None) where
  each_video : (P : Port → List ℕ → Type 0) → P Video show.output.video → EachOutput (played show) P
  each_video P h Video = h
  each_video P h Audio = subst (λ o. IfSome o (P Audio)) (sym silent) tt
  each_video P h Script = tt
  each_video P h Text = tt

  module _ (a c : HostState) where
    pub plays_done : (tally : Tally) → tally ≡ full_tally (played show) (written_frames show) → IfSome (c.port Video) (λ now. now ≡ fronted (played show) Video show.output.video (written_frames show)) → Plays (played show) (Done tally) a c
    plays_done tally is h = (is, each_video (λ port name. IfSome (c.port port) (λ now. now ≡ fronted (played show) port name (written_frames show))) h)

    pub plays_uncreated : c.port Video ≡ a.port Video → Plays (played show) (SinkFault Video no_tally) a c
    plays_uncreated h = (λ e. cc, inl (refl, each_video (λ port name. IsUncreated (comes_before port Video) (played show) port name (a.port port) (c.port port)) h))

    pub plays_cut : (tally : Tally) → IsStopped (played show) tally → IfSome (c.port Video) (IsCutAt (played show) Video Video show.output.video tally.frames) → Plays (played show) (SinkFault Video tally) a c
    plays_cut tally counts h =
        (λ e. cc, inr (record { counts = counts; cut = each_video (λ port name. IfSome (c.port port) (IsCutAt (played show) Video port name tally.frames)) h }))

    others_of : OnlyPort Video a c → EachOther (played show) (λ port. c.port port ≡ a.port port)
    others_of only Video none = cc
    others_of only Audio none = only.other_ports Audio (λ e. cc)
    others_of only Script none = only.other_ports Script (λ e. cc)
    others_of only Text none = only.other_ports Text (λ e. cc)

    creates_of : (status : Status) → OnlyPort Video a c → IsCreated Video status (a.creates Video) (c.creates Video) → (port : Port) → CreatesOnce port (written_name show port) status (a.creates port) (c.creates port)
    creates_of status only h Video = h
    creates_of status only h Audio = subst (λ o. CreatesOnce Audio o status (a.creates Audio) (c.creates Audio)) (sym silent) (only.other_creates Audio (λ e. cc))
    creates_of status only h Script = only.other_creates Script (λ e. cc)
    creates_of status only h Text = only.other_creates Text (λ e. cc)

    pub keeps_else : (status : Status) → OnlyPort Video a c → CountsFaults status a.faults c.faults → IsCreated Video status (a.creates Video) (c.creates Video) → KeepsElse (played show) status a c
    keeps_else status only faults creates = record {
      files = only.files;
      asked = only.asked;
      loads = only.load_faults;
      others = others_of only;
      faults = faults;
      creates = creates_of status only creates;
    }

    -- no count of faults has changed
    pub same_faults : OnlyPort Video a c → c.faults Video ≡ a.faults Video → (port : Port) → c.faults port ≡ a.faults port
    same_faults only h Video = h
    same_faults only h Audio = only.other_faults Audio (λ e. cc)
    same_faults only h Script = only.other_faults Script (λ e. cc)
    same_faults only h Text = only.other_faults Text (λ e. cc)

    -- that of Video has risen
    pub video_fault : (tally : Tally) → OnlyPort Video a c → Rose (a.faults Video) (c.faults Video) → a.faults Video ≤ c.faults Video → CountsFaults (SinkFault Video tally) a.faults c.faults
    video_fault tally only rose falls = (rose, fall, λ port apart. only.other_faults port apart) where
      same : (port : Port) → port ≢ Video → a.faults port ≤ c.faults port
      same port apart = let e = only.other_faults port apart in omega arith

      fall : (port : Port) → a.faults port ≤ c.faults port
      fall Video = falls
      fall Audio = same Audio (λ e. cc)
      fall Script = same Script (λ e. cc)
      fall Text = same Text (λ e. cc)

  -- nothing was played
  pub plays_nothing : (a : HostState) → Plays (played show) Memory a a
  plays_nothing a = each_video (λ port name. a.port port ≡ a.port port) refl

  pub keeps_all : (a : HostState) → KeepsElse (played show) Memory a a
  keeps_all a = record {
    files = refl;
    asked = refl;
    loads = refl;
    others = λ port none. refl;
    faults = λ port. refl;
    creates = λ port. created_none port (written_name show port) (a.creates port);
  }
    where
      created_none : (port : Port) (o : Option (List ℕ)) (n : ℕ) → CreatesOnce port o Memory n n
      created_none port None n = refl
      created_none port (Some name) n = refl

-- Video was created where a frame was taken, and not where none was
pub taken_created : (tally : Tally) (old new : ℕ) → 1 ≤ tally.taken → new ≡ next old → IsCreated Video (SinkFault Video tally) old new
taken_created tally old new some is = by (nat_lt 0 tally.taken) refl where
  by : (b : Bool) → nat_lt 0 tally.taken ≡ b → new ≡ (if b || comes_before Video Video then next old else old)
  by true test = is
  by false test = let apart : ⊥ = grind (arith, nat_tests) in absurd apart
