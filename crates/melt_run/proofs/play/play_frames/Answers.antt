use Rattle.std.proofs.Common.{◌≡◌, ◌+◌, ◌-◌, ◌<◌, IfSome, sym, ap, ◌∙◌, subst, arith}
use Rattle.mlt_base.specs.declared.port.Port.TheVariants.{Video}
use Rattle.mlt_host.specs.Host.{Rose}
use Rattle.mlt_graph.specs.Show.{meant}
use Rattle.mlt_tree.specs.Show.{played, written_frames, loads_to}
use Rattle.melt_run.specs.Play.{fronted, IsCutAt, Plays, IsCreated}
use Rattle.melt_run.specs.declared.status.Tally.{Tally}
use Rattle.melt_run.specs.declared.status.Status.TheVariants.{Done, SinkFault}
use Rattle.melt_run.proofs.Fronted.{grows, cuts}
use Rattle.melt_run.proofs.Hosts.{only_both}
use Rattle.melt_run.proofs.Lent.{lends_both}
use Rattle.melt_run.proofs.Played.{plays_done, plays_uncreated, plays_cut, keeps_else, same_faults, video_fault, taken_created}
use Rattle.melt_run.proofs.Tallies.{stopped_is, full_is, loads_more}
use Rattle.melt_run.proofs.play.play_frames.Goals as goal

pub returns-in_default-clause-plays : goal.returns-in_default-clause-plays
returns-in_default-clause-plays g c =
    let show = meant c.args.show.now c.args.table.now in
    let a = g.H.Host.state c.args.host.now in let z = g.H.Host.state c.create.new.self in
    subst (λ tally. Plays (played show) (SinkFault Video tally) a z) (sym c.nothing.ensures) (plays_uncreated show c.requires.playable.played.silent a z c.in_default.ensures.failed)

pub returns-in_default-clause-keeps : goal.returns-in_default-clause-keeps
returns-in_default-clause-keeps g c =
    let show = meant c.args.show.now c.args.table.now in let silent = c.requires.playable.played.silent in
    let a = g.H.Host.state c.args.host.now in let z = g.H.Host.state c.create.new.self in
    let cause = c.in_default.ensures.cause in let only = c.in_default.ensures.rest in
    keeps_else show silent a z (SinkFault Video c.nothing.result) only (video_fault show silent a z c.nothing.result only cause.failed cause.never_falls) (subst (λ tally. IsCreated Video (SinkFault Video tally) (a.creates Video) (z.creates Video)) (sym c.nothing.ensures) c.in_default.ensures.creates)

pub returns-in_default-answer-clause-plays : goal.returns-in_default-answer-clause-plays
returns-in_default-answer-clause-plays g c =
    let show = meant c.args.show.now c.args.table.now in let done = c.loop-done.done in
    let a = g.H.Host.state c.args.host.now in let l = g.H.Host.state c.loop-done.host in let z = g.H.Host.state c.play_frame-answer.new.host in
    let short : done < written_frames show = omega (arith, c.loop-done-test.true) in
    let cut = cuts (played show) show.output.video done (l.port Video) (z.port Video) c.loop-done.invariant.so_far (rw c.in_default-answer.is at c.play_frame-answer.ensures.failed) in
    plays_cut show c.requires.playable.played.silent a z c.stopped.result (stopped_is (played show) done c.loop-done.loads c.stopped.result short c.loop-done.invariant.exact c.stopped.ensures)
    (subst (λ n. IfSome (z.port Video) (IsCutAt (played show) Video Video show.output.video n)) (sym (ap (λ (t : Tally). t.frames) c.stopped.ensures)) cut)

pub returns-in_default-answer-clause-keeps : goal.returns-in_default-answer-clause-keeps
returns-in_default-answer-clause-keeps g c =
    let show = meant c.args.show.now c.args.table.now in let silent = c.requires.playable.played.silent in
    let a = g.H.Host.state c.args.host.now in let l = g.H.Host.state c.loop-done.host in let z = g.H.Host.state c.play_frame-answer.new.host in
    let cause = c.play_frame-answer.ensures.cause in let counted = c.loop-done.invariant.counted in
    let only = only_both Video a l z c.loop-done.invariant.rest c.play_frame-answer.ensures.rest in
    let rose : Rose (a.faults Video) (z.faults Video) = subst (λ n. Rose n (z.faults Video)) counted (rw c.in_default-answer.is at c.play_frame-answer.ensures.cause).failed in
    keeps_else show silent a z (SinkFault Video c.stopped.result) only (video_fault show silent a z c.stopped.result only rose (omega (arith, cause.never_falls, counted)))
    (taken_created c.stopped.result (a.creates Video) (z.creates Video) (let taken = ap (λ (t : Tally). t.taken) c.stopped.ensures in omega (arith, taken)) (c.play_frame-answer.ensures.creates ∙ c.loop-done.invariant.created))

pub loop-done-preserved : goal.loop-done-preserved
loop-done-preserved g c =
    let show = meant c.args.show.now c.args.table.now in let done = c.loop-done.done in
    record {
      home = c.play_frame-answer.ensures.home ∙ c.loop-done.invariant.home;
      lent = lends_both _ _ _ c.loop-done.invariant.lent c.play_frame-answer.ensures.lent;
      rack = c.play_frame-answer.ensures.rack;
      fitted = c.play_frame-answer.ensures.fitted;
      stacks = c.play_frame-answer.ensures.stacks;
      so_far = grows (played show) show.output.video done Video ((g.H.Host.state c.loop-done.host).port Video) ((g.H.Host.state c.play_frame-answer.new.host).port Video) c.loop-done.invariant.so_far (rw c.in-Ok-answer.is at c.play_frame-answer.ensures.ok);
      exact = loads_more (played show) done c.loop-done.loads c.from-loads.result c.loop-done.invariant.exact (c.from-loads.ensures ∙ c.play_frame-answer.ensures.loads);
      few = omega (arith, c.loop-done.invariant.few, c.play_frame-answer.ensures.few);
      counted = (rw c.in-Ok-answer.is at c.play_frame-answer.ensures.no_fault) ∙ c.loop-done.invariant.counted;
      created = c.play_frame-answer.ensures.creates ∙ c.loop-done.invariant.created;
      rest = only_both Video _ _ _ c.loop-done.invariant.rest c.play_frame-answer.ensures.rest;
    }

pub returns-clause-plays : goal.returns-clause-plays
returns-clause-plays g c =
    let show = meant c.args.show.now c.args.table.now in let count = written_frames show in let loads = c.loop-done.loads in
    let a = g.H.Host.state c.args.host.now in let l = g.H.Host.state c.loop-done.host in
    let done : c.loop-done.done ≡ count = omega arith in
    let frames : c.args.show.now.output.last.0 - c.args.show.now.output.first.0 + 1 ≡ count = omega arith in
    plays_done show c.requires.playable.played.silent a l c.all.result
    (full_is (played show) count loads c.all.result (c.loop-done.invariant.exact ∙ ap (loads_to (played show)) done) (c.all.ensures ∙ ap (λ n. record { frames = n; loads = loads; handed = n; taken = n; destroyed = 0 }) frames))
    (subst (λ n. IfSome (l.port Video) (λ port. port ≡ fronted (played show) Video show.output.video n)) done c.loop-done.invariant.so_far)

pub returns-clause-keeps : goal.returns-clause-keeps
returns-clause-keeps g c =
    let show = meant c.args.show.now c.args.table.now in let silent = c.requires.playable.played.silent in
    let a = g.H.Host.state c.args.host.now in let l = g.H.Host.state c.loop-done.host in
    let only = c.loop-done.invariant.rest in
    keeps_else show silent a l (Done c.all.result) only (same_faults show silent a l only c.loop-done.invariant.counted) c.loop-done.invariant.created
