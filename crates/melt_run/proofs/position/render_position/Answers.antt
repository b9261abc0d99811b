use Rattle.std.proofs.Common.{[], length, All, sym, ap, ◌∙◌, subst, arith}
use Rattle.mlt_base.specs.declared.profile.Pos.{Pos}
use Rattle.mlt_frame.specs.Loads.{loads, maps}
use Rattle.mlt_frame.specs.Registers.{regs}
use Rattle.mlt_frame.specs.Stack.{Stack}
use Rattle.mlt_frame.specs.Started.{CanRun}
use Rattle.mlt_frame.proofs.Named.{IsThere, started-run}
use Rattle.mlt_graph.specs.Sealed.{tree}
use Rattle.mlt_graph.specs.Show.{meant}
use Rattle.mlt_tree.specs.Show.{pictures, video_of}
use Rattle.melt_run.proofs.Pictured.{pictured}
use Rattle.melt_run.proofs.position.render_position.Goals as goal

pub keep-requires-clause-there : goal.keep-requires-clause-there
keep-requires-clause-there c =
    let table = c.args.table.now in
    let runs = started-run table (tree c.args.show.now.sealed) c.start-frame.result c.requires.playable.fits c.start-frame.ensures.started in
    let is = c.as_slice.ensures.ops ∙ ap (λ (s : Stack). s.ops) c.image.ensures in
    subst (λ ops. All (IsThere table) (loads ops)) (sym is) runs.loads

pub keep-requires-clause-maps : goal.keep-requires-clause-maps
keep-requires-clause-maps c =
    let table = c.args.table.now in
    let runs = started-run table (tree c.args.show.now.sealed) c.start-frame.result c.requires.playable.fits c.start-frame.ensures.started in
    let is = c.as_slice.ensures.ops ∙ ap (λ (s : Stack). s.ops) c.image.ensures in
    subst (λ ops. All (IsThere table) (maps ops)) (sym is) runs.maps

pub render-requires-clause-runs : goal.render-requires-clause-runs
render-requires-clause-runs c =
    subst (λ blocks. CanRun blocks (length c.args.table.now) c.start-frame.result.image.ops) (sym c.requires.rack.count)
    (started-run c.args.table.now (tree c.args.show.now.sealed) c.start-frame.result c.requires.playable.fits c.start-frame.ensures.started)

pub render-requires-clause-at : goal.render-requires-clause-at
render-requires-clause-at c =
    let at = ap (λ (p : Pos). p.0) c.start-frame.ensures.at in
    omega (arith, at, c.requires.at, c.length.ensures.value, c.length.ensures.short)

pub returns-clause-video : goal.returns-clause-video
returns-clause-video c =
    let show = meant c.args.show.now c.args.table.now in let frame = c.start-frame.result in
    let means = c.start-frame.ensures.started.image.means (pictures show) in
    c.render.ensures.video ∙ pictured show frame.at.0 (regs (pictures show) [] frame.image.ops) means ∙ ap (λ (p : Pos). video_of show p.0) c.start-frame.ensures.at
