use Rattle.std.proofs.Common.{◌≡◌, ◌≤◌, ◌*◌, ◌^◌, IfSome}
use Rattle.mlt_base.specs.ProfileView.{measures_of}
use Rattle.mlt_base.specs.declared.port.Port.TheVariants.{Video}
use Rattle.mlt_host.specs.Count.{next}
use Rattle.mlt_host.specs.Host.{OnlyPort}
use Rattle.mlt_pool.specs.Class.{class_of}
use Rattle.mlt_pool.specs.Counts.{home_of}
use Rattle.mlt_graph.specs.Piece.{piece_of}
use Rattle.mlt_graph.specs.Show.{meant}
use Rattle.mlt_tree.specs.Show.{played, loads_to, AreFitted}
use Rattle.melt_run.specs.Lending.{LendsAlike}
use Rattle.melt_run.specs.Play.{fronted}
use Rattle.melt_run.specs.Ready.{IsRackOf, AreStacksOf}
use Rattle.melt_run.proofs.play.play_frames.Given as goal

-- Video was created once and has exactly the positions so far, their pictures are counted, no fault was, the block is
-- home again, and what frames are worked out in is ready for the next
abbrev pub invariant-loop-done : goal.invariant-loop-done
invariant-loop-done g l = record {
  home : home_of l.pool (class_of (piece_of l.show.output l.show.profile)) ≡ home_of l.fn.pool (class_of (piece_of l.show.output l.show.profile));
  lent : LendsAlike l.fn.pool l.pool;
  rack : IsRackOf l.show l.rack;
  fitted : AreFitted (measures_of l.show.profile) l.table l.fitted.fits;
  stacks : AreStacksOf l.show l.stacks;
  so_far : IfSome ((g.H.Host.state l.host).port Video) (λ port. port ≡ fronted (played (meant l.show l.table)) Video l.show.output.video l.done);
  exact : l.loads ≡ loads_to (played (meant l.show l.table)) l.done;
  few : l.loads ≤ l.done * 2 ^ 32;
  counted : (g.H.Host.state l.host).faults Video ≡ (g.H.Host.state l.fn.host).faults Video;
  created : (g.H.Host.state l.host).creates Video ≡ next ((g.H.Host.state l.fn.host).creates Video);
  rest : OnlyPort Video (g.H.Host.state l.fn.host) (g.H.Host.state l.host);
}
