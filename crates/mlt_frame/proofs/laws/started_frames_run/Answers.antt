use Rattle.mlt_frame.proofs.Named.{started-run}
use Rattle.mlt_frame.proofs.laws.started_frames_run.Goals as goal

pub returns : goal.returns
returns c = started-run
