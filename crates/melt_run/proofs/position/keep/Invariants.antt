use Rattle.mlt_base.specs.ProfileView.{measures_of}
use Rattle.mlt_tree.specs.Show.{AreFitted}
use Rattle.melt_run.proofs.position.keep.Given as goal

-- each picture that is kept is that of its source
abbrev pub invariant-loop-op : goal.invariant-loop-op
invariant-loop-op l = AreFitted (measures_of l.profile) l.table l.fitted.fits
