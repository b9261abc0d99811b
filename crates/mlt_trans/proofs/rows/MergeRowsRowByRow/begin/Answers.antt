use Rattle.mlt_trans.proofs.rows.MergeRowsRowByRow.begin.Goals as goal

pub returns-else-geometry-self : goal.returns-else-geometry-self
returns-else-geometry-self c = let is = c.in-Composite.is in rw (← c.self.view_is, is) (c.new.ensures c.self.inside.b.now)
