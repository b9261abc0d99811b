use Rattle.std.proofs.Common.{ℕ, List, sym, ap, subst, ◌∙◌}
use Rattle.mlt_frame.specs.Loads.{loads}
use Rattle.mlt_frame.specs.Started.{IsStarted}
use Rattle.mlt_tree.specs.Medium.{Pictures, Sounds}
use Rattle.mlt_graph.specs.Sealed.{tree}
use Rattle.mlt_start.specs.Code.{code, or_absent}
use Rattle.mlt_start.proofs.Counted.{some-ops}
use Rattle.mlt_start.proofs.Loaded.{loads-code}
use Rattle.mlt_start.proofs.Made.{ops-made}
use Rattle.mlt_start.proofs.UnitTrees.{unit-planted, unit-ranged}
use Rattle.mlt_start.proofs.Walked.{alone-above}
use Rattle.mlt_start.proofs.start_frame.start.Goals as goal

pub push_all-requires-clause-some : goal.push_all-requires-clause-some
push_all-requires-clause-some c =
    some-ops (tree c.args.sealed.now) (unit-planted c.args.sealed.now.units c.units.ensures.sealed.graph c.args.sealed.now.top)

pub push_all-requires-2-clause-some : goal.push_all-requires-2-clause-some
push_all-requires-2-clause-some c =
    some-ops (tree c.args.sealed.now) (unit-planted c.args.sealed.now.units c.units.ensures.sealed.graph c.args.sealed.now.top)

pub returns-clause-started : goal.returns-clause-started
returns-clause-started c =
    let shown = c.args.sealed.now in
    let t = tree shown in
    let n = c.args.at.0 in
    let planted = unit-planted shown.units c.units.ensures.sealed.graph shown.top in
    let ranged = unit-ranged shown.units c.units.ensures.sealed.graph shown.top in
    let image = alone-above (or_absent (code Pictures t n)) c.args.ops.image c.push_all.new.stack c.requires.empty.0 c.push_all.ensures in
    let sound = alone-above (or_absent (code Sounds t n)) c.args.ops.sound c.push_all-2.new.stack c.requires.empty.1 c.push_all-2.ensures in
    subst (IsStarted t) (sym c.new.ensures) (record {
      image = ops-made Pictures (List ℕ) t n c.push_all.new.stack.ops planted ranged image;
      sound = ops-made Sounds (List (List ℕ)) t n c.push_all-2.new.stack.ops planted ranged sound;
      needed = ap loads image ∙ loads-code t planted n;
    })
