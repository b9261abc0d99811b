use Rattle.std.proofs.Common.{arith, ◌∙◌, sym}
use Rattle.mlt_base.specs.Mixing.{strength}
use Rattle.mlt_kernel.proofs.Layers.{under, above}
use Rattle.mlt_kernel.proofs.over.lay_pixel.Goals as goal

pub returns-else-a-eq0-clause-r : goal.returns-else-a-eq0-clause-r
returns-else-a-eq0-clause-r c = under c.args.low.a (strength c.args.top.a c.args.opacity) c.args.low.r c.args.top.r (sym c.strength-b.ensures ∙ c.if-b-eq0.true) (omega arith)

pub returns-else-a-eq0-clause-g : goal.returns-else-a-eq0-clause-g
returns-else-a-eq0-clause-g c = under c.args.low.a (strength c.args.top.a c.args.opacity) c.args.low.g c.args.top.g (sym c.strength-b.ensures ∙ c.if-b-eq0.true) (omega arith)

pub returns-else-a-eq0-clause-b : goal.returns-else-a-eq0-clause-b
returns-else-a-eq0-clause-b c = under c.args.low.a (strength c.args.top.a c.args.opacity) c.args.low.b c.args.top.b (sym c.strength-b.ensures ∙ c.if-b-eq0.true) (omega arith)

pub returns-then-a-eq0-2-clause-r : goal.returns-then-a-eq0-2-clause-r
returns-then-a-eq0-2-clause-r c = rw (← c.strength-b.ensures) (above c.args.low.a c.strength-b.result c.args.low.r c.args.top.r c.if-a-eq0-2.either (omega arith))

pub returns-then-a-eq0-2-clause-g : goal.returns-then-a-eq0-2-clause-g
returns-then-a-eq0-2-clause-g c = rw (← c.strength-b.ensures) (above c.args.low.a c.strength-b.result c.args.low.g c.args.top.g c.if-a-eq0-2.either (omega arith))

pub returns-then-a-eq0-2-clause-b : goal.returns-then-a-eq0-2-clause-b
returns-then-a-eq0-2-clause-b c = rw (← c.strength-b.ensures) (above c.args.low.a c.strength-b.result c.args.low.b c.args.top.b c.if-a-eq0-2.either (omega arith))
