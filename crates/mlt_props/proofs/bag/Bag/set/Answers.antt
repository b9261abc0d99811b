use Rattle.std.proofs.Common.{length, ap, arith}
use Rattle.mlt_props.specs.Contents.{content, entries_of}
use Rattle.mlt_props.proofs.OwnedLemmas.{length-set_at}
use Rattle.mlt_props.proofs.bag.Bag.set.Goals as goal

pub returns-clause-grows : goal.returns-clause-grows
returns-clause-grows g c =
    omega (arith, ap length c.in_ok-before.ensures.set, ap length c.self.view_is, length-set_at (entries_of c.self.inside.entries.entries) c.args.name.now (content c.args.value))
