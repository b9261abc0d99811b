use Rattle.std.proofs.Common.{sum, ap, ◌∙◌, arith}
use Rattle.std.proofs.lemmas.List.{take_all}
use Rattle.mlt_index.proofs.Replaced.{kept, length_is, start_is}
use Rattle.mlt_index.proofs.starts.Starts.sum.Goals as goal

pub returns : goal.returns
returns c =
    let ns = c.args.self.now in
    let ends = c.self.inside.ends.items in
    let are = kept ends ns c.self.invariant c.self.view_is in
    let count = length_is ends ns are in
    start_is ends ns c.deref.result.now c.len.result c.start_at.result are c.deref.ensures.value (omega arith) c.start_at.ensures ∙ ap sum (take_all c.len.result ns (omega arith))
