use Rattle.std.proofs.Common.{◌∙◌, arith}
use Rattle.mlt_raw.proofs.Whole.{first_bytes, all_bytes}
use Rattle.mlt_raw.proofs.block.RawBlock.as_slice.Goals as goal

pub returns : goal.returns
returns c =
    let b = c.self.inside in let h = c.self.invariant in
    first_bytes b.base b.size b.cells b.deed b.alloc h b.size (omega arith) c.slice.result.now c.slice.ensures ∙ all_bytes b.base b.size b.cells b.deed b.alloc h ∙ c.self.view_is
