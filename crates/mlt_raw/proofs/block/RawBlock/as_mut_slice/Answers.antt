use Rattle.std.proofs.Common.{refl, ◌∙◌, length, arith}
use Rattle.std.specs.List.{refill}
use Rattle.mlt_raw.proofs.Whole.{whole_written, bytes_written, all_written, first_bytes, all_bytes}
use Rattle.mlt_raw.proofs.block.RawBlock.as_mut_slice.Goals as goal

pub invariant_of-self-lent : goal.invariant_of-self-lent
invariant_of-self-lent c = λ w. let b = c.self.inside in whole_written b.base b.size b.cells b.deed b.alloc c.self.invariant b.size (omega arith) w

pub returns : goal.returns
returns c =
    let b = c.self.inside in let h = c.self.invariant in let is = c.self.view_is in (
      (
        refl,
        λ w. bytes_written b.base b.size b.cells b.deed b.alloc h b.size (omega arith) w ∙ all_written b.base b.size b.cells b.deed b.alloc h w ∙ (λ i. refill (length (is i)) (is i) w),
      ),
      record {
        writes_back = tt;
        value = first_bytes b.base b.size b.cells b.deed b.alloc h b.size (omega arith) c.slice_mut.result.now c.slice_mut.ensures.value ∙ all_bytes b.base b.size b.cells b.deed b.alloc h ∙ is;
      },
    )
