use Rattle.std.proofs.Common.{◌++◌, take, drop, refl, sym, ap, ◌∙◌, arith}
use Rattle.std.specs.List.{refill}
use Rattle.mlt_raw.specs.Places.{somes}
use Rattle.mlt_raw.proofs.Whole.{whole_written, bytes_written, first_bytes, first_run, within}
use Rattle.mlt_raw.proofs.block.RawBlock.first_mut.Goals as goal

pub slice_mut-requires : goal.slice_mut-requires
slice_mut-requires c =
    let b = c.self.inside in let h = c.self.invariant in let le = within b.base b.size b.cells b.deed b.alloc h c.args.len c.args.self.now c.self.view_is c.requires in
    (sym h.together.0, (omega (arith, le, h.count), (take c.args.len (somes b.cells.slots), first_run b.base b.size b.cells b.deed b.alloc h c.args.len le)))

pub invariant_of-self-lent : goal.invariant_of-self-lent
invariant_of-self-lent c =
    let b = c.self.inside in let h = c.self.invariant in let le = within b.base b.size b.cells b.deed b.alloc h c.args.len c.args.self.now c.self.view_is c.requires in
    λ w. whole_written b.base b.size b.cells b.deed b.alloc h c.args.len le w

pub returns : goal.returns
returns c =
    let b = c.self.inside in let h = c.self.invariant in let is = c.self.view_is in let n = c.args.len in
    let le = within b.base b.size b.cells b.deed b.alloc h n c.args.self.now is c.requires in (
      (refl, λ w. bytes_written b.base b.size b.cells b.deed b.alloc h n le w ∙ (λ i. refill n (take n (is i)) w ++ drop n (is i))),
      record {
        writes_back = tt;
        value = first_bytes b.base b.size b.cells b.deed b.alloc h n le c.slice_mut.result.now c.slice_mut.ensures.value ∙ ap (take n) is;
      },
    )
