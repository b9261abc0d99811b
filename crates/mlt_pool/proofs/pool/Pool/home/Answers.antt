use Rattle.std.proofs.Common.{◌≡◌, ◌^◌, length, sym, ap, ◌∙◌, arith}
use Rattle.mlt_pool.specs.Class.{class_of}
use Rattle.mlt_pool.specs.Counts.{lent_of}
use Rattle.mlt_pool.specs.Tally.{counts_of}
use Rattle.mlt_pool.proofs.Counting.{class_there, lent_there, still_shelves, after_home}
use Rattle.mlt_pool.proofs.pool.Pool.home.Goals as goal

pub bring-requires : goal.bring-requires
bring-requires c =
    let k = c.class.result in let is = c.class.ensures in
    let same : lent_of (counts_of c.self.inside.shelves) k ≡ lent_of c.args.self.now (class_of (length c.args.lease)) = λ i. lent_of (c.self.view_is i) (is.class i) in
    record {
      lent = omega (arith, c.requires, same, lent_there c.self.inside.shelves c.self.invariant k c.from.result is.within c.from.ensures c.index-self-from.result);
      size = c.into_block.ensures ∙ ap (λ n. 2 ^ n) (sym is.class) ∙ ap (λ n. 2 ^ n) (sym (class_there c.self.inside.shelves c.self.invariant k c.from.result is.within c.from.ensures c.index-self-from.result));
    }

pub invariant_of-self : goal.invariant_of-self
invariant_of-self c = still_shelves c.self.inside.shelves c.self.invariant c.class.result c.from.result c.class.ensures.within c.from.ensures c.index-self-from.result c.bring.new.self c.bring.ensures.0

pub returns : goal.returns
returns c =
    let is = c.class.ensures in
    let made = after_home c.self.inside.shelves c.self.invariant c.class.result c.from.result is.within c.from.ensures c.index-self-from.result c.bring.new.self c.bring.ensures.1 c.bring.ensures.2 c.args.self.now _ c.self.view_is is.class in
    record { new = made.0; counts = made.1 }
