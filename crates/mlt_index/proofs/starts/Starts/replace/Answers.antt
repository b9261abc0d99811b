use Rattle.std.proofs.Common.{◌+◌, ◌∙◌, length, take, drop, ap, arith}
use Rattle.std.specs.Vec.{with_items}
use Rattle.std.proofs.lemmas.List.{with_items_is}
use Rattle.mlt_index.specs.Starts.{numbers_of, replaced}
use Rattle.mlt_index.proofs.EndsOf.{numbers-ends}
use Rattle.mlt_index.proofs.Replaced.{are-replaced, kept, length_is, movable, rewritten_is, start_is, sum-replaced}
use Rattle.mlt_index.proofs.starts.Starts.replace.Goals as goal

pub start_at-start-requires : goal.start_at-start-requires
start_at-start-requires c =
    let ns = c.args.self.now in
    let ends = c.self.inside.ends.items in
    let count = length_is ends ns (kept ends ns c.self.invariant c.self.view_is) in
    omega arith

pub overflow_add-at : goal.overflow_add-at
overflow_add-at c =
    let ns = c.args.self.now in
    let ends = c.self.inside.ends.items in
    let count = length_is ends ns (kept ends ns c.self.invariant c.self.view_is) in
    omega arith

pub start_at-behind-requires : goal.start_at-behind-requires
start_at-behind-requires c =
    let ns = c.args.self.now in
    let ends = c.self.inside.ends.items in
    let count = length_is ends ns (kept ends ns c.self.invariant c.self.view_is) in
    omega arith

pub make_room-requires-clause-range : goal.make_room-requires-clause-range
make_room-requires-clause-range c =
    let ns = c.args.self.now in
    let ends = c.self.inside.ends.items in
    let count = length_is ends ns (kept ends ns c.self.invariant c.self.view_is) in
    omega arith

pub rewrite-requires-clause-range : goal.rewrite-requires-clause-range
rewrite-requires-clause-range c =
    let ns = c.args.self.now in
    let ends = c.self.inside.ends.items in
    let count = length_is ends ns (kept ends ns c.self.invariant c.self.view_is) in
    omega (arith, c.in_ok-make_room.ensures.len)

pub rewrite-requires-clause-short : goal.rewrite-requires-clause-short
rewrite-requires-clause-short c =
    let ns = c.args.self.now in
    let ends = c.self.inside.ends.items in
    let are = kept ends ns c.self.invariant c.self.view_is in
    let start = start_is ends ns c.deref.result.now c.args.at c.start_at-start.result are c.deref.ensures.value (omega arith) c.start_at-start.ensures in
    omega (arith, sum-replaced ns c.args.at c.args.removed c.args.frames.now, c.requires.short)

pub rewrite-requires-clause-movable : goal.rewrite-requires-clause-movable
rewrite-requires-clause-movable c =
    let ns = c.args.self.now in
    let ends = c.self.inside.ends.items in
    let are = kept ends ns c.self.invariant c.self.view_is in
    let start = start_is ends ns c.deref.result.now c.args.at c.start_at-start.result are c.deref.ensures.value (omega arith) c.start_at-start.ensures in
    let behind = start_is ends ns c.deref-2.result.now (c.args.at + c.args.removed) c.start_at-behind.result are c.deref-2.ensures.value (omega arith) c.start_at-behind.ensures in
    let rest = ap (drop (c.args.at + length c.args.frames.now)) c.deref_mut.ensures.value ∙ c.in_ok-make_room.ensures.behind in
    movable ends ns c.deref_mut.result.now c.args.frames.now c.args.at c.args.removed c.start_at-start.result c.start_at-behind.result are start behind rest c.requires.short

pub invariant_of-self-2 : goal.invariant_of-self-2
invariant_of-self-2 c =
    let ns = c.args.self.now in
    let ends = c.self.inside.ends.items in
    let are = kept ends ns c.self.invariant c.self.view_is in
    let start = start_is ends ns c.deref.result.now c.args.at c.start_at-start.result are c.deref.ensures.value (omega arith) c.start_at-start.ensures in
    let behind = start_is ends ns c.deref-2.result.now (c.args.at + c.args.removed) c.start_at-behind.result are c.deref-2.ensures.value (omega arith) c.start_at-behind.ensures in
    let front = ap (take c.args.at) c.deref_mut.ensures.value ∙ c.in_ok-make_room.ensures.before in
    let rest = ap (drop (c.args.at + length c.args.frames.now)) c.deref_mut.ensures.value ∙ c.in_ok-make_room.ensures.behind in
    let items = with_items_is c.make_room.new.ends c.rewrite.new.ends (omega arith) in
    let new = rewritten_is ends ns c.deref_mut.result.now c.rewrite.new.ends c.args.frames.now c.args.at c.args.removed c.start_at-start.result c.start_at-behind.result are start behind front rest c.rewrite.ensures in
    are-replaced ends ns (with_items c.make_room.new.ends c.rewrite.new.ends).items c.args.frames.now c.args.at c.args.removed c.self.invariant c.self.view_is c.requires.some c.requires.short (items ∙ new)

pub returns-clause-list : goal.returns-clause-list
returns-clause-list c =
    let ns = c.args.self.now in
    let ends = c.self.inside.ends.items in
    let are = kept ends ns c.self.invariant c.self.view_is in
    let start = start_is ends ns c.deref.result.now c.args.at c.start_at-start.result are c.deref.ensures.value (omega arith) c.start_at-start.ensures in
    let behind = start_is ends ns c.deref-2.result.now (c.args.at + c.args.removed) c.start_at-behind.result are c.deref-2.ensures.value (omega arith) c.start_at-behind.ensures in
    let front = ap (take c.args.at) c.deref_mut.ensures.value ∙ c.in_ok-make_room.ensures.before in
    let rest = ap (drop (c.args.at + length c.args.frames.now)) c.deref_mut.ensures.value ∙ c.in_ok-make_room.ensures.behind in
    let items = with_items_is c.make_room.new.ends c.rewrite.new.ends (omega arith) in
    let new = rewritten_is ends ns c.deref_mut.result.now c.rewrite.new.ends c.args.frames.now c.args.at c.args.removed c.start_at-start.result c.start_at-behind.result are start behind front rest c.rewrite.ensures in
    ap (numbers_of 0) (items ∙ new) ∙ numbers-ends 0 (replaced ns c.args.at c.args.removed c.args.frames.now)
