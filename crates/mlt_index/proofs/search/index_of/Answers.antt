use Rattle.std.proofs.Common.{◌≡◌, ◌+◌, ◌-◌, ◌/◌, ◌∙◌, ap, get_or, length, arith}
use Rattle.std.proofs.Math.Numerals.{add-one}
use Rattle.std.proofs.lemmas.Bool.Decides.{nat_tests}
use Rattle.mlt_index.specs.Digits.{binary_digits}
use Rattle.mlt_index.proofs.Halving.{digits_doubled, digits_halved, digits_least, digits_more}
use Rattle.mlt_index.proofs.search.index_of.Goals as goal

pub is_before-requires-clause-room : goal.is_before-requires-clause-room
is_before-requires-clause-room g c =
    omega (arith, digits_least (length (g.E.Ends.ends c.args.ends.now)) 64 (omega arith))

pub loop-low-preserved-then-is_before : goal.loop-low-preserved-then-is_before
loop-low-preserved-then-is_before g c =
    let all = c.loop-low.high - c.loop-low.low in
    let middle = c.loop-low.low + all / 2 in
    let halved = digits_halved all (middle - c.loop-low.low) (omega arith) (omega arith) in
    let doubled = digits_doubled (all + 1) (middle - c.loop-low.low + 1) (omega arith) in
    let end = ap (λ l. get_or l middle 0) c.loop-low.invariant.same in
    record {
      order = omega arith;
      within = omega arith;
      reached = c.loop-low.invariant.reached;
      before = λ _. grind (arith, nat_tests);
      counted = omega arith;
      few = omega arith;
      least = omega (arith, doubled);
      same = c.is_before.ensures.same ∙ c.loop-low.invariant.same;
      counter = c.is_before.ensures.counter ∙ c.loop-low.invariant.counter;
    }

pub loop-low-preserved : goal.loop-low-preserved
loop-low-preserved g c =
    let all = c.loop-low.high - c.loop-low.low in
    let middle = c.loop-low.low + all / 2 in
    let halved = digits_halved all (c.loop-low.high - (middle + 1)) (omega arith) (omega arith) in
    let doubled = digits_doubled (all + 1) (c.loop-low.high - (middle + 1) + 1) (omega arith) in
    let end = ap (λ l. get_or l middle 0) c.loop-low.invariant.same in
    record {
      order = omega arith;
      within = omega arith;
      reached = rw (add-one middle) (grind (arith, nat_tests));
      before = c.loop-low.invariant.before;
      counted = omega arith;
      few = omega arith;
      least = omega (arith, doubled);
      same = c.is_before.ensures.same ∙ c.loop-low.invariant.same;
      counter = c.is_before.ensures.counter ∙ c.loop-low.invariant.counter;
    }

pub returns-clause-least : goal.returns-clause-least
returns-clause-least g c =
    let ends = g.E.Ends.ends c.args.ends.now in
    let none : c.loop-low.high - c.loop-low.low ≡ 0 = omega arith in
    omega (arith, ap (λ k. binary_digits (k + 1)) none, digits_more (length ends), c.loop-low.invariant.least)
