use Rattle.std.proofs.Common.{◌≡◌, length, ap, arith}
use Rattle.mlt_index.specs.Digits.{binary_digits}
use Rattle.mlt_index.proofs.Found.{none_found, one_found}
use Rattle.mlt_index.proofs.Replaced.{kept, length_is}
use Rattle.mlt_index.proofs.starts.Starts.find.Goals as goal

pub returns-then-index-len-clause-found : goal.returns-then-index-len-clause-found
returns-then-index-len-clause-found c =
    let ns = c.args.self.now in
    let ends = c.self.inside.ends.items in
    let are = kept ends ns c.self.invariant c.self.view_is in
    let count = length_is ends ns are in
    none_found ends ns c.deref.result.now c.args.at.0 c.index_of-index.result are c.deref.ensures.value c.index_of-index.ensures.reached (omega arith)

pub returns-then-index-len-clause-few : goal.returns-then-index-len-clause-few
returns-then-index-len-clause-few c =
    let ns = c.args.self.now in
    let ends = c.self.inside.ends.items in
    let count = length_is ends ns (kept ends ns c.self.invariant c.self.view_is) in
    let same : length c.deref.result.now ≡ length ns = omega arith in
    omega (arith, ap binary_digits same, c.index_of-index.ensures.few)

pub returns-clause-found : goal.returns-clause-found
returns-clause-found c =
    let ns = c.args.self.now in
    let ends = c.self.inside.ends.items in
    let are = kept ends ns c.self.invariant c.self.view_is in
    let count = length_is ends ns are in
    one_found ends ns c.deref.result.now c.args.at.0 c.index_of-index.result are c.deref.ensures.value c.index_of-index.ensures.reached c.deref-2.result.now c.start_at.result (omega arith) (c.index_of-index.ensures.before (omega arith)) c.deref-2.ensures.value c.start_at.ensures

pub returns-clause-few : goal.returns-clause-few
returns-clause-few c =
    let ns = c.args.self.now in
    let ends = c.self.inside.ends.items in
    let count = length_is ends ns (kept ends ns c.self.invariant c.self.view_is) in
    let same : length c.deref.result.now ≡ length ns = omega arith in
    omega (arith, ap binary_digits same, c.index_of-index.ensures.few)

pub returns-then-index-len-clause-least : goal.returns-then-index-len-clause-least
returns-then-index-len-clause-least c =
    let ns = c.args.self.now in
    let ends = c.self.inside.ends.items in
    let count = length_is ends ns (kept ends ns c.self.invariant c.self.view_is) in
    let same : length c.deref.result.now ≡ length ns = omega arith in
    omega (arith, ap binary_digits same, c.index_of-index.ensures.least)

pub returns-clause-least : goal.returns-clause-least
returns-clause-least c =
    let ns = c.args.self.now in
    let ends = c.self.inside.ends.items in
    let count = length_is ends ns (kept ends ns c.self.invariant c.self.view_is) in
    let same : length c.deref.result.now ≡ length ns = omega arith in
    omega (arith, ap binary_digits same, c.index_of-index.ensures.least)
