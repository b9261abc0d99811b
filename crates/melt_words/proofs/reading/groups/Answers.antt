use Rattle.std.proofs.Common.{string_bytes}
use Rattle.std.proofs.lemmas.Result.{err_from_is_err_and}
use Rattle.melt_words.specs.View.{state_of}
use Rattle.melt_words.proofs.Steps.{steps_more, steps_fail, groups_fail}
use Rattle.melt_words.proofs.reading.groups.Goals as goal

pub returns-in_err-step : goal.returns-in_err-step
returns-in_err-step c =
    let p = err_from_is_err_and c.from_residual.result c.from_residual.ensures.1 in
    let refused = rw c.as_str.ensures.value at c.in_err-step.ensures in
    let all = steps_fail string_bytes c.args.words.now c.loop-index.index c.index-words-index.result (state_of c.loop-index.reading) _ c.in_err-step.field-0.0 c.loop-index-test.true c.index-words-index.is refused c.loop-index.invariant in
    rw (p.1, p.2) (groups_fail string_bytes c.args.words.now _ c.if-words.false all)

pub loop-index-preserved : goal.loop-index-preserved
loop-index-preserved c =
    let read = rw c.as_str.ensures.value at c.in_ok-step.ensures in
    steps_more string_bytes c.args.words.now c.loop-index.index c.index-words-index.result (state_of c.loop-index.reading) (state_of c.step.new.self) _ c.loop-index-test.true c.index-words-index.is read c.loop-index.invariant
