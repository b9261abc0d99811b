use Rattle.std.proofs.Common.{◌<◌, length, rules}
use Rattle.std.proofs.lemmas.Result.{err_from_is_err_and}
use Rattle.mlt_base.proofs.Keys.{goes_on, fails}
use Rattle.mlt_base.proofs.animation.keys_behind.Goals as goal

pub returns-in_err-key : goal.returns-in_err-key
returns-in_err-key c =
    let p = err_from_is_err_and c.from_residual.result c.from_residual.ensures.1 in
    let some : 0 < length c.loop-rest.rest.now = search rules in
    rw (p.1, p.2) (fails c.loop-rest.keys.items c.loop-rest.last c.loop-rest.at c.loop-rest.rest.now _ _ some c.in_err-key.ensures.value c.loop-rest.invariant.all)

pub loop-rest-preserved : goal.loop-rest-preserved
loop-rest-preserved c =
    let some : 0 < length c.loop-rest.rest.now = search rules in
    record {
      all = rw c.in_ok-push.ensures.items (goes_on c.loop-rest.keys.items c.loop-rest.last c.loop-rest.at c.loop-rest.rest.now c.in_ok-key.key c.in_ok-key.behind c.in_ok-key.after.now _ some c.in_ok-key.ensures.value c.loop-rest.invariant.all);
      place = c.in_ok-key.ensures.place;
    }
