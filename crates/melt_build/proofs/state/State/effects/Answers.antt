use Rattle.std.proofs.Common.{rules, ◌∙◌, ◌<◌, length}
use Rattle.std.proofs.lemmas.Result.{err_from_is_err_and}
use Rattle.mlt_tree.specs.Composing.{no_words, effect}
use Rattle.mlt_tree.specs.Loading.{through}
use Rattle.melt_build.specs.State.{state_view}
use Rattle.melt_build.proofs.Hosted.{loads_both}
use Rattle.melt_build.proofs.Looked.{on_next, next_fails}
use Rattle.melt_build.proofs.state.State.effects.Goals as goal

pub returns-in_err-effect-clause-goes : goal.returns-in_err-effect-clause-goes
returns-in_err-effect-clause-goes g c =
    let a = g.H.Host.state c.args.host.now in let b = g.H.Host.state c.loop-group.host in let z = g.H.Host.state c.effect.new.host in
    let s = state_view c.loop-group.self in let gs = c.args.groups.now in let i = c.loop-group.group-index in let group = c.group-item.result in
    let below : i < length gs = search rules in
    let p = err_from_is_err_and c.from_residual.result c.from_residual.ensures.1 in
    rw (p.1, p.2) (λ files tells.
    next_fails (effect files no_words) files (through (effect files no_words) (state_view c.args.self.now) gs) s gs i group below c.group-item.is c.in_err-effect.field-0.0 a b z (c.loop-group.invariant.done files tells) c.loop-group.invariant.rest.files tells
    (λ t. c.in_err-effect.ensures.goes files t))

pub loop-group-preserved : goal.loop-group-preserved
loop-group-preserved g c =
    let a = g.H.Host.state c.args.host.now in let b = g.H.Host.state c.loop-group.host in let z = g.H.Host.state c.effect.new.host in
    let s = state_view c.loop-group.self in let gs = c.args.groups.now in let i = c.loop-group.group-index in let group = c.group-item.result in
    let below : i < length gs = search rules in
    record {
      composed = search rules;
      counts = c.in_ok-effect.ensures.counts ∙ c.loop-group.invariant.counts;
      rest = loads_both a b z c.loop-group.invariant.rest c.in_ok-effect.ensures.rest;
      done = λ files tells. on_next (effect files no_words) files (through (effect files no_words) (state_view c.args.self.now) gs) s (state_view c.effect.new.self) gs i group below c.group-item.is a b z (c.loop-group.invariant.done files tells) c.loop-group.invariant.rest.files tells
          (λ t. c.in_ok-effect.ensures.goes files t);
    }
