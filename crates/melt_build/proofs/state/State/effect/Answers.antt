use Rattle.std.proofs.Common.{rules, ◌≡◌, sym, subst}
use Rattle.mlt_tree.specs.declared.group.GroupKind.TheVariants as kind
use Rattle.melt_build.specs.Loads.{TellsFiles, Goes}
use Rattle.melt_build.specs.State.{state_view}
use Rattle.melt_build.proofs.Looked.{effect_producer, effect_transition, effect_mixer}
use Rattle.melt_build.proofs.state.State.effect.Goals as goal

pub returns-then-eq-clause-goes : goal.returns-then-eq-clause-goes
returns-then-eq-clause-goes g c = λ files tells.
    let a = g.H.Host.state c.args.host.now in let b = g.H.Host.state c.produce.new.host in
    let producer : c.args.group.now.kind ≡ kind.Producer = search rules in
    let is = effect_producer files (state_view c.args.self.now) c.args.group.now producer in
    subst (λ step. Goes (λ done. state_view c.produce.new.self) c.produce.result step a b) (sym is) (c.produce.ensures.goes files (subst (λ step. TellsFiles files step a) is tells))

pub returns-then-eq-2-clause-goes : goal.returns-then-eq-2-clause-goes
returns-then-eq-2-clause-goes g c = λ files tells.
    let a = g.H.Host.state c.args.host.now in let b = g.H.Host.state c.transition.new.host in
    let transition : c.args.group.now.kind ≡ kind.Transition = search rules in
    let is = effect_transition files (state_view c.args.self.now) c.args.group.now transition in
    subst (λ step. Goes (λ done. state_view c.transition.new.self) c.transition.result step a b) (sym is) (c.transition.ensures.goes files (subst (λ step. TellsFiles files step a) is tells))

pub returns-then-eq-3-clause-goes : goal.returns-then-eq-3-clause-goes
returns-then-eq-3-clause-goes g c = λ files tells.
    let a = g.H.Host.state c.args.host.now in let b = g.H.Host.state c.mixer.new.host in
    let mixer : c.args.group.now.kind ≡ kind.Mixer = search rules in
    let is = effect_mixer files (state_view c.args.self.now) c.args.group.now mixer in
    subst (λ step. Goes (λ done. state_view c.mixer.new.self) c.mixer.result step a b) (sym is) (c.mixer.ensures.goes files (subst (λ step. TellsFiles files step a) is tells))
