use Rattle.std.proofs.Common.{rules, ◌≡◌, sym, ap, ◌∙◌, subst}
use Rattle.mlt_tree.specs.Merging.{merge_made}
use Rattle.mlt_tree.specs.declared.services.MergeKind.TheVariants as merge
use Rattle.melt_build.specs.Properties.{props_in}
use Rattle.melt_build.specs.Loads.{TellsFiles, Goes}
use Rattle.melt_build.specs.Plant.{merging_view}
use Rattle.melt_build.proofs.Merged.{made_luma}
use Rattle.melt_build.proofs.state.Made.merge_made.Goals as goal

pub returns-then-eq-clause-goes : goal.returns-then-eq-clause-goes
returns-then-eq-clause-goes g c = λ files s group made profile place tells.
    let a = g.H.Host.state c.args.host.now in let b = g.H.Host.state c.luma_made.new.host in
    let ps = props_in c.args.given.now in
    let luma : c.args.kind ≡ merge.Luma = search rules in
    let is = ap (λ kind. merge_made files s group kind ps) luma ∙ made_luma files s group ps in
    subst (λ step. Goes (merging_view c.luma_made.new.self) c.luma_made.result step a b) (sym is) (c.luma_made.ensures.goes files s group made place (subst (λ step. TellsFiles files step a) is tells))
