use Rattle.std.proofs.Common.{refl}
use Rattle.std.proofs.lemmas.Result.{err_from_is_err_and}
use Rattle.melt_build.specs.Clips.{origin_view, wanted_view, product_view}
use Rattle.melt_build.specs.State.{made_view, state_view}
use Rattle.melt_build.proofs.Producers.{asked_fails, tells_product, product_fails, clip_goes, clip_fails}
use Rattle.melt_build.proofs.state.State.producer.Goals as goal

pub returns-in_err-origin-clause-goes : goal.returns-in_err-origin-clause-goes
returns-in_err-origin-clause-goes g c =
    let p = err_from_is_err_and c.from_residual.result c.from_residual.ensures.1 in
    rw (p.1, p.2) (λ files tells. asked_fails files (state_view c.args.self.now) c.args.group.now c.in_err-origin.field-0.0 (g.H.Host.state c.args.host.now) c.in_err-origin.ensures)

pub returns-in_err-product-clause-goes : goal.returns-in_err-product-clause-goes
returns-in_err-product-clause-goes g c =
    let a = g.H.Host.state c.args.host.now in let b = g.H.Host.state c.product_of.new.host in
    let s = state_view c.args.self.now in let group = c.args.group.now in
    let origin = origin_view c.in_ok-origin.origin in let asked = wanted_view c.in_ok-origin.asked in
    let p = err_from_is_err_and c.from_residual-in_err-product.result c.from_residual-in_err-product.ensures.1 in
    rw (p.1, p.2) (λ files tells.
    product_fails files s group origin asked c.in_ok-origin.ensures c.in_err-product.field-0.0 a b
    (c.in_err-product.ensures.goes files s group refl refl refl (tells_product files s group origin asked c.in_ok-origin.ensures a tells)))

pub returns-in_err-clip_added-clause-goes : goal.returns-in_err-clip_added-clause-goes
returns-in_err-clip_added-clause-goes g c =
    let a = g.H.Host.state c.args.host.now in let b = g.H.Host.state c.product_of.new.host in
    let s = state_view c.args.self.now in let group = c.args.group.now in
    let origin = origin_view c.in_ok-origin.origin in let asked = wanted_view c.in_ok-origin.asked in
    let p = err_from_is_err_and c.from_residual-in_err-clip_added.result c.from_residual-in_err-clip_added.ensures.1 in
    rw (p.1, p.2) (λ files tells.
    clip_fails files s group origin asked c.in_ok-origin.ensures (product_view c.product_of.new.self c.in_ok-product.product) a b
    (c.in_ok-product.ensures.goes files s group refl refl refl (tells_product files s group origin asked c.in_ok-origin.ensures a tells))
    c.in_err-clip_added.field-0.0 (made_view c.product_of.new.self) c.in_err-clip_added.ensures.value)

pub returns-clause-goes : goal.returns-clause-goes
returns-clause-goes g c = λ files tells.
    let a = g.H.Host.state c.args.host.now in let b = g.H.Host.state c.product_of.new.host in
    let s = state_view c.args.self.now in let group = c.args.group.now in
    let origin = origin_view c.in_ok-origin.origin in let asked = wanted_view c.in_ok-origin.asked in
    clip_goes files s group origin asked c.in_ok-origin.ensures (product_view c.product_of.new.self c.in_ok-product.product) a b
    (c.in_ok-product.ensures.goes files s group refl refl refl (tells_product files s group origin asked c.in_ok-origin.ensures a tells))
    (λ done. state_view c.clip_added.new.self) c.in_ok-clip_added.field-0 (made_view c.product_of.new.self) c.in_ok-clip_added.ensures.value
