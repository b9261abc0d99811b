use Rattle.std.proofs.Common.{rules, ◌≡◌, length, ap, sym, ◌∙◌, subst}
use Rattle.std.proofs.lemmas.Result.{err_from_is_err_and}
use Rattle.mlt_base.specs.Ppm.{ppm}
use Rattle.mlt_base.specs.Try.{TryFails}
use Rattle.mlt_tree.specs.Loaded.{picture_in, with_loaded}
use Rattle.melt_build.specs.State.{made_view}
use Rattle.melt_build.proofs.Filed.{tells_bytes, bytes_fail, picture_fails, goes_loaded_picture}
use Rattle.melt_build.proofs.state.Made.picture_loaded.Goals as goal

pub returns-in_err-bytes-clause-goes : goal.returns-in_err-bytes-clause-goes
returns-in_err-bytes-clause-goes g c =
    let a = g.H.Host.state c.args.host.now in let b = g.H.Host.state c.load.new.host in
    let made = made_view c.args.self.now in let place = c.args.place in let name = c.args.name.now in let limit = c.load_limit.result in
    let p = err_from_is_err_and c.from_residual.result c.from_residual.ensures.1 in
    rw (p.1, p.2) (λ files tells.
    bytes_fail files made place name limit c.load_limit.ensures.value c.in_err-bytes.field-0.0 a b
    (c.in_err-bytes.ensures.goes files (tells_bytes files made place name limit c.load_limit.ensures.value a tells)))

pub returns-in_err-picture-clause-goes : goal.returns-in_err-picture-clause-goes
returns-in_err-picture-clause-goes g c =
    let a = g.H.Host.state c.args.host.now in let b = g.H.Host.state c.load.new.host in
    let made = made_view c.args.self.now in let place = c.args.place in let name = c.args.name.now in let limit = c.load_limit.result in
    let p = err_from_is_err_and c.from_residual-in_err-picture.result c.from_residual-in_err-picture.ensures.1 in
    rw (p.1, p.2) (λ files tells.
    picture_fails files made place name limit c.load_limit.ensures.value c.in_ok-bytes.bytes.items a b
    (c.in_ok-bytes.ensures.goes files (tells_bytes files made place name limit c.load_limit.ensures.value a tells))
    c.in_err-picture.field-0.0 (subst (λ bytes. TryFails c.in_err-picture.field-0.0 (picture_in place (ppm bytes))) c.as_slice.ensures.value c.in_err-picture.ensures))

pub returns-clause-goes : goal.returns-clause-goes
returns-clause-goes g c = λ files tells.
    let size : c.len.result ≡ length c.in_ok-bytes.bytes.items = search rules in
    let a = g.H.Host.state c.args.host.now in let b = g.H.Host.state c.load.new.host in
    let made = made_view c.args.self.now in let place = c.args.place in let name = c.args.name.now in let limit = c.load_limit.result in
    let picture = c.in_ok-picture.picture in
    goes_loaded_picture files made place name limit c.load_limit.ensures.value c.in_ok-bytes.bytes.items a b
    (c.in_ok-bytes.ensures.goes files (tells_bytes files made place name limit c.load_limit.ensures.value a tells))
    (λ picture. (with_loaded made c.len.result, picture)) picture picture (ap (λ bytes. picture_in place (ppm bytes)) (sym c.as_slice.ensures.value) ∙ c.in_ok-picture.ensures)
    (ap (λ n. (with_loaded made n, picture)) size)
