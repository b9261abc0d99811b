use Rattle.std.proofs.Common.{Ok, refl, ap, sym}
use Rattle.std.proofs.lemmas.Result.{err_from_is_err_and}
use Rattle.mlt_base.specs.ProfileView.{measures_of}
use Rattle.mlt_tree.specs.Clips.{source_made}
use Rattle.mlt_tree.specs.Loaded.{picture_loaded, picture_made}
use Rattle.mlt_tree.specs.Show.{Drawn}
use Rattle.melt_build.specs.Clips.{wanted_view, product_view}
use Rattle.melt_build.specs.State.{made_view}
use Rattle.melt_build.proofs.Filed.{source_step, source_is}
use Rattle.melt_build.proofs.Levels.{more_behind}
use Rattle.melt_build.proofs.Steps.{read_tells, read_fails, ends_well, memory_then}
use Rattle.melt_build.proofs.state.Made.picture_made.Goals as goal

pub returns-in_err-picture-clause-goes : goal.returns-in_err-picture-clause-goes
returns-in_err-picture-clause-goes g c =
    let a = g.H.Host.state c.args.host.now in let b = g.H.Host.state c.picture_loaded.new.host in
    let m = measures_of c.args.profile.now in let made = made_view c.args.self.now in let place = c.args.place in let name = c.args.name.now in let asked = wanted_view c.args.asked in
    let p = err_from_is_err_and c.from_residual.result c.from_residual.ensures.1 in
    rw (p.1, p.2) (λ files tells.
    let whole = picture_made files m made place name asked in let first = picture_loaded files made place name in
    let second = source_step files m made place name asked in let is = source_is files m made place name asked in
    read_fails whole first second is c.in_err-picture.field-0.0 a b (c.in_err-picture.ensures.goes files (read_tells whole first second is files a tells)))

pub returns-in_err-source_made-clause-goes : goal.returns-in_err-source_made-clause-goes
returns-in_err-source_made-clause-goes g c =
    let a = g.H.Host.state c.args.host.now in let b = g.H.Host.state c.picture_loaded.new.host in
    let m = measures_of c.args.profile.now in let made = made_view c.args.self.now in let place = c.args.place in let name = c.args.name.now in let asked = wanted_view c.args.asked in
    let p = err_from_is_err_and c.from_residual-in_err-source_made.result c.from_residual-in_err-source_made.ensures.1 in
    rw (p.1, p.2) (λ files tells.
    let whole = picture_made files m made place name asked in let first = picture_loaded files made place name in
    let second = source_step files m made place name asked in let is = source_is files m made place name asked in
    memory_then whole first second is (made_view c.picture_loaded.new.self, c.in_ok-picture.picture) a b (c.in_ok-picture.ensures.goes files (read_tells whole first second is files a tells)))

pub returns-clause-goes : goal.returns-clause-goes
returns-clause-goes g c = λ files tells.
    let a = g.H.Host.state c.args.host.now in let b = g.H.Host.state c.picture_loaded.new.host in
    let m = measures_of c.args.profile.now in let made = made_view c.args.self.now in let place = c.args.place in let name = c.args.name.now in let asked = wanted_view c.args.asked in
    let whole = picture_made files m made place name asked in let first = picture_loaded files made place name in
    let second = source_step files m made place name asked in let is = source_is files m made place name asked in
    let mid = made_view c.picture_loaded.new.self in let picture = c.in_ok-picture.picture in
    ends_well whole first second is (mid, picture) a b (c.in_ok-picture.ensures.goes files (read_tells whole first second is files a tells))
    (Ok (source_made m mid (Drawn picture) asked)) refl (product_view c.source_made.new.self) c.in_ok-source_made.field-0 (ap Ok (sym c.in_ok-source_made.ensures.value))

pub returns-clause-more : goal.returns-clause-more
returns-clause-more g c =
    more_behind c.args.self.now c.picture_loaded.new.self c.source_made.new.self c.in_ok-picture.ensures.graph c.in_ok-picture.ensures.table c.in_ok-source_made.ensures.more
