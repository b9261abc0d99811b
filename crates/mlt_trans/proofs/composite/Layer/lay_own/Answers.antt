use Rattle.std.proofs.Common.{◌≡◌, ℕ, ◌+◌, ◌-◌, ◌*◌, ◌≤◌, length, take, drop, ◌∙◌, arith, length-take, length-drop}
use Rattle.std.proofs.lemmas.List.{get_or-take, get_or-drop}
use Rattle.mlt_base.specs.Fitting.{stretched_at}
use Rattle.mlt_base.specs.Still.{Picture}
use Rattle.mlt_trans.proofs.Laid.{near_is, top_same, top_within, row_laid}
use Rattle.mlt_trans.proofs.composite.Layer.lay_own.Goals as goal

pub returns : goal.returns
returns c =
    let layer = c.args.self.now in let geometry = layer.geometry in let old = c.args.row.now in let v = c.args.v in
    let above : Picture = record { width = layer.width; height = layer.height; pixels = layer.b.now } in
    let columns = c.visible-columns.result in let visible = rw (near_is geometry.x layer.placed.x_near) at c.visible-columns.ensures in
    let at : ℕ = (v * layer.width + columns.skip) * 4 in let bytes : ℕ = at + columns.count * 4 - at in
    let top = take bytes (drop at layer.b.now) in
    let room : at + columns.count * 4 ≤ layer.width * layer.height * 4 = top_within layer.width layer.height v columns.skip columns.count (omega arith) (omega (arith, visible.own)) in
    let long : length top ≡ columns.count * 4 = simp (length-take, length-drop) (omega (arith, room, layer.sized)) in
    row_laid geometry.opacity (stretched_at above geometry.width geometry.height) geometry.x geometry.width layer.width columns.from columns.skip columns.count v old c.lay.new.row top visible long
    (λ j inside. get_or-take bytes (drop at layer.b.now) j 0 (omega arith) ∙ get_or-drop at layer.b.now j 0
    ∙ top_same above geometry.width geometry.height v columns.skip columns.count j c.requires.wide c.requires.high (omega arith) visible.own inside)
    c.lay.ensures.done c.lay.ensures.before c.lay.ensures.after c.requires.long (omega arith)
