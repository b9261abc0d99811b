use Rattle.std.proofs.Common.{◌≡◌, ◌*◌, length, take, ap, ◌∙◌, arith, length-take}
use Rattle.mlt_base.specs.Fitting.{stretched_at}
use Rattle.mlt_base.specs.Still.{Picture}
use Rattle.mlt_image.specs.Kept.{stretched_row}
use Rattle.mlt_image.proofs.RowsKept.{tabled}
use Rattle.mlt_trans.proofs.Laid.{length-places, places_inside, top_stretched, row_laid}
use Rattle.mlt_trans.proofs.composite.Layer.lay_stretched.Goals as goal

pub stretch-requires-clause-inside : goal.stretch-requires-clause-inside
stretch-requires-clause-inside c =
    let layer = c.args.self.now in let columns = c.args.room.now.columns in
    places_inside layer.width layer.geometry.width columns.skip columns.count c.seen.result.now (rw c.requires.columns at c.seen.ensures)

pub stretch-requires-clause-few : goal.stretch-requires-clause-few
stretch-requires-clause-few c =
    let layer = c.args.self.now in let columns = c.args.room.now.columns in
    let long = length-places layer.width layer.geometry.width columns.skip columns.count c.seen.result.now (rw c.requires.columns at c.seen.ensures) in
    omega (arith, long, c.requires.room.columns.own, layer.placed.few_columns)

pub stretch-requires-clause-room : goal.stretch-requires-clause-room
stretch-requires-clause-room c =
    let layer = c.args.self.now in let columns = c.args.room.now.columns in
    let long = length-places layer.width layer.geometry.width columns.skip columns.count c.seen.result.now (rw c.requires.columns at c.seen.ensures) in
    omega (arith, long, c.requires.room.columns.own, layer.placed.few_columns, length-take (columns.count * 4) c.args.room.now.top)

pub returns-clause-row : goal.returns-clause-row
returns-clause-row c =
    let layer = c.args.self.now in let geometry = layer.geometry in let old = c.args.row.now in let v = c.args.v in
    let above : Picture = record { width = layer.width; height = layer.height; pixels = layer.b.now } in
    let columns = c.args.room.now.columns in let visible = c.requires.room.columns in
    let places = c.seen.result.now in let top = c.stretch.new.out in let room = take (columns.count * 4) c.args.room.now.top in
    let full : length room ≡ columns.count * 4 = omega (arith, visible.own, layer.placed.few_columns, length-take (columns.count * 4) c.args.room.now.top) in
    let long : length top ≡ columns.count * 4 = omega (arith, full) in
    row_laid geometry.opacity (stretched_at above geometry.width geometry.height) geometry.x geometry.width layer.width columns.from columns.skip columns.count v old c.lay.new.row top visible long
    (λ j inside. tabled (stretched_row layer.b.now layer.width layer.height places c.along-place.result) (length room) j top c.stretch.ensures.row (omega (arith, full))
    ∙ ap (λ p. stretched_row layer.b.now layer.width layer.height places p j) c.along-place.ensures.value
    ∙ top_stretched above geometry.width geometry.height v columns.skip columns.count j places (rw c.requires.columns at c.seen.ensures) inside)
    c.lay.ensures.done c.lay.ensures.before c.lay.ensures.after c.requires.long (omega arith)
