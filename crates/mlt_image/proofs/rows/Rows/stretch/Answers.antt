use Rattle.std.proofs.Common.{◌≡◌, ◌+◌, ◌*◌, ◌/◌, ◌%◌, length, get_or, take, Some, ap, ◌∙◌, arith}
use Rattle.std.proofs.lemmas.List.FromFn.{fill_by_all}
use Rattle.mlt_base.specs.Fitting.{next, down}
use Rattle.mlt_image.specs.Kept.{across_at, kept_row, stretched_row}
use Rattle.mlt_image.specs.declared.rows.Row.{Row}
use Rattle.mlt_image.proofs.Mixes.{down_none}
use Rattle.mlt_image.proofs.RowsKept.{tabled, row_at, row_most}
use Rattle.mlt_image.proofs.rows.Rows.stretch.Goals as goal

pub down-requires-clause-most_top : goal.down-requires-clause-most_top
down-requires-clause-most_top c =
    row_most c.args.pixels.now c.args.width c.args.places.now c.keep.new.self c.row.result.now (c.args.place / 65536) c.keep.ensures.kept c.row.ensures c.keep.ensures.named
    (λ i. omega (arith, c.type_inv.pixels i))

pub down-requires-clause-most_bottom : goal.down-requires-clause-most_bottom
down-requires-clause-most_bottom c =
    row_most c.args.pixels.now c.args.width c.args.places.now c.keep.new.self c.row.result.now (c.args.place / 65536) c.keep.ensures.kept c.row.ensures c.keep.ensures.named
    (λ i. omega (arith, c.type_inv.pixels i))

pub down-requires-else-share-eq0-clause-most_top : goal.down-requires-else-share-eq0-clause-most_top
down-requires-else-share-eq0-clause-most_top c =
    let y = c.args.place / 65536 in
    row_most c.args.pixels.now c.args.width c.args.places.now c.keep-else-share-eq0.new.self c.row-else-share-eq0.result.now y
    c.keep-else-share-eq0.ensures.kept c.row-else-share-eq0.ensures (ap (λ (r : Row). r.y) (c.keep-else-share-eq0.ensures.other y (λ e. omega arith)) ∙ c.keep.ensures.named)
    (λ i. omega (arith, c.type_inv.pixels i))

pub down-requires-else-share-eq0-clause-most_bottom : goal.down-requires-else-share-eq0-clause-most_bottom
down-requires-else-share-eq0-clause-most_bottom c =
    row_most c.args.pixels.now c.args.width c.args.places.now c.keep-else-share-eq0.new.self c.row-else-share-eq0-2.result.now (c.args.place / 65536 + 1)
    c.keep-else-share-eq0.ensures.kept c.row-else-share-eq0-2.ensures c.keep-else-share-eq0.ensures.named
    (λ i. omega (arith, c.type_inv.pixels i))

pub returns-then-share-eq0-clause-row : goal.returns-then-share-eq0-clause-row
returns-then-share-eq0-clause-row c =
    let pixels = c.args.pixels.now in let width = c.args.width in let places = c.args.places.now in let place = c.args.place in let n = length c.args.out.now in
    fill_by_all (stretched_row pixels width c.args.height places place) c.down.new.out n 0 (omega arith)
    (λ k lt. tabled _ n k c.down.new.out c.down.ensures lt
    ∙ ap (λ v. down (place % 65536) v v) (row_at pixels width places c.keep.new.self c.row.result.now (place / 65536) k c.keep.ensures.kept c.row.ensures c.keep.ensures.named (omega arith))
    ∙ down_none (place % 65536) (across_at pixels width places (place / 65536) k) _ (across_at pixels width places (next c.args.height place) k) c.if-share-eq0.true)

pub returns-else-share-eq0-clause-row : goal.returns-else-share-eq0-clause-row
returns-else-share-eq0-clause-row c =
    let pixels = c.args.pixels.now in let width = c.args.width in let places = c.args.places.now in let place = c.args.place in let n = length c.args.out.now in
    let y = place / 65536 in let share = place % 65536 in let rows = c.keep-else-share-eq0.new.self in let are = c.keep-else-share-eq0.ensures.kept in
    let named : (kept_row rows y).y ≡ Some y = ap (λ (r : Row). r.y) (c.keep-else-share-eq0.ensures.other y (λ e. omega arith)) ∙ c.keep.ensures.named in
    let below : y + 1 ≡ next c.args.height place = omega arith in
    let bottom = get_or (take (length places * 4) c.row-else-share-eq0-2.result.now.values) in
    fill_by_all (stretched_row pixels width c.args.height places place) c.down-else-share-eq0.new.out n 0 (omega arith)
    (λ k lt. tabled _ n k c.down-else-share-eq0.new.out c.down-else-share-eq0.ensures lt
    ∙ ap (λ v. down share v (bottom k 0)) (row_at pixels width places rows c.row-else-share-eq0.result.now y k are c.row-else-share-eq0.ensures named (omega arith))
    ∙ ap (λ v. down share (across_at pixels width places y k) v) (row_at pixels width places rows c.row-else-share-eq0-2.result.now (y + 1) k are c.row-else-share-eq0-2.ensures c.keep-else-share-eq0.ensures.named (omega arith))
    ∙ ap (λ z. down share (across_at pixels width places y k) (across_at pixels width places z k)) below)
