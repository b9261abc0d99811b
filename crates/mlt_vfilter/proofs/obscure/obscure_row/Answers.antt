use Rattle.std.proofs.Common.{◌≡◌, ℕ, ◌+◌, ◌-◌, ◌*◌, ◌/◌, ◌%◌, ◌<◌, ◌≤◌, ◌++◌, length, get_or, take, drop, ap, ◌∙◌, arith, length-take, length-drop}
use Rattle.std.proofs.lemmas.List.{get_or-take, get_or-drop, get_or_append_left, get_or-append_right}
use Rattle.mlt_tree.specs.Filters.{corner}
use Rattle.mlt_vfilter.specs.Places.{runs}
use Rattle.mlt_vfilter.proofs.Tables.{tabled}
use Rattle.mlt_slice.proofs.Parts.{put_inside}
use Rattle.mlt_vfilter.proofs.Squares.{runs_within, next_row}
use Rattle.mlt_vfilter.proofs.obscure.obscure_row.Goals as goal

pub returns-then-y-size-eq0-clause-first : goal.returns-then-y-size-eq0-clause-first
returns-then-y-size-eq0-clause-first c = λ _ i lt.
    let picture = c.args.picture.now in let w = c.args.row_bytes in let size = c.args.size in let at : ℕ = c.args.y * w in let count : ℕ = at + w - at in
    let row = take count (drop at picture) in let new = c.make_runs.new.row in
    let own : count ≡ w = omega arith in
    let room : at + w ≤ length picture = c.requires.room in
    let long : length row ≡ count = simp (length-take, length-drop) (omega arith) in
    let new_long : length new ≡ count = omega arith in
    let byte : ℕ = corner size (i / 4) * 4 + i % 4 in
    let within : byte < w = runs_within size i w c.requires.pixels lt in
    put_inside picture new at count i (omega arith) new_long (omega arith)
    ∙ tabled (runs size row) (length row) i new c.make_runs.ensures (omega arith)
    ∙ get_or-take count (drop at picture) byte 0 (omega arith)
    ∙ get_or-drop at picture byte 0
    ∙ ap (λ j. get_or picture j 0) (omega arith)

pub returns-else-y-size-eq0-clause-next : goal.returns-else-y-size-eq0-clause-next
returns-else-y-size-eq0-clause-next c = λ more i lt.
    let picture = c.args.picture.now in let w = c.args.row_bytes in let y = c.args.y in let at : ℕ = y * w in
    let parts = c.split_at_mut-done in let done = parts.result.0.now in let rest = parts.result.1.now in let copied = c.copy_from_slice.new.self in
    let before : ℕ = y - 1 in
    let row : before + 1 ≡ y = next_row y c.args.size c.requires.some more in
    let all : (before + 1) * w ≡ at = ap (λ n. n * w) row in
    let rows : before * w + w ≡ at = omega (arith, all) in
    let copied_long : length copied ≡ w = omega (arith, length-take w rest, c.copy_from_slice.ensures.len, parts.ensures.back_len) in
    let from : at - w + i ≡ before * w + i = omega arith in
    get_or-append_right done (copied ++ drop w rest) at (at + i) 0 parts.ensures.front_len (omega arith)
    ∙ ap (λ j. get_or (copied ++ drop w rest) j 0) (omega arith)
    ∙ get_or_append_left copied (drop w rest) 0 i (omega arith)
    ∙ ap (λ l. get_or l i 0) c.copy_from_slice.ensures.after
    ∙ get_or-take (length done - (at - w)) (drop (at - w) done) i 0 (omega (arith, parts.ensures.front_len))
    ∙ get_or-drop (at - w) done i 0
    ∙ ap (λ l. get_or l (at - w + i) 0) parts.ensures.front
    ∙ get_or-take at picture (at - w + i) 0 (omega arith)
    ∙ ap (λ j. get_or picture j 0) from

pub returns-else-y-size-eq0-clause-behind : goal.returns-else-y-size-eq0-clause-behind
returns-else-y-size-eq0-clause-behind c = λ k le.
    let picture = c.args.picture.now in let w = c.args.row_bytes in let at : ℕ = c.args.y * w in
    let parts = c.split_at_mut-done in let done = parts.result.0.now in let rest = parts.result.1.now in let copied = c.copy_from_slice.new.self in
    let copied_long : length copied ≡ w = omega (arith, length-take w rest, c.copy_from_slice.ensures.len, parts.ensures.back_len) in
    get_or-append_right done (copied ++ drop w rest) at k 0 parts.ensures.front_len (omega arith)
    ∙ get_or-append_right copied (drop w rest) w (k - at) 0 (omega arith) (omega arith)
    ∙ get_or-drop w rest (k - at - w) 0
    ∙ ap (λ l. get_or l (w + (k - at - w)) 0) parts.ensures.back
    ∙ get_or-drop at picture (w + (k - at - w)) 0
    ∙ ap (λ j. get_or picture j 0) (omega arith)
