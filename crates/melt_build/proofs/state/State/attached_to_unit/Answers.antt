use Rattle.std.proofs.Common.{refl, ap, ◌∙◌, sym, Ok}
use Rattle.std.proofs.lemmas.Result.{err_from_is_err_and}
use Rattle.mlt_tree.specs.Attaching.{attached_from, with_unit_changed}
use Rattle.mlt_tree.specs.Tree.{len}
use Rattle.mlt_tree.specs.Units.{tree_of, with_unit_filter}
use Rattle.melt_build.specs.Attach.{asked_view}
use Rattle.melt_build.specs.State.{state_view}
use Rattle.melt_build.proofs.state.State.attached_to_unit.Goals as goal

pub returns-in_err-clip-clause-value : goal.returns-in_err-clip-clause-value
returns-in_err-clip-clause-value c =
    let s = state_view c.args.self.now in
    let p = err_from_is_err_and c.from_residual.result c.from_residual.ensures.1 in
    rw (p.1, p.2) (c.in_err-clip.ensures.value c.args.group.now (λ unit span. Ok (with_unit_changed s unit.0 (attached_from 0 (len (tree_of s.made.units unit.0)) (asked_view c.args.asked)))) refl)

pub returns-clause-value : goal.returns-clause-value
returns-clause-value c =
    let s = state_view c.args.self.now in let unit = c.in_ok-clip.clip.unit.0 in
    let is = ap (λ n. attached_from 0 n (asked_view c.args.asked)) (sym c.length_of-frames.ensures.value) ∙ sym c.attached_from-filter.ensures.value in
    c.in_ok-clip.ensures.value c.args.group.now (λ unit span. Ok (with_unit_changed s unit.0 (attached_from 0 (len (tree_of s.made.units unit.0)) (asked_view c.args.asked)))) refl
    ∙ ap (λ us. Ok (record s { made = record s.made { units = us } })) (ap (with_unit_filter s.made.units unit) is ∙ sym c.in_ok-attach.ensures.ok)
