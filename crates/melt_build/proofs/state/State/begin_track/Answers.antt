use Rattle.std.proofs.Common.{length, Ok, sym, ap, ◌∙◌}
use Rattle.std.proofs.lemmas.Result.{err_from_is_err_and}
use Rattle.mlt_tree.specs.declared.tree.Hide.{Hide}
use Rattle.mlt_tree.specs.Units.{new_track}
use Rattle.melt_build.specs.State.{state_view}
use Rattle.melt_build.proofs.Tracks.{begun, track_fails, track_done, track_known, track_plants}
use Rattle.melt_build.proofs.state.State.begin_track.Goals as goal

pub returns-in_err-edited-clause-value : goal.returns-in_err-edited-clause-value
returns-in_err-edited-clause-value c =
    let s = c.args.self.now in
    let p = err_from_is_err_and c.from_residual.result c.from_residual.ensures.1 in
    rw (p.1, p.2) (track_fails c.args.video c.args.audio (state_view s) c.args.group.now c.new_track.new.self c.new_track.result c.in_err-edited.field-0.0 (sym c.edited.ensures ∙ c.in_err-edited.was) c.new_track.ensures)

pub returns-clause-value : goal.returns-clause-value
returns-clause-value c =
    let s = c.args.self.now in let new = c.new_track.new.self in let hide : Hide = record { video = c.args.video; audio = c.args.audio } in
    let done = track_done c.args.group.now.place (new_track s.level hide) s.level new c.new_track.result c.in_ok-edited.field-0 (sym c.edited.ensures ∙ c.in_ok-edited.was) c.new_track.ensures in
    begun c.args.video c.args.audio (state_view s) c.args.group.now new done ∙ ap (λ mix. Ok (record (state_view s) { level = new; last_mix = mix })) (sym c.mix_kept-mix.ensures.value)

pub returns-clause-composed : goal.returns-clause-composed
returns-clause-composed c =
    let s = c.args.self.now in let new = c.new_track.new.self in let hide : Hide = record { video = c.args.video; audio = c.args.audio } in
    let done = track_done c.args.group.now.place (new_track s.level hide) s.level new c.new_track.result c.in_ok-edited.field-0 (sym c.edited.ensures ∙ c.in_ok-edited.was) c.new_track.ensures in
    record {
      made = c.requires.made;
      level = track_known _ s.made.table s.level new hide c.requires.level done;
      mix = c.mix_kept-mix.ensures.mix;
      placed = c.requires.placed ∙ ap length (sym (track_plants s.level new hide done));
    }
