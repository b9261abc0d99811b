use Rattle.std.proofs.Common.{rules, ◌≡◌, ◌+◌, ◌-◌, List, length, OnOk, refl, sym, ap, ◌∙◌, subst, arith}
use Rattle.std.proofs.lemmas.Result.{err_from_is_err_and}
use Rattle.mlt_base.specs.Try.{TryGives}
use Rattle.mlt_tree.specs.declared.entry.Entry.{Entry}
use Rattle.mlt_tree.specs.Attaching.{attached_from}
use Rattle.mlt_tree.specs.Composition.{edited}
use Rattle.mlt_tree.specs.Edits as edit
use Rattle.mlt_playlist.specs.Playlist.{Does}
use Rattle.melt_build.specs.Attach.{asked_view}
use Rattle.melt_build.specs.State.{IsComposed, IsKnown, state_view}
use Rattle.melt_build.proofs.Keeps.{keeps_attach, filter_known}
use Rattle.melt_build.proofs.Tracks.{changed, edited_gives, stays_composed}
use Rattle.melt_build.proofs.state.State.attached_to_clip.Goals as goal

pub returns-in_err-clip-clause-value : goal.returns-in_err-clip-clause-value
returns-in_err-clip-clause-value c =
    let s = state_view c.args.self.now in let g = c.args.group.now in let es : List Entry = c.args.self.now.level.current.entries in
    let p = err_from_is_err_and c.from_residual.result c.from_residual.ensures.1 in
    rw (p.1, p.2) (c.in_err-clip.ensures.value g (λ unit span. edited s g (edit.attach (length es - 1) (attached_from span.first.0 (span.last.0 + 1 - span.first.0) (asked_view c.args.asked)) es)) refl)

pub returns-clause-value : goal.returns-clause-value
returns-clause-value c =
    let s = c.args.self.now in let g = c.args.group.now in let clip = c.in_ok-clip.clip in
    let es : List Entry = s.level.current.entries in let new : List Entry = c.attach.new.self in
    let filter = attached_from clip.span.first.0 (clip.span.last.0 + 1 - clip.span.first.0) (asked_view c.args.asked) in
    let at : clip.index ≡ length es - 1 = omega (arith, c.in_ok-clip.ensures.last) in
    let count : c.saturating_sub-frames.result ≡ clip.span.last.0 + 1 - clip.span.first.0 = search rules in
    let is : c.attached_from-filter.result ≡ filter = c.attached_from-filter.ensures.value ∙ ap (λ n. attached_from clip.span.first.0 n (asked_view c.args.asked)) count in
    let done : Does (edit.attach clip.index c.attached_from-filter.result es) es new c.attach.result = subst (λ es. Does (edit.attach clip.index c.attached_from-filter.result es) es new c.attach.result) c.last.ensures.list c.attach.ensures in
    let does : Does (edit.attach (length es - 1) filter es) es new c.attach.result = subst (λ k. Does (edit.attach k filter es) es new c.attach.result) at (subst (λ f. Does (edit.attach clip.index f es) es new c.attach.result) is done) in
    subst (TryGives (λ x. state_view (changed s new)) c.edited.result) (sym (c.in_ok-clip.ensures.value g (λ unit span. edited (state_view s) g (edit.attach (length es - 1) (attached_from span.first.0 (span.last.0 + 1 - span.first.0) (asked_view c.args.asked)) es)) refl)) (subst (λ r. TryGives (λ x. state_view (changed s new)) r (edited (state_view s) g (edit.attach (length es - 1) filter es))) (sym c.edited.ensures) (edited_gives (state_view s) (state_view (changed s new)) g (edit.attach (length es - 1) filter es) es new c.attach.result refl does))

pub returns-clause-composed : goal.returns-clause-composed
returns-clause-composed c =
    let s = c.args.self.now in let g = c.args.group.now in let clip = c.in_ok-clip.clip in
    let es : List Entry = s.level.current.entries in let new : List Entry = c.attach.new.self in
    let filter = c.attached_from-filter.result in
    let does : Does (edit.attach clip.index filter es) es new c.attach.result = subst (λ es. Does (edit.attach clip.index filter es) es new c.attach.result) c.last.ensures.list c.attach.ensures in
    subst (λ r. OnOk r (IsComposed (changed s new))) (sym c.edited.ensures) (stays_composed s g.place (edit.attach clip.index filter es) new c.attach.result c.requires.composed does (λ x done. keeps_attach (IsKnown (length s.made.graph)) (filter_known (length s.made.graph)) clip.index filter es new x c.requires.composed.level.current done))
