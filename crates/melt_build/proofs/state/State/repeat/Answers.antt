use Rattle.std.proofs.Common.{◌≡◌, ◌∙◌, List, length, Ok, OnOk, sym, subst}
use Rattle.mlt_base.specs.Try.{TryGives}
use Rattle.mlt_base.specs.declared.limits.TheConstants.{MOST_ENTRIES}
use Rattle.mlt_tree.specs.Composition.{on_last, edited}
use Rattle.mlt_tree.specs.declared.entry.Entry.{Entry}
use Rattle.mlt_tree.specs.Edits as edit
use Rattle.mlt_tree.specs.Props.{counted}
use Rattle.mlt_playlist.specs.Playlist.{Does}
use Rattle.melt_build.specs.State.{IsComposed, IsKnown, state_view}
use Rattle.melt_build.proofs.Keeps.{keeps_repeat}
use Rattle.melt_build.proofs.Tracks.{changed, last_gives, stays_composed, repeat_is}
use Rattle.melt_build.proofs.state.State.repeat.Goals as goal

pub returns-clause-value : goal.returns-clause-value
returns-clause-value c =
    let s = c.args.self.now in let g = c.args.group.now in let k = c.in_ok-n.n in let last = c.in-Some.last in
    let es : List Entry = s.level.current.entries in let new : List Entry = c.repeat_clip.new.self in
    let does : Does (edit.repeat_clip last k es) es new c.repeat_clip.result = subst (λ es. Does (edit.repeat_clip last k es) es new c.repeat_clip.result) c.last.ensures.list c.repeat_clip.ensures in
    let is = subst (λ a. Ok k ≡ counted 1 MOST_ENTRIES g.place a) c.as_str.ensures (sym c.in_ok-n.was ∙ c.at_place.ensures ∙ c.counted.ensures.value g.place) in
    subst (TryGives (λ x. state_view (changed s new)) c.edited.result) (sym (repeat_is (state_view s) g k is)) (subst (λ r. TryGives (λ x. state_view (changed s new)) r (on_last (state_view s) g (λ last. edited (state_view s) g (edit.repeat_clip last k es)))) (sym c.edited.ensures) (last_gives s g (λ last. edit.repeat_clip last k es) last new c.repeat_clip.result c.requires c.in-Some.ensures does))

pub returns-clause-composed : goal.returns-clause-composed
returns-clause-composed c =
    let s = c.args.self.now in let g = c.args.group.now in let k = c.in_ok-n.n in let last = c.in-Some.last in
    let es : List Entry = s.level.current.entries in let new : List Entry = c.repeat_clip.new.self in
    let does : Does (edit.repeat_clip last k es) es new c.repeat_clip.result = subst (λ es. Does (edit.repeat_clip last k es) es new c.repeat_clip.result) c.last.ensures.list c.repeat_clip.ensures in
    subst (λ r. OnOk r (IsComposed (changed s new))) (sym c.edited.ensures) (stays_composed s g.place (edit.repeat_clip last k es) new c.repeat_clip.result c.requires does (λ x done. keeps_repeat (IsKnown (length s.made.graph)) last k es new x c.requires.level.current done))
