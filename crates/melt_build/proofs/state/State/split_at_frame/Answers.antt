use Rattle.std.proofs.Common.{List, length, w64, OnOk, sym, subst}
use Rattle.std.proofs.lemmas.Int.{to_z-of_z}
use Rattle.mlt_base.specs.Try.{TryGives}
use Rattle.mlt_tree.specs.Composition.{split_at_frame}
use Rattle.mlt_tree.specs.declared.entry.Entry.{Entry}
use Rattle.mlt_tree.specs.Edits as edit
use Rattle.mlt_playlist.specs.Playlist.{Does}
use Rattle.melt_build.specs.State.{IsComposed, IsKnown, state_view}
use Rattle.melt_build.proofs.Keeps.{keeps_split, cut_known}
use Rattle.melt_build.proofs.Tracks.{changed, last_gives, stays_composed}
use Rattle.melt_build.proofs.state.State.split_at_frame.Goals as goal

pub returns-clause-value : goal.returns-clause-value
returns-clause-value c =
    let s = c.args.self.now in let g = c.args.group.now in let k = c.args.k in let last = c.in-Some.last in
    let es : List Entry = s.level.current.entries in let new : List Entry = c.split.new.self in
    let does : Does (edit.split last k es) es new c.split.result = subst (λ es. Does (edit.split last k es) es new c.split.result) c.last.ensures.list (rw (to_z-of_z w64 k c.ranges.k) at c.split.ensures) in
    subst (λ r. TryGives (λ x. state_view (changed s new)) r (split_at_frame (state_view s) g k)) (sym c.edited.ensures) (last_gives s g (λ last. edit.split last k es) last new c.split.result c.requires c.in-Some.ensures does)

pub returns-clause-composed : goal.returns-clause-composed
returns-clause-composed c =
    let s = c.args.self.now in let g = c.args.group.now in let k = c.args.k in let last = c.in-Some.last in
    let es : List Entry = s.level.current.entries in let new : List Entry = c.split.new.self in
    let does : Does (edit.split last k es) es new c.split.result = subst (λ es. Does (edit.split last k es) es new c.split.result) c.last.ensures.list (rw (to_z-of_z w64 k c.ranges.k) at c.split.ensures) in
    subst (λ r. OnOk r (IsComposed (changed s new))) (sym c.edited.ensures) (stays_composed s g.place (edit.split last k es) new c.split.result c.requires does (λ x done. keeps_split (IsKnown (length s.made.graph)) (cut_known (length s.made.graph)) last k es new x c.requires.level.current done))
