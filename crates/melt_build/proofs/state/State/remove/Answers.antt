use Rattle.std.proofs.Common.{◌≡◌, ◌∙◌, List, length, Ok, sym, subst}
use Rattle.mlt_tree.specs.declared.entry.Entry.{Entry}
use Rattle.mlt_tree.specs.Edits as edit
use Rattle.melt_build.specs.State.{IsKnown}
use Rattle.melt_build.proofs.Levels.{composed_with}
use Rattle.melt_build.proofs.Tracks.{grouped_done}
use Rattle.melt_build.proofs.Keeps.{keeps_remove}
use Rattle.melt_build.proofs.state.State.remove.Goals as goal

pub returns-clause-composed : goal.returns-clause-composed
returns-clause-composed c =
    let s = c.args.self.now in let new : List Entry = c.remove.new.self in let x = c.in_ok-at_group.field-0 in let last = c.in-Some.last in
    let done = grouped_done c.args.group.now.place (edit.remove last c.last.result.now) c.last.result.now new c.remove.result x (sym c.at_group.ensures ∙ c.in_ok-at_group.was) c.remove.ensures in
    composed_with s new c.requires (keeps_remove (IsKnown (length s.made.graph)) last s.level.current.entries new x c.requires.level.current (subst (λ es. edit.remove last es ≡ Ok (x, new)) c.last.ensures.list done))
