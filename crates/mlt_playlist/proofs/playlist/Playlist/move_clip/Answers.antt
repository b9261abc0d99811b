use Rattle.std.proofs.Common.{◌≡◌, length, Ok, sym, ap, subst, ◌∙◌, arith}
use Rattle.mlt_tree.specs.Edits as edit
use Rattle.mlt_playlist.proofs.Moves.{move_clip-is}
use Rattle.mlt_playlist.specs.Changed.{moved}
use Rattle.mlt_playlist.specs.Playlist.{IsIndexed}
use Rattle.mlt_playlist.proofs.playlist.Playlist.move_clip.Goals as goal

pub invariant_of-self : goal.invariant_of-self
invariant_of-self c =
    rw c.move_entry.ensures (subst (λ l. IsIndexed (moved l c.args.from c.args.to) c.move_start.new.starts) c.deref.ensures.value c.move_start.ensures)

pub returns : goal.returns
returns c =
    let es = c.self.inside.entries.items in
    let long = ap length c.self.view_is in
    subst (λ list. edit.move_clip c.args.from c.args.to list ≡ Ok (tt {0}, c.move_entry.new.entries.items)) c.self.view_is (move_clip-is es c.args.from c.args.to (omega arith) (omega arith) ∙ ap (λ list. Ok (tt {0}, list)) (sym c.move_entry.ensures))
