use Rattle.std.proofs.Common.{◌+◌, ◌∙◌, ap, arith}
use Rattle.mlt_tree.specs.Edits.{replaced}
use Rattle.mlt_playlist.proofs.Repeated.{repeat-does}
use Rattle.mlt_playlist.proofs.playlist.Playlist.repeat_clip.Goals as goal

pub returns-in-Ok : goal.returns-in-Ok
returns-in-Ok c =
    repeat-does c.args.self.now c.self.inside.entries.items c.splice.new.self c.in_ok-more.more.items c.args.at c.args.n c.in_ok-fits.field-0 c.index.result.now c.self.view_is (omega arith) c.index.ensures c.requires c.in_ok-more.ensures (rw c.deref.ensures.value at c.in_ok-fits.ensures.tested) (c.in-Ok.ensures.list ∙ ap (replaced c.args.self.now (c.args.at + 1) 0) c.from_vec.ensures)
