use Rattle.std.proofs.Common.{[], ◌∷◌, ◌∙◌, ◌+◌, ◌≤◌, Ok, length, map, sym, ap, subst, arith}
use Rattle.mlt_tree.specs.Edits.{frames_in, replaced}
use Rattle.mlt_tree.specs.Ranges.{frames}
use Rattle.mlt_playlist.specs.Playlist.{IsList}
use Rattle.mlt_playlist.proofs.Counts.{All-one}
use Rattle.mlt_playlist.proofs.Indexed.{numbers_of}
use Rattle.mlt_playlist.proofs.Sizes.{inserted-list, inserted-tested}
use Rattle.mlt_playlist.proofs.playlist.Playlist.put_one.Goals as goal

pub invariant_of-self-2 : goal.invariant_of-self-2
invariant_of-self-2 c =
    let es = c.self.inside.entries.items in let entry = c.args.entry in
    let inside : c.args.at ≤ length es = omega (arith, ap length c.self.view_is) in
    let tested = inserted-tested es c.args.at (c.len.result + 1) (c.from.result + c.frames_of-frames.result) entry (Ok c.in_ok-sized.field-0) c.self.invariant.list c.requires.entry inside (omega arith) (omega (arith, ap frames_in c.self.view_is)) c.in_ok-sized.ensures in
    let list = inserted-list es c.args.at c.in_ok-sized.field-0 entry c.self.invariant.list c.requires.entry tested in
    let numbers = numbers_of es c.self.inside.starts c.args.at 0 (entry ∷ []) (c.frames_of-frames.result ∷ []) c.self.invariant.starts (omega arith) (All-one entry c.requires.entry) list.short (ap (λ n. n ∷ []) c.frames_of-frames.ensures.value) in
    let items = c.insert_reserved.ensures.items ∙ ap (λ l. replaced l c.args.at 0 (entry ∷ [])) c.in_ok-reserve.ensures.items in
    record { list = subst IsList (sym items) list; starts = c.in_ok-replace.ensures.list ∙ numbers.are ∙ ap (map frames) (sym items) }
