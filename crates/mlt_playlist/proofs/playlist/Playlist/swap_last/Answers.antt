use Rattle.std.proofs.Common.{◌≡◌, ◌+◌, ◌-◌, [], ◌∷◌, length, map, Ok, sym, ap, subst, ◌∙◌, arith}
use Rattle.mlt_tree.specs.Edits as edit
use Rattle.mlt_tree.specs.Edits.{replaced}
use Rattle.mlt_tree.specs.Ranges.{frames}
use Rattle.mlt_playlist.specs.Place.{entry_at}
use Rattle.mlt_playlist.proofs.Moves.{swap_done}
use Rattle.mlt_playlist.proofs.playlist.Playlist.swap_last.Goals as goal

pub invariant_of-self : goal.invariant_of-self
invariant_of-self c =
    let es = c.self.inside.entries.items in let at = c.count-count.result - 2 in
    let long = ap length c.self.view_is in
    let same : at ≡ length es - 2 = omega arith in
    let done = swap_done es c.swap.new.self.items at (c.count-count.result - 1) c.self.invariant.list (omega arith) (omega arith) (omega arith) c.swap.ensures.items in
    record {
      list = done.list;
      starts = c.swap_starts.ensures ∙ ap (λ l. map frames (replaced l at 2 (entry_at l (at + 1) ∷ entry_at l at ∷ []))) c.deref.ensures.value ∙ ap (λ k. map frames (replaced es k 2 (entry_at es (k + 1) ∷ entry_at es k ∷ []))) same ∙ ap (map frames) (sym done.is);
    }

pub returns : goal.returns
returns c =
    let es = c.self.inside.entries.items in
    let long = ap length c.self.view_is in
    let done = swap_done es c.swap.new.self.items (c.count-count.result - 2) (c.count-count.result - 1) c.self.invariant.list (omega arith) (omega arith) (omega arith) c.swap.ensures.items in
    subst (λ list. edit.swap_last list ≡ Ok (tt {0}, c.swap.new.self.items)) c.self.view_is done.does
