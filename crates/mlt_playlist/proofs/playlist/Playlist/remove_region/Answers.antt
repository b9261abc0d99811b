use Rattle.std.proofs.Common.{map, refl, sym, ap, ◌∙◌, arith}
use Rattle.mlt_tree.specs.Edits.{frames_in}
use Rattle.mlt_tree.specs.Ranges.{frames}
use Rattle.mlt_playlist.specs.Place.{without_part}
use Rattle.mlt_playlist.proofs.CutOut.{region_order, removed}
use Rattle.mlt_playlist.proofs.Indexed.{all-counted}
use Rattle.mlt_playlist.proofs.playlist.Playlist.remove_region.Goals as goal

pub cut_starts-requires-clause-order : goal.cut_starts-requires-clause-order
cut_starts-requires-clause-order c =
    region_order c.args.self.now c.args.at c.args.n c.place-from.result.0 c.place-to.result.0 c.place-from.result.1 c.place-to.result.1 c.if-n-eq0.false c.place-from.ensures.at c.place-to.ensures.at c.else-from-to.either

pub cut_starts-requires-clause-short : goal.cut_starts-requires-clause-short
cut_starts-requires-clause-short c =
    let left = without_part c.self.inside.entries.items c.place-from.result.0 c.place-from.result.1 c.place-to.result.0 c.place-to.result.1 in
    rw c.deref.ensures.value (removed c.args.self.now c.self.inside.entries.items left (frames_in c.self.inside.entries.items) c.args.at c.args.n c.place-from.result.0 c.place-to.result.0 c.place-from.result.1 c.place-to.result.1 (all-counted c.self.inside.entries.items c.self.invariant.list) c.self.view_is c.if-n-eq0.false (omega (arith, ap frames_in c.self.view_is)) c.place-from.ensures.at c.place-to.ensures.at c.else-from-to.either refl).counted.list.short

pub cut_out-requires-clause-order : goal.cut_out-requires-clause-order
cut_out-requires-clause-order c =
    region_order c.args.self.now c.args.at c.args.n c.place-from.result.0 c.place-to.result.0 c.place-from.result.1 c.place-to.result.1 c.if-n-eq0.false c.place-from.ensures.at c.place-to.ensures.at c.else-from-to.either

pub invariant_of-self : goal.invariant_of-self
invariant_of-self c =
    record {
      list = (removed c.args.self.now c.self.inside.entries.items c.cut_out.new.entries.items (frames_in c.self.inside.entries.items) c.args.at c.args.n c.place-from.result.0 c.place-to.result.0 c.place-from.result.1 c.place-to.result.1 (all-counted c.self.inside.entries.items c.self.invariant.list) c.self.view_is c.if-n-eq0.false (omega (arith, ap frames_in c.self.view_is)) c.place-from.ensures.at c.place-to.ensures.at c.else-from-to.either c.cut_out.ensures).counted.list;
      starts = c.cut_starts.ensures ∙ ap (λ l. map frames (without_part l c.place-from.result.0 c.place-from.result.1 c.place-to.result.0 c.place-to.result.1)) c.deref.ensures.value ∙ ap (map frames) (sym c.cut_out.ensures);
    }

pub returns : goal.returns
returns c =
    (removed c.args.self.now c.self.inside.entries.items c.cut_out.new.entries.items (frames_in c.self.inside.entries.items) c.args.at c.args.n c.place-from.result.0 c.place-to.result.0 c.place-from.result.1 c.place-to.result.1 (all-counted c.self.inside.entries.items c.self.invariant.list) c.self.view_is c.if-n-eq0.false (omega (arith, ap frames_in c.self.view_is)) c.place-from.ensures.at c.place-to.ensures.at c.else-from-to.either c.cut_out.ensures).edit
