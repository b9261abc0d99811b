use Rattle.std.proofs.Common.{◌≡◌, List, Ok, map, refl, sym, ap, subst, ◌∙◌, rules, arith}
use Rattle.mlt_tree.specs.declared.entry.Entry.{Entry}
use Rattle.mlt_tree.specs.Edits as edit
use Rattle.mlt_playlist.specs.Parts.{mixed_view}
use Rattle.mlt_playlist.proofs.Mixes.{mix-few, mixed, mixed-list}
use Rattle.mlt_playlist.proofs.Indexed.{all-counted}
use Rattle.mlt_tree.specs.Edits.{frames_in}
use Rattle.mlt_tree.specs.Ranges.{frames}
use Rattle.mlt_playlist.proofs.playlist.Playlist.mix.Goals as goal

pub returns-then-saturating_sub-lt2 : goal.returns-then-saturating_sub-lt2
returns-then-saturating_sub-lt2 c =
    (mix-few c.args.self.now c.self.inside.entries.items c.len-count.result c.args.at c.args.n c.args.unit.0 c.too_few.result c.self.view_is (search rules) (omega arith) c.too_few.ensures, refl)

pub invariant_of-self-2 : goal.invariant_of-self-2
invariant_of-self-2 c =
    let es = c.self.inside.entries.items in
    record {
      list = (mixed c.self.inside.entries.items c.overlap.new.entries.items c.args.at c.args.n c.share-shared.result c.args.unit.0 (frames_in c.self.inside.entries.items) c.in_ok-fits.field-0 (mixed_view c.in_ok-parts.parts) c.whole-clip.result (all-counted c.self.inside.entries.items c.self.invariant.list) (search rules) c.requires (rw c.deref.ensures.value at c.share-shared.ensures) (rw c.deref-2.ensures.value at c.in_ok-fits.ensures.tested) c.whole-clip.ensures c.in_ok-parts.ensures.list c.in_ok-parts.ensures.parts).counted.list;
      starts = c.in_ok-parts.ensures.starts c.args.unit.0 ∙ ap (map frames) (sym (mixed-list es c.overlap.new.entries.items c.args.at c.share-shared.result c.args.unit.0 c.whole-clip.result c.whole-clip.ensures c.in_ok-parts.ensures.list));
    }

pub returns : goal.returns
returns c =
    subst (λ (es : List Entry). edit.mix c.args.at c.args.n c.args.unit.0 es ≡ Ok (mixed_view c.in_ok-parts.parts, c.overlap.new.entries.items)) c.self.view_is ((mixed c.self.inside.entries.items c.overlap.new.entries.items c.args.at c.args.n c.share-shared.result c.args.unit.0 (frames_in c.self.inside.entries.items) c.in_ok-fits.field-0 (mixed_view c.in_ok-parts.parts) c.whole-clip.result (all-counted c.self.inside.entries.items c.self.invariant.list) (search rules) c.requires (rw c.deref.ensures.value at c.share-shared.ensures) (rw c.deref-2.ensures.value at c.in_ok-fits.ensures.tested) c.whole-clip.ensures c.in_ok-parts.ensures.list c.in_ok-parts.ensures.parts).does)
