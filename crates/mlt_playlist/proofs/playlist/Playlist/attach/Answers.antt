use Rattle.std.proofs.Common.{◌≡◌, set, Ok, ap, subst, ◌∙◌}
use Rattle.mlt_tree.specs.Edits as edit
use Rattle.mlt_tree.specs.Edits.{frames_in}
use Rattle.mlt_tree.specs.Ranges.{frames}
use Rattle.mlt_playlist.proofs.Changes.{attach_done, frames-with_filter}
use Rattle.mlt_playlist.proofs.Indexed.{all-counted, same-starts}
use Rattle.mlt_playlist.proofs.playlist.Playlist.attach.Goals as goal

pub invariant_of-self-2 : goal.invariant_of-self-2
invariant_of-self-2 c =
    let es = c.self.inside.entries.items in
    let got = rw c.deref.ensures.value at c.in-Some-Clip.ensures.lookup in
    let done = attach_done es c.args.at c.in-Some-Clip.field-0.now c.index_mut.result.now c.push_filter.new.entry c.args.filter (frames_in es) _ _ _ (all-counted es c.self.invariant.list) c.requires got.3.0 got.1 c.in-Some-Clip.field-0-is c.index_mut.ensures.value c.in_ok-push_filter.ensures.ok in
    record {
      list = done.counted.list;
      starts = same-starts es c.self.inside.starts c.args.at c.index_mut.result.now c.push_filter.new.entry c.self.invariant.starts got.3.0 c.index_mut.ensures.value (ap frames c.in_ok-push_filter.ensures.ok ∙ frames-with_filter c.index_mut.result.now c.args.filter);
    }

pub returns : goal.returns
returns c =
    let es = c.self.inside.entries.items in
    let got = rw c.deref.ensures.value at c.in-Some-Clip.ensures.lookup in
    let done = attach_done es c.args.at c.in-Some-Clip.field-0.now c.index_mut.result.now c.push_filter.new.entry c.args.filter (frames_in es) _ _ _ (all-counted es c.self.invariant.list) c.requires got.3.0 got.1 c.in-Some-Clip.field-0-is c.index_mut.ensures.value c.in_ok-push_filter.ensures.ok in
    subst (λ list. edit.attach c.args.at c.args.filter list ≡ Ok (tt {0}, set es c.args.at c.push_filter.new.entry)) c.self.view_is done.does
