use Rattle.std.proofs.Common.{◌≡◌, set, Ok, Err, refl, sym, ap, subst, ◌∙◌, arith}
use Rattle.mlt_tree.specs.Edits as edit
use Rattle.mlt_playlist.specs.Playlist.{Does}
use Rattle.mlt_playlist.proofs.Changes.{does_fault, resize_done, resize_long, resized_left, resized_numbers}
use Rattle.mlt_playlist.proofs.Indexed.{counted-length}
use Rattle.mlt_playlist.proofs.playlist.Playlist.resize_clip.Goals as goal

pub returns-in_err-length_of : goal.returns-in_err-length_of
returns-in_err-length_of c =
    let es = c.self.inside.entries.items in
    let got = rw c.deref.ensures.value at c.in-Some.ensures.lookup in
    let counted = counted-length es c.args.self.now c.length.result c.self.invariant.list c.self.view_is c.length.ensures in
    let long = resize_long es c.args.at c.in-Some.entry.now c.args.first c.args.last c.args.length c.length.result _ counted got.3.0 got.1 (cc) (omega arith) c.in_err-length_of.ensures.0 in
    subst (λ list. Does (edit.resize_clip c.args.at c.args.first c.args.last c.args.length list) c.args.self.now c.args.self.now c.from_residual.result) c.self.view_is (does_fault _ c.args.self.now c.in_err-length_of.field-0.0 c.from_residual.result c.from_residual.ensures.1 (long ∙ ap Err (sym c.in_err-length_of.ensures.1)))

pub exchange_starts-requires-clause-short : goal.exchange_starts-requires-clause-short
exchange_starts-requires-clause-short c =
    let es = c.self.inside.entries.items in
    let got = rw c.deref.ensures.value at c.in-Some.ensures.lookup in
    let counted = counted-length es c.args.self.now c.length.result c.self.invariant.list c.self.view_is c.length.ensures in
    (resized_numbers es c.self.inside.starts c.args.at c.in-Some.entry.now c.args.first c.args.last c.args.length c.length.result _ c.self.invariant got.3.0 got.1 (cc) counted.counted (omega arith) c.in_ok-length_of.ensures.0 _ refl).short

pub invariant_of-self : goal.invariant_of-self
invariant_of-self c =
    let es = c.self.inside.entries.items in
    let got = rw c.deref.ensures.value at c.in-Some.ensures.lookup in
    let counted = counted-length es c.args.self.now c.length.result c.self.invariant.list c.self.view_is c.length.ensures in
    resized_left es c.self.inside.starts c.args.at c.in-Some.entry.now c.args.first c.args.last c.args.length c.length.result _ c.self.invariant got.3.0 got.1 (cc) counted.counted (omega arith) c.in_ok-length_of.ensures.0 c.index_mut.result.now c.resize.new.entry _ c.exchange_starts.new.starts c.index_mut.ensures.value c.resize.ensures refl c.exchange_starts.ensures

pub returns : goal.returns
returns c =
    let es = c.self.inside.entries.items in
    let got = rw c.deref.ensures.value at c.in-Some.ensures.lookup in
    let counted = counted-length es c.args.self.now c.length.result c.self.invariant.list c.self.view_is c.length.ensures in
    let done = resize_done es c.args.at c.in-Some.entry.now c.args.first c.args.last c.args.length c.length.result _ c.index_mut.result.now c.resize.new.entry counted got.3.0 got.1 (cc) (omega arith) c.in_ok-length_of.ensures.0 c.index_mut.ensures.value c.resize.ensures in
    subst (λ list. edit.resize_clip c.args.at c.args.first c.args.last c.args.length list ≡ Ok (tt {0}, set es c.args.at c.resize.new.entry)) c.self.view_is done
