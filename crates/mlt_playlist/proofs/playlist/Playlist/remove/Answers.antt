use Rattle.std.proofs.Common.{◌≡◌, ◌<◌, [], length, map, Ok, refl, sym, ap, subst, ◌∙◌, arith}
use Rattle.mlt_tree.specs.Edits as edit
use Rattle.mlt_tree.specs.Edits.{frames_in, replaced}
use Rattle.mlt_tree.specs.Ranges.{IsEntry, frames}
use Rattle.std.proofs.lemmas.List.Elements.{All-nil}
use Rattle.mlt_playlist.specs.Playlist.{IsList}
use Rattle.mlt_playlist.proofs.Indexed.{all-counted, numbers_of}
use Rattle.mlt_playlist.proofs.Found.{with_entry-there, remove-replaced, counted-removed}
use Rattle.mlt_playlist.proofs.playlist.Playlist.remove.Goals as goal

pub exchange_starts-requires-clause-short : goal.exchange_starts-requires-clause-short
exchange_starts-requires-clause-short c =
    let es = c.self.inside.entries.items in
    let inside : c.args.at < length es = omega (arith, ap length c.self.view_is) in
    let list = (counted-removed es c.args.at c.remove-entry.result (frames_in es) (all-counted es c.self.invariant.list) inside c.remove-entry.ensures.value).list in
    (numbers_of es c.self.inside.starts c.args.at 1 [] [] c.self.invariant.starts (omega arith) (All-nil IsEntry) list.short refl).short

pub invariant_of-self : goal.invariant_of-self
invariant_of-self c =
    let es = c.self.inside.entries.items in
    let inside : c.args.at < length es = omega (arith, ap length c.self.view_is) in
    let list = (counted-removed es c.args.at c.remove-entry.result (frames_in es) (all-counted es c.self.invariant.list) inside c.remove-entry.ensures.value).list in
    let items = c.remove-entry.ensures.items ∙ remove-replaced es c.args.at in
    record {
      list = subst IsList (sym items) list;
      starts = c.exchange_starts.ensures ∙ (numbers_of es c.self.inside.starts c.args.at 1 [] [] c.self.invariant.starts (omega arith) (All-nil IsEntry) list.short refl).are ∙ ap (map frames) (sym items);
    }

pub returns : goal.returns
returns c =
    let es = c.self.inside.entries.items in let e = c.remove-entry.result in
    let inside : c.args.at < length es = omega (arith, ap length c.self.view_is) in
    subst (λ list. edit.remove c.args.at list ≡ Ok (e, c.remove-entry.new.self.items)) c.self.view_is (with_entry-there es c.args.at (λ x. Ok (x, replaced es c.args.at 1 [])) e inside c.remove-entry.ensures.value ∙ ap (λ list. Ok (e, list)) (sym (c.remove-entry.ensures.items ∙ remove-replaced es c.args.at)))
