use Rattle.std.proofs.Common.{◌≡◌, ◌+◌, [], ◌∷◌, map, ap, ◌∙◌, arith}
use Rattle.std.proofs.lemmas.List.{get_or_read}
use Rattle.mlt_tree.specs.declared.entry.Entry.TheVariants.{Gap}
use Rattle.mlt_tree.specs.Edits.{replaced}
use Rattle.mlt_tree.specs.Ranges.{frames}
use Rattle.mlt_playlist.specs.Place.{entry_at}
use Rattle.mlt_playlist.proofs.MovedStarts.{swapped_numbers}
use Rattle.mlt_playlist.proofs.moved.swap_starts.Goals as goal

pub exchange_starts-requires-clause-short : goal.exchange_starts-requires-clause-short
exchange_starts-requires-clause-short c =
    let a = c.index-entries-at in let b = c.index-entries-at-2 in
    let given : c.frames_of-second.result ∷ c.frames_of-first.result ∷ [] ≡ map frames (b.result ∷ a.result ∷ []) = ap (λ n. n ∷ c.frames_of-first.result ∷ []) c.frames_of-second.ensures.value ∙ ap (λ n. frames b.result ∷ n ∷ []) c.frames_of-first.ensures.value in
    (swapped_numbers c.args.entries.now c.args.starts.now _ c.args.at a.result b.result c.requires.indexed c.requires.there a.is b.is given).short

pub returns : goal.returns
returns c =
    let es = c.args.entries.now in let at = c.args.at in
    let a = c.index-entries-at in let b = c.index-entries-at-2 in
    let given : c.frames_of-second.result ∷ c.frames_of-first.result ∷ [] ≡ map frames (b.result ∷ a.result ∷ []) = ap (λ n. n ∷ c.frames_of-first.result ∷ []) c.frames_of-second.ensures.value ∙ ap (λ n. frames b.result ∷ n ∷ []) c.frames_of-first.ensures.value in
    c.exchange_starts.ensures ∙ (swapped_numbers es c.args.starts.now _ at a.result b.result c.requires.indexed c.requires.there a.is b.is given).are
    ∙ ap (λ x. map frames (replaced es at 2 (x ∷ a.result ∷ []))) (get_or_read es (at + 1) b.result c.requires.there b.is (Gap 0))
    ∙ ap (λ x. map frames (replaced es at 2 (entry_at es (at + 1) ∷ x ∷ []))) (get_or_read es at a.result (omega arith) a.is (Gap 0))
