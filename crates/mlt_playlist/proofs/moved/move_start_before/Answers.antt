use Rattle.std.proofs.Common.{◌≡◌, ◌+◌, ◌-◌, [], ◌∷◌, map, ap, subst, ◌∙◌, arith}
use Rattle.mlt_tree.specs.Ranges.{frames}
use Rattle.mlt_playlist.specs.Changed.{moved}
use Rattle.mlt_playlist.specs.Playlist.{IsIndexed}
use Rattle.mlt_playlist.proofs.MovedStarts.{before_left, before_numbers, indexed-start}
use Rattle.mlt_playlist.proofs.moved.move_start_before.Goals as goal

pub loop-index-init : goal.loop-index-init
loop-index-init c = record {
  within = omega arith;
  ahead = omega arith;
  indexed = indexed-start c.args.entries.now c.args.from c.index-entries-from.result c.args.starts.now (omega arith) c.index-entries-from.is c.requires.indexed;
}

pub exchange_starts-requires-clause-short : goal.exchange_starts-requires-clause-short
exchange_starts-requires-clause-short c =
    let m = c.index-entries-from in let x = c.index-entries-index in let k = c.loop-index.index - 1 in
    let given : c.frames_of-frames.result ∷ c.frames_of-passed.result ∷ [] ≡ map frames (m.result ∷ x.result ∷ []) = ap (λ n. n ∷ c.frames_of-passed.result ∷ []) c.frames_of-frames.ensures.value ∙ ap (λ n. frames m.result ∷ n ∷ []) c.frames_of-passed.ensures.value in
    let next : c.loop-index.index ≡ k + 1 = omega arith in
    let indexed = subst (λ i. IsIndexed (moved c.args.entries.now c.args.from i) c.loop-index.starts) next c.loop-index.invariant.indexed in
    (before_numbers c.args.entries.now c.args.from k m.result x.result c.loop-index.starts _ c.requires.indexed.list (omega arith) m.is (omega arith) x.is indexed given).short

pub loop-index-preserved : goal.loop-index-preserved
loop-index-preserved c =
    let m = c.index-entries-from in let x = c.index-entries-index in let k = c.loop-index.index - 1 in
    let given : c.frames_of-frames.result ∷ c.frames_of-passed.result ∷ [] ≡ map frames (m.result ∷ x.result ∷ []) = ap (λ n. n ∷ c.frames_of-passed.result ∷ []) c.frames_of-frames.ensures.value ∙ ap (λ n. frames m.result ∷ n ∷ []) c.frames_of-passed.ensures.value in
    let next : c.loop-index.index ≡ k + 1 = omega arith in
    let indexed = subst (λ i. IsIndexed (moved c.args.entries.now c.args.from i) c.loop-index.starts) next c.loop-index.invariant.indexed in
    record {
      within = omega arith;
      ahead = omega arith;
      indexed = before_left c.args.entries.now c.args.from k m.result x.result c.loop-index.starts _ c.requires.indexed.list (omega arith) m.is (omega arith) x.is indexed c.exchange_starts.new.starts given c.exchange_starts.ensures;
    }
