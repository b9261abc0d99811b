use Rattle.std.proofs.Common.{◌≡◌, [], ◌∷◌, map, ap, ◌∙◌, arith}
use Rattle.mlt_tree.specs.Ranges.{frames}
use Rattle.mlt_playlist.proofs.MovedStarts.{behind_left, behind_numbers, indexed-start}
use Rattle.mlt_playlist.proofs.moved.move_start_behind.Goals as goal

pub loop-index-init : goal.loop-index-init
loop-index-init c =
    indexed-start c.args.entries.now c.args.from c.index-entries-from.result c.args.starts.now (omega arith) c.index-entries-from.is c.requires.indexed

pub exchange_starts-requires-clause-short : goal.exchange_starts-requires-clause-short
exchange_starts-requires-clause-short c =
    let m = c.index-entries-from in let x = c.index-entries-index in
    let given : c.frames_of-next.result ∷ c.frames_of-frames.result ∷ [] ≡ map frames (x.result ∷ m.result ∷ []) = ap (λ n. n ∷ c.frames_of-frames.result ∷ []) c.frames_of-next.ensures.value ∙ ap (λ n. frames x.result ∷ n ∷ []) c.frames_of-frames.ensures.value in
    (behind_numbers c.args.entries.now c.args.from c.loop-index.index m.result x.result c.loop-index.starts _ c.requires.indexed.list (omega arith) m.is (omega arith) (omega arith) x.is c.loop-index.invariant given).short

pub loop-index-preserved : goal.loop-index-preserved
loop-index-preserved c =
    let m = c.index-entries-from in let x = c.index-entries-index in
    let given : c.frames_of-next.result ∷ c.frames_of-frames.result ∷ [] ≡ map frames (x.result ∷ m.result ∷ []) = ap (λ n. n ∷ c.frames_of-frames.result ∷ []) c.frames_of-next.ensures.value ∙ ap (λ n. frames x.result ∷ n ∷ []) c.frames_of-frames.ensures.value in
    behind_left c.args.entries.now c.args.from c.loop-index.index m.result x.result c.loop-index.starts _ c.requires.indexed.list (omega arith) m.is (omega arith) (omega arith) x.is c.loop-index.invariant c.exchange_starts.new.starts given c.exchange_starts.ensures
