use Rattle.std.proofs.Common.{length, ap, arith}
use Rattle.mlt_playlist.proofs.MergedStarts.{merged-left, without-are, without-left}
use Rattle.mlt_playlist.proofs.Merging.{length-without}
use Rattle.mlt_playlist.proofs.playlist.Playlist.consolidate_blanks.Goals as goal

pub overflow_sub-count : goal.overflow_sub-count
overflow_sub-count c =
    omega (arith, ap length c.drop_last_gap.ensures, length-without c.merge.new.entries.items)

pub exchange_starts-requires-clause-range : goal.exchange_starts-requires-clause-range
exchange_starts-requires-clause-range c =
    let all = merged-left c.self.inside.entries.items c.deref.result.now c.merge.new.entries.items c.merge_starts.new.starts c.self.invariant.list c.deref.ensures.value c.merge.ensures c.merge_starts.ensures in
    (without-are c.merge.new.entries.items c.drop_last_gap.new.entries.items c.merge_starts.new.starts c.len-left.result _ all c.drop_last_gap.ensures (omega arith) (omega arith)).range

pub exchange_starts-requires-clause-short : goal.exchange_starts-requires-clause-short
exchange_starts-requires-clause-short c =
    let all = merged-left c.self.inside.entries.items c.deref.result.now c.merge.new.entries.items c.merge_starts.new.starts c.self.invariant.list c.deref.ensures.value c.merge.ensures c.merge_starts.ensures in
    (without-are c.merge.new.entries.items c.drop_last_gap.new.entries.items c.merge_starts.new.starts c.len-left.result _ all c.drop_last_gap.ensures (omega arith) (omega arith)).short

pub invariant_of-self : goal.invariant_of-self
invariant_of-self c =
    let all = merged-left c.self.inside.entries.items c.deref.result.now c.merge.new.entries.items c.merge_starts.new.starts c.self.invariant.list c.deref.ensures.value c.merge.ensures c.merge_starts.ensures in
    without-left c.merge.new.entries.items c.drop_last_gap.new.entries.items c.merge_starts.new.starts c.exchange_starts.new.starts c.len-left.result _ all c.drop_last_gap.ensures (omega arith) (omega arith) c.exchange_starts.ensures

pub invariant_of-self-else-not-keep : goal.invariant_of-self-else-not-keep
invariant_of-self-else-not-keep c =
    merged-left c.self.inside.entries.items c.deref.result.now c.merge.new.entries.items c.merge_starts.new.starts c.self.invariant.list c.deref.ensures.value c.merge.ensures c.merge_starts.ensures
