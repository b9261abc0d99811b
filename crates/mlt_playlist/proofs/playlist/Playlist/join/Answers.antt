use Rattle.std.proofs.Common.{rules, arith}
use Rattle.mlt_tree.specs.Edits.{frames_in}
use Rattle.mlt_playlist.proofs.Indexed.{all-counted}
use Rattle.mlt_playlist.proofs.Joined.{joined, joined_short}
use Rattle.mlt_playlist.proofs.playlist.Playlist.join.Goals as goal

pub overflow_cast-frames : goal.overflow_cast-frames
overflow_cast-frames c =
    let all = joined c.self.inside.entries.items c.deref.result.now (frames_in c.self.inside.entries.items) c.args.at c.args.n c.total-frames.result (all-counted c.self.inside.entries.items c.self.invariant.list) c.deref.ensures.value c.if-n-eq0.false (search rules) c.total-frames.ensures.value in
    omega (arith, all.short)

pub whole-requires : goal.whole-requires
whole-requires c = (joined c.self.inside.entries.items c.deref.result.now (frames_in c.self.inside.entries.items) c.args.at c.args.n c.total-frames.result (all-counted c.self.inside.entries.items c.self.invariant.list) c.deref.ensures.value c.if-n-eq0.false (search rules) c.total-frames.ensures.value).some

pub splice-requires-clause-short : goal.splice-requires-clause-short
splice-requires-clause-short c =
    let all = joined c.self.inside.entries.items c.deref.result.now (frames_in c.self.inside.entries.items) c.args.at c.args.n c.total-frames.result (all-counted c.self.inside.entries.items c.self.invariant.list) c.deref.ensures.value c.if-n-eq0.false (search rules) c.total-frames.ensures.value in
    joined_short c.args.self.now c.self.inside.entries.items c.push.new.self.items c.in_ok-new.new.items c.from_vec.result c.args.at c.args.n c.total-frames.result c.args.unit.0 c.whole.result all c.self.view_is c.in_ok-new.ensures.items c.in_ok-push.ensures.items c.from_vec.ensures c.whole.ensures
