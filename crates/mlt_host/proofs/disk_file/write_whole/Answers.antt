use Rattle.std.proofs.Common.{◌≡◌, ◌+◌, ◌≤◌, length, arith, rules}
use Rattle.mlt_host.proofs.Streams.{writes_more, fails, flush_ends}
use Rattle.mlt_host.proofs.disk_file.write_whole.Goals as goal

pub loop-rest-preserved : goal.loop-rest-preserved
loop-rest-preserved g c =
    let (done, split, wrote) = c.loop-rest.invariant.written in
    record {
      written = writes_more _ _ _ c.args.bytes.now done c.loop-rest.rest.now c.in-Ok.count split wrote c.in-Ok.ensures.bytes;
      failures = search rules;
      flushes = search rules;
    }

pub returns-in-Err : goal.returns-in-Err
returns-in-Err g c =
    let (done, split, wrote) = c.loop-rest.invariant.written in
    let start = g.W.Sink.sink c.args.to.now in
    let before = g.W.Sink.sink c.loop-rest.to in
    let after = g.W.Sink.sink c.write.new.self in
    let flushes : after.flushes ≤ before.flushes + 1 = omega (arith, c.in-Err.ensures.flushes) in
    fails c.args.bytes.now done c.loop-rest.rest.now start before after split wrote c.loop-rest.invariant.failures c.loop-rest.invariant.flushes c.in-Err.ensures.bytes c.in-Err.ensures.count flushes

pub returns : goal.returns
returns g c =
    let (done, split, wrote) = c.loop-rest.invariant.written in
    let start = g.W.Sink.sink c.args.to.now in
    let before = g.W.Sink.sink c.loop-rest.to in
    let after = g.W.Sink.sink c.flush.new.self in
    let none : length c.loop-rest.rest.now ≡ 0 = search rules in
    flush_ends c.flush.result c.args.bytes.now done c.loop-rest.rest.now start before after split none wrote c.loop-rest.invariant.failures c.loop-rest.invariant.flushes c.flush.ensures.bytes c.flush.ensures.count c.flush.ensures.flushes c.flush.ensures.flushed
