use Rattle.std.proofs.Common.{arith, ◌∙◌}
use Rattle.mlt_host.proofs.Streams.{reads_more}
use Rattle.mlt_host.proofs.disk_file.read_whole.Goals as goal

pub loop-bytes-preserved : goal.loop-bytes-preserved
loop-bytes-preserved g c =
    let read = c.in-Ok-read_more in
    record {
      within = read.ensures.fits;
      below = omega arith;
      read = reads_more _ _ _ c.loop-bytes.bytes.items c.read_more.new.bytes.items c.loop-bytes.filled read.count read.ensures.front c.loop-bytes.invariant.read read.ensures.read;
      failures = read.ensures.count ∙ c.loop-bytes.invariant.failures;
    }
