use Rattle.std.proofs.Common.{rules, ◌≡◌, ◌<◌, length, get_or}
use Rattle.std.proofs.lemmas.List.{get_or_default}
use Rattle.mlt_frame.specs.declared.op.Op.{Op}
use Rattle.mlt_frame.specs.declared.op.Op.TheVariants.{Load}
use Rattle.mlt_frame.specs.Loads.{load, map}
use Rattle.mlt_frame.proofs.Named.{IsThere}
use Rattle.melt_run.proofs.Named.{sources-at}
use Rattle.melt_run.proofs.position.keep.Goals as goal

pub keep_one-requires-clause-there : goal.keep_one-requires-clause-there
keep_one-requires-clause-there c =
    let table = c.args.table.now in let ops = c.args.ops.now in let i = c.loop-op.op-index in
    let none : Op = Load (record { 0 = 0 }) (record { 0 = 0 }) in
    let op = get_or ops i none in
    let below : i < length ops = search rules in
    let is : op ≡ get_or ops i op = get_or_default ops i none op below in
    let there = sources-at (IsThere table) load ops i op below is c.requires.there in
    let maps = sources-at (IsThere table) map ops i op below is c.requires.maps in
    rw c.in-Some.is at c.source_of.ensures (length table) there maps
