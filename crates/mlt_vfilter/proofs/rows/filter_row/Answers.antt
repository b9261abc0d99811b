use Rattle.mlt_vfilter.proofs.Tables.{own_table}
use Rattle.mlt_vfilter.proofs.rows.filter_row.Goals as goal

pub returns-in-Volume : goal.returns-in-Volume
returns-in-Volume c = let is = c.in-Volume.is in rw is (own_table c.args.row.now)

pub returns-in-Mono : goal.returns-in-Mono
returns-in-Mono c = let is = c.in-Mono.is in rw is (own_table c.args.row.now)

pub returns-in-ChannelCopy : goal.returns-in-ChannelCopy
returns-in-ChannelCopy c = let is = c.in-ChannelCopy.is in rw is (own_table c.args.row.now)

pub returns-in-ChannelSwap : goal.returns-in-ChannelSwap
returns-in-ChannelSwap c = let is = c.in-ChannelSwap.is in rw is (own_table c.args.row.now)

pub returns-in-Silence : goal.returns-in-Silence
returns-in-Silence c = let is = c.in-Silence.is in rw is (own_table c.args.row.now)
