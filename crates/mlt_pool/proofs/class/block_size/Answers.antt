use Rattle.std.proofs.Common.{rules}
use Rattle.mlt_pool.proofs.Classes.{size_within}
use Rattle.mlt_pool.proofs.class.block_size.Goals as goal

pub returns-clause-within : goal.returns-clause-within
returns-clause-within c = size_within c.args.class _ (search rules) c.requires
