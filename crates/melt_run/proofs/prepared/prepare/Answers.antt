use Rattle.melt_run.specs.Show.{texts}
use Rattle.melt_run.proofs.Asked.{means_on, asked_on}
use Rattle.melt_run.proofs.prepared.prepare.Goals as goal

pub returns-clause-means : goal.returns-clause-means
returns-clause-means g c =
    means_on c.read.result (texts c.args.words.now) (g.H.Host.state c.args.host.now) (g.H.Host.state c.read.new.host) c.read.ensures.goes

pub returns-clause-asked : goal.returns-clause-asked
returns-clause-asked g c =
    asked_on c.read.result (texts c.args.words.now) (g.H.Host.state c.args.host.now) (g.H.Host.state c.read.new.host) c.read.ensures.goes
