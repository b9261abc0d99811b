use Rattle.std.proofs.Common.{length, sym, subst}
use Rattle.mlt_tree.specs.Loading.{plainly, ◌>>=◌}
use Rattle.mlt_tree.specs.Reading.{job_of, groups_read}
use Rattle.mlt_tree.proofs.Allowed.{groups_sound}
use Rattle.mlt_tree.proofs.Counts.{words_counted}
use Rattle.melt_build.specs.Loads.{TellsFiles}
use Rattle.melt_run.specs.Prepared.{GoesPrepared}
use Rattle.melt_run.specs.Show.{texts}
use Rattle.melt_run.proofs.prepared.read.Goals as goal

pub job-requires : goal.job-requires
job-requires g c = groups_sound (texts c.args.words.now) c.in-Ok.list c.in-Ok.ensures

pub returns-in-Ok-clause-goes : goal.returns-in-Ok-clause-goes
returns-in-Ok-clause-goes g c = λ files.
    let words = texts c.args.words.now in
    let a = g.H.Host.state c.args.host.now in let b = g.H.Host.state c.job.new.host in
    subst (λ gs. TellsFiles files (plainly (groups_read gs) >>= job_of files (length words)) a → GoesPrepared c.job.result (plainly (groups_read gs) >>= job_of files (length words)) a b) (sym c.in-Ok.ensures)
    (subst (λ count. TellsFiles files (job_of files count c.in-Ok.list) a → GoesPrepared c.job.result (job_of files count c.in-Ok.list) a b) (words_counted words c.in-Ok.list c.in-Ok.ensures) (c.job.ensures.goes files))
