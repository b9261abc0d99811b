use Rattle.mlt_tree.specs.Composing.{show_of}
use Rattle.mlt_tree.specs.GroupWords.{words_in}
use Rattle.melt_run.proofs.Asked.{tells_show, memory_goes}
use Rattle.melt_run.proofs.prepared.play.Goals as goal

pub returns-in-Err-Memory-clause-goes : goal.returns-in-Err-Memory-clause-goes
returns-in-Err-Memory-clause-goes g c = λ files tells.
    let a = g.H.Host.state c.args.host.now in let b = g.H.Host.state c.build.new.host in
    let groups = c.args.groups.now in
    let step = show_of files (words_in groups) groups in
    memory_goes step a b c.in-Err-Memory.field-0 c.in-Err-Memory.field-0-is (c.in-Err-Memory.ensures.goes files (tells_show step files a tells))
