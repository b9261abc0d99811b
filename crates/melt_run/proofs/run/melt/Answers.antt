use Rattle.std.proofs.lemmas.Option.{IfSome_then}
use Rattle.mlt_tree.specs.Reading.{reading_on}
use Rattle.melt_run.specs.Show.{texts}
use Rattle.melt_run.proofs.Outcomes.{written_is, tally_is, refused_is, refused_always_is, fault_is, complete_is, front_is, created_is, says_is}
use Rattle.melt_run.proofs.run.melt.Goals as goal

pub returns-clause-written : goal.returns-clause-written
returns-clause-written g c =
    let old = g.H.Host.state c.args.host.now in let new = g.H.Host.state c.run.new.host in
    IfSome_then (reading_on (texts c.args.words.now) old.files) c.run.ensures.ends (λ reading ends. written_is reading c.run.result old new ends)

pub returns-clause-tally : goal.returns-clause-tally
returns-clause-tally g c =
    let old = g.H.Host.state c.args.host.now in let new = g.H.Host.state c.run.new.host in
    IfSome_then (reading_on (texts c.args.words.now) old.files) c.run.ensures.ends (λ reading ends. tally_is reading c.run.result old new ends)

pub returns-clause-refused : goal.returns-clause-refused
returns-clause-refused g c =
    let old = g.H.Host.state c.args.host.now in let new = g.H.Host.state c.run.new.host in
    IfSome_then (reading_on (texts c.args.words.now) old.files) c.run.ensures.ends (λ reading ends. refused_is reading c.run.result old new ends)

pub returns-clause-refused_always : goal.returns-clause-refused_always
returns-clause-refused_always g c =
    let old = g.H.Host.state c.args.host.now in let new = g.H.Host.state c.run.new.host in
    IfSome_then (reading_on (texts c.args.words.now) old.files) c.run.ensures.ends (λ reading ends. refused_always_is reading c.run.result old new c.run.ensures.counts.loads ends)

pub returns-clause-fault : goal.returns-clause-fault
returns-clause-fault g c =
    let old = g.H.Host.state c.args.host.now in let new = g.H.Host.state c.run.new.host in
    IfSome_then (reading_on (texts c.args.words.now) old.files) c.run.ensures.ends (λ reading ends. fault_is reading c.run.result old new ends)

pub returns-clause-complete : goal.returns-clause-complete
returns-clause-complete g c =
    let old = g.H.Host.state c.args.host.now in let new = g.H.Host.state c.run.new.host in
    IfSome_then (reading_on (texts c.args.words.now) old.files) c.run.ensures.ends (λ reading ends. complete_is reading c.run.result old new c.run.ensures.counts.loads ends)

pub returns-clause-front : goal.returns-clause-front
returns-clause-front g c =
    let old = g.H.Host.state c.args.host.now in let new = g.H.Host.state c.run.new.host in
    IfSome_then (reading_on (texts c.args.words.now) old.files) c.run.ensures.ends (λ reading ends. front_is reading c.run.result old new ends)

pub returns-clause-created : goal.returns-clause-created
returns-clause-created g c =
    let old = g.H.Host.state c.args.host.now in let new = g.H.Host.state c.run.new.host in
    IfSome_then (reading_on (texts c.args.words.now) old.files) c.run.ensures.ends (λ reading ends. created_is reading c.run.result old new ends)

pub returns-clause-says : goal.returns-clause-says
returns-clause-says g c =
    let old = g.H.Host.state c.args.host.now in let new = g.H.Host.state c.run.new.host in
    IfSome_then (reading_on (texts c.args.words.now) old.files) c.run.ensures.ends (λ reading ends. says_is reading c.run.result old new ends)
