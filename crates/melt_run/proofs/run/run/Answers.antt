use Rattle.std.proofs.Common.{sym, subst}
use Rattle.std.proofs.lemmas.Option.{IfSome_then}
use Rattle.mlt_tree.specs.Reading.{reading_on}
use Rattle.mlt_tree.specs.Show.{played}
use Rattle.mlt_graph.specs.Show.{meant}
use Rattle.melt_run.specs.Ends.{Ends, EndsRun}
use Rattle.melt_run.specs.Outcome.{CountsPorts}
use Rattle.melt_run.specs.Prepared.{loads_on}
use Rattle.melt_run.specs.Show.{texts}
use Rattle.melt_run.proofs.Asked.{all_asked}
use Rattle.melt_run.proofs.Hosts.{loaded}
use Rattle.melt_run.proofs.Loaded.{ends_from, ports_from, loads_since}
use Rattle.melt_run.proofs.run.run.Goals as goal

pub returns-in-Play-clause-ends : goal.returns-in-Play-clause-ends
returns-in-Play-clause-ends g c =
    let a = g.H.Host.state c.args.host.now in let b = g.H.Host.state c.prepare.new.host in let z = g.H.Host.state c.played.new.host in
    let only = c.prepare.ensures.rest in
    let show = meant c.in-Play.show c.in-Play.table in let status = c.played.result in
    IfSome_then (reading_on (texts c.args.words.now) a.files) c.in-Play.ensures.means (λ reading means.
    ends_from a b.asked b.load_faults z reading status (subst (λ r. Ends r status (record a { asked = b.asked; load_faults = b.load_faults }) z) (sym means) (subst (λ s. EndsRun (played show) status s z) (loaded a b only) c.played.ensures.ends)))

pub returns-in-Play-clause-counts : goal.returns-in-Play-clause-counts
returns-in-Play-clause-counts g c =
    let a = g.H.Host.state c.args.host.now in let b = g.H.Host.state c.prepare.new.host in let z = g.H.Host.state c.played.new.host in
    let only = c.prepare.ensures.rest in
    let status = c.played.result in let counts = c.played.ensures.counts in record {
      loads = loads_since a b z status c.in-Play.ensures.counts counts.loads;
      ports = ports_from a b.asked b.load_faults z status (subst (λ s. CountsPorts status s z) (loaded a b only) counts.ports);
    }

pub returns-in-Play-clause-asked : goal.returns-in-Play-clause-asked
returns-in-Play-clause-asked g c =
    let a = g.H.Host.state c.args.host.now in let b = g.H.Host.state c.prepare.new.host in let z = g.H.Host.state c.played.new.host in
    IfSome_then (loads_on (texts c.args.words.now) a.files) c.in-Play.ensures.asked (λ loads asks. all_asked a b z c.played.ensures.asked c.played.result loads c.played.ensures.never_unread asks)
