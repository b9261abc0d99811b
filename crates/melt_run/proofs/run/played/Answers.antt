use Rattle.std.proofs.Common.{refl}
use Rattle.mlt_tree.specs.Show.{played}
use Rattle.melt_run.proofs.Lifts.{show_ends, show_counts, show_keeps, show_nothing}
use Rattle.mlt_graph.specs.Show.{meant}
use Rattle.melt_run.proofs.run.played.Goals as goal

pub returns-clause-ends : goal.returns-clause-ends
returns-clause-ends g c =
    let a = g.H.Host.state c.args.host.now in let b = g.H.Host.state c.play_serial-status.new.host in let z = g.H.Host.state c.tell.new.host in
    show_ends (played (meant c.args.show c.args.table)) refl a b z c.tell.ensures.rest c.play_serial-status.result c.play_serial-status.ensures.plays c.play_serial-status.ensures.keeps c.tell.ensures.line c.tell.ensures.creates

pub returns-clause-counts : goal.returns-clause-counts
returns-clause-counts g c =
    let a = g.H.Host.state c.args.host.now in let b = g.H.Host.state c.play_serial-status.new.host in let z = g.H.Host.state c.tell.new.host in
    show_counts (played (meant c.args.show c.args.table)) refl a b z c.tell.ensures.rest c.play_serial-status.result c.play_serial-status.ensures.plays c.play_serial-status.ensures.keeps c.tell.ensures.line c.tell.ensures.creates

pub returns-clause-keeps : goal.returns-clause-keeps
returns-clause-keeps g c =
    let a = g.H.Host.state c.args.host.now in let b = g.H.Host.state c.play_serial-status.new.host in let z = g.H.Host.state c.tell.new.host in
    show_keeps (played (meant c.args.show c.args.table)) refl a b z c.tell.ensures.rest c.play_serial-status.result c.play_serial-status.ensures.plays c.play_serial-status.ensures.keeps c.tell.ensures.line c.tell.ensures.creates c.tell.ensures.never_falls

pub returns-clause-nothing : goal.returns-clause-nothing
returns-clause-nothing g c =
    let a = g.H.Host.state c.args.host.now in let b = g.H.Host.state c.play_serial-status.new.host in let z = g.H.Host.state c.tell.new.host in
    show_nothing (played (meant c.args.show c.args.table)) refl a b z c.tell.ensures.rest c.play_serial-status.result c.play_serial-status.ensures.plays c.play_serial-status.ensures.keeps c.tell.ensures.line c.tell.ensures.creates
