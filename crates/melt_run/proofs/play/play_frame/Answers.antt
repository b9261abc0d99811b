use Rattle.std.proofs.Common.{rules, ◌≡◌, length, OnOk, OnErr, ◌∙◌, subst}
use Rattle.mlt_base.specs.declared.port.Port.TheVariants.{Video}
use Rattle.mlt_host.specs.Host.{Appends, AppendsFront}
use Rattle.mlt_pool.specs.Class.{class_of}
use Rattle.mlt_pool.specs.Counts.{IsOneLent}
use Rattle.melt_run.proofs.Lent.{lends_home}
use Rattle.melt_run.proofs.play.play_frame.Goals as goal

pub returns-clause-ok : goal.returns-clause-ok
returns-clause-ok g c =
    let a = g.H.Host.state c.args.host.now in let z = g.H.Host.state c.append-answer.new.self in
    let is = c.video.ensures ∙ c.render_position-rendered.ensures.video in
    subst (λ bytes. OnOk c.append-answer.result (Appends Video a z bytes)) is c.append-answer.ensures.ok

pub returns-clause-failed : goal.returns-clause-failed
returns-clause-failed g c =
    let a = g.H.Host.state c.args.host.now in let z = g.H.Host.state c.append-answer.new.self in
    let is = c.video.ensures ∙ c.render_position-rendered.ensures.video in
    subst (λ bytes. OnErr c.append-answer.result (AppendsFront Video a z bytes)) is c.append-answer.ensures.failed

pub returns-clause-lent : goal.returns-clause-lent
returns-clause-lent g c =
    let long : length c.into_parts-buffer.result.0 ≡ c.piece.result = search rules in
    let home : IsOneLent (class_of c.piece.result) c.home.new.self c.lend.new.self = subst (λ n. IsOneLent (class_of n) c.home.new.self c.lend.new.self) long c.home.ensures.counts in
    lends_home (class_of c.piece.result) c.args.pool.now c.lend.new.self c.home.new.self c.in-Some.ensures.counts home
