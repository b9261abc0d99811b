use Rattle.std.proofs.Common.{Err, ap, sym, ◌∙◌, subst}
use Rattle.mlt_host.specs.Host.{Loads, asked_after}
use Rattle.mlt_tree.specs.Loaded.{file_within}
use Rattle.melt_build.specs.declared.fault.BuildFault.TheVariants.{Refused}
use Rattle.melt_build.specs.Loads.{StepFails}
use Rattle.melt_build.proofs.Filed.{goes_loaded, fails_long, fails_reading}
use Rattle.melt_build.proofs.files.load.Goals as goal

pub returns-in-Ok-clause-goes : goal.returns-in-Ok-clause-goes
returns-in-Ok-clause-goes g c = λ files tells.
    goes_loaded files c.args.place c.args.name.now c.args.limit (g.H.Host.state c.args.host.now) (g.H.Host.state c.load.new.self) c.in-Ok.ensures.asked c.in-Ok.bytes.items c.in-Ok.ensures.answer.1 c.in-Ok.ensures.answer.0 tells

pub returns-in-Err-Missing-clause-goes : goal.returns-in-Err-Missing-clause-goes
returns-in-Err-Missing-clause-goes g c = λ files tells.
    fails_reading files c.args.place c.args.name.now c.args.limit (g.H.Host.state c.args.host.now) (g.H.Host.state c.load.new.self)
    (c.in-Err-Missing.ensures.asked ∙ ap (λ f. asked_after (Err f) c.args.name.now (g.H.Host.state c.args.host.now).asked) c.in-Err-Missing.field-0-is)

pub returns-in-Err-Failed-clause-goes : goal.returns-in-Err-Failed-clause-goes
returns-in-Err-Failed-clause-goes g c = λ files tells.
    fails_reading files c.args.place c.args.name.now c.args.limit (g.H.Host.state c.args.host.now) (g.H.Host.state c.load.new.self)
    (c.in-Err-Failed.ensures.asked ∙ ap (λ f. asked_after (Err f) c.args.name.now (g.H.Host.state c.args.host.now).asked) c.in-Err-Failed.field-0-is)

pub returns-in-Err-TooLarge-clause-goes : goal.returns-in-Err-TooLarge-clause-goes
returns-in-Err-TooLarge-clause-goes g c = λ files tells.
    let a = g.H.Host.state c.args.host.now in let b = g.H.Host.state c.load.new.self in
    subst (λ refusal. StepFails (Refused refusal) (file_within files c.args.place c.args.name.now c.args.limit) a b) (sym c.at.ensures) (fails_long files c.args.place c.args.name.now c.args.limit a b
    (c.in-Err-TooLarge.ensures.asked ∙ ap (λ f. asked_after (Err f) c.args.name.now a.asked) c.in-Err-TooLarge.field-0-is)
    (subst (λ f. Loads (Err f) c.args.name.now c.args.limit a b) c.in-Err-TooLarge.field-0-is c.in-Err-TooLarge.ensures.answer).1 tells)
