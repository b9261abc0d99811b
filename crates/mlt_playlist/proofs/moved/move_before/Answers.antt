use Rattle.std.proofs.Common.{◌+◌, ◌-◌, ◌++◌, length, take, drop, refl, ap, ◌∙◌, arith, length-take, length-drop}
use Rattle.mlt_playlist.proofs.Moves.{before}
use Rattle.mlt_playlist.proofs.moved.move_before.Goals as goal

pub returns-clause-moved : goal.returns-clause-moved
returns-clause-moved c =
    let es = c.args.entries.now in let k = c.args.from + 1 - c.args.to in
    ap (λ part. take c.args.to es ++ (part ++ drop k (drop c.args.to es))) c.rotate_right.ensures.after
    ∙ before es c.args.from c.args.to k (length (take k (drop c.args.to es)) - 1) c.requires.0 c.requires.1 refl (omega (arith, length-take k (drop c.args.to es), length-drop c.args.to es))
