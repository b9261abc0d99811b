use Rattle.std.proofs.Common.{◌+◌, ◌-◌, ◌++◌, take, drop, refl, ap, ◌∙◌}
use Rattle.mlt_playlist.proofs.Moves.{behind}
use Rattle.mlt_playlist.proofs.moved.move_behind.Goals as goal

pub returns-clause-moved : goal.returns-clause-moved
returns-clause-moved c =
    let es = c.args.entries.now in let k = c.args.to + 1 - c.args.from in
    ap (λ part. take c.args.from es ++ (part ++ drop k (drop c.args.from es))) c.rotate_left.ensures.after
    ∙ behind es c.args.from c.args.to k c.requires.0 c.requires.1 refl
