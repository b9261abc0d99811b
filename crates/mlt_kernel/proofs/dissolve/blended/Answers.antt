use Rattle.std.proofs.Common.{ℕ, ◌+◌, ◌-◌, ◌*◌, ◌/◌, ap, ◌∙◌, arith}
use Rattle.mlt_kernel.proofs.Mixed.{raised_up, raised_down}
use Rattle.mlt_kernel.proofs.dissolve.blended.Goals as goal
use Rattle.mlt_kernel.proofs.dissolve.blended.Goals.{then-z-x, else-z-x}

pub returns : goal.returns
returns c =
    let gap : ℕ = c.max.result - c.min-low.result in elim c.if-z-x.branch [
      | then-z-x w ↦
          raised_up c.args.x c.args.z c.args.q c.min-low.result gap c.share_of.result (omega arith) (omega arith) (omega arith)
          (c.share_of.ensures.value ∙ ap (λ s. (gap * s + 32768) / 65536) w.share-is)
      | else-z-x w ↦
          raised_down c.args.x c.args.z c.args.q c.args.p c.min-low.result gap c.share_of.result c.requires (omega arith) (omega arith)
          (c.share_of.ensures.value ∙ ap (λ s. (gap * s + 32768) / 65536) w.share-is)
    ]
