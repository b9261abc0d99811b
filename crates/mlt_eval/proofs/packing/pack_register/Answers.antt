use Rattle.std.proofs.Common.{rules, ℕ, replicate, ap, sym, ◌∙◌}
use Rattle.mlt_base.specs.ProfileView.{measures_of}
use Rattle.mlt_tree.specs.Show.{pixels_of}
use Rattle.mlt_eval.proofs.Cleared.{packed_clear}
use Rattle.mlt_eval.proofs.packing.pack_register.Goals as goal

pub returns-in-Nothing : goal.returns-in-Nothing
returns-in-Nothing c =
    let zeros = c.fill.ensures.after (search rules) ∙ ap (λ (n : ℕ). replicate n 0) c.requires.out in
    rw c.in-Nothing.is (zeros ∙ sym (packed_clear c.args.pix (pixels_of (measures_of c.args.scene.now.profile.now))))
