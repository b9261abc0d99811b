use Rattle.std.proofs.Common.{rules, ℕ, replicate, sym, ap, ◌∙◌}
use Rattle.mlt_base.specs.ProfileView.{measures_of}
use Rattle.mlt_tree.specs.Show.{pixels_of}
use Rattle.mlt_eval.proofs.Cleared.{clear_zeros}
use Rattle.mlt_eval.proofs.block.clear_picture.Goals as goal

pub returns : goal.returns
returns c =
    c.fill.ensures.after (search rules) ∙ ap (λ (n : ℕ). replicate n 0) c.requires ∙ sym (clear_zeros (pixels_of (measures_of c.args._profile.now)))
