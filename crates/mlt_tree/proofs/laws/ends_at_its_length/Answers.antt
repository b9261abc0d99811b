use Rattle.mlt_tree.specs.Medium.{Pictures, Sounds}
use Rattle.mlt_tree.proofs.Past.{past, needs_past}
use Rattle.mlt_tree.proofs.laws.ends_at_its_length.Goals as goal

pub returns : goal.returns
returns c = λ t n h. record {
  picture = λ m. past Pictures m t n h;
  sound = λ m. past Sounds m t n h;
  needs = needs_past t n h;
}
