use Rattle.melt_build.proofs.Planted.{merged_composed}
use Rattle.melt_build.proofs.state.State.mix_merged.Goals as goal

pub returns-clause-composed : goal.returns-clause-composed
returns-clause-composed c =
    merged_composed c.args.self.now c.add_mixer.new.self c.in-Some.unit.0 c.args.spec c.requires.composed c.requires.maps c.in_ok-add_mixer.ensures.ok
