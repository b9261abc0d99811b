use Rattle.std.proofs.Common.{◌≡◌, drop}
use Rattle.mlt_host.specs.Host.{OnlyLoads}
use Rattle.mlt_tree.specs.Composing.{no_words, effect}
use Rattle.mlt_tree.specs.Loading.{Files, through}
use Rattle.melt_build.specs.Loads.{TellsFiles}
use Rattle.melt_build.specs.State.{IsComposed, state_view}
use Rattle.melt_build.proofs.Going.{GoesOn}
use Rattle.melt_build.proofs.state.State.effects.Given as goal

-- what the groups so far have done, and the rest
abbrev pub invariant-loop-group : goal.invariant-loop-group
invariant-loop-group g l = record {
  composed : IsComposed l.self;
  counts : (g.H.Host.state l.host).load_faults ≡ (g.H.Host.state l.fn.host).load_faults;
  rest : OnlyLoads (g.H.Host.state l.fn.host) (g.H.Host.state l.host);
  done : (files : Files) → TellsFiles files (through (effect files no_words) (state_view l.fn.self) l.groups) (g.H.Host.state l.fn.host) → GoesOn (through (effect files no_words) (state_view l.fn.self) l.groups) (through (effect files no_words) (state_view l.self) (drop l.group-index l.groups)) (g.H.Host.state l.fn.host) (g.H.Host.state l.host);
}
