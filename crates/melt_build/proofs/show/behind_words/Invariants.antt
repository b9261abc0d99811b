use Rattle.std.proofs.Common.{◌≡◌, ◌≤◌, drop, fold}
use Rattle.melt_build.specs.WordCount.{behind, behind_group}
use Rattle.melt_build.proofs.show.behind_words.Given as goal

-- behind the properties so far, and the rest
abbrev pub invariant-loop-prop : goal.invariant-loop-prop
invariant-loop-prop l = record {
  rest : fold (λ n prop. behind n prop.place) l.most (drop l.prop-index l.group.props) ≡ behind_group l.fn.most l.group;
  few : l.most ≤ 10001;
}
