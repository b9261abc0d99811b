-- What the size of a unit says when the graph is sealed.
use Rattle.std.proofs.Common.{◌≡◌, ℕ, ◌<◌, ◌≤◌, List, length, get_or, Result, Ok, Err, cond, ltb, ap, ◌∙◌, arith}
use Rattle.std.proofs.lemmas.Bool.Decides.{nat_tests}
use Rattle.std.proofs.lemmas.List.{get_or_default}
use Rattle.mlt_tree.specs.declared.node.Node.{Node}
use Rattle.mlt_tree.specs.Sizes.{need, weight as weight_in, ops}
use Rattle.mlt_tree.specs.Tree.{len}
use Rattle.mlt_tree.specs.Units.{tree_of, depth_of}
use Rattle.mlt_graph.specs.Graph.{IsSized}
use Rattle.mlt_graph.specs.Seal.{sealed_within}
use Rattle.mlt_graph.specs.Sealed.{Shown, IsKept}
use Rattle.mlt_graph.specs.Sizes.{nothing, size_of}
use Rattle.mlt_graph.specs.declared.fault.GraphFault.{GraphFault}
use Rattle.mlt_graph.specs.declared.fault.GraphFault.TheVariants.{TooDeep, TooMany}
use Rattle.mlt_graph.specs.Weights.{weight_of}
use Rattle.mlt_graph.specs.declared.size.Size.{Size}
use Rattle.mlt_graph.specs.declared.weight.Weight.{Weight}
use Rattle.mlt_graph.proofs.Bounds.{depth-le, need-le, ops-le}

-- what is too heavy is refused next
weight_next : (d w : ℕ) (shown : Shown) → d ≤ 16 → 65536 < w
    → Err (TooMany 65536) ≡ cond (ltb 16 d) (Err (TooDeep d)) (cond (ltb 65536 w) (Err (TooMany 65536)) (Ok shown))
weight_next d w shown low heavy = grind (arith, nat_tests)

passes : (d w : ℕ) (shown : Shown) → d ≤ 16 → w ≤ 65536
    → Ok shown ≡ cond (ltb 16 d) (Err (TooDeep d)) (cond (ltb 65536 w) (Err (TooMany 65536)) (Ok shown))
passes d w shown low light = grind (arith, nat_tests)

-- what is too deep is refused first
depth_first : (d d' : ℕ) (rest : Result Shown GraphFault) → d ≡ d' → 16 < d → Err (TooDeep d) ≡ cond (ltb 16 d') (Err (TooDeep d')) rest
depth_first d d' rest same deep = grind (arith, nat_tests)

module _ (us : List Node) (sizes : List Size) (k : ℕ) (size : Size) (sized : IsSized us sizes) (there : k < length us) (at : size ≡ get_or sizes k size) where
  size-is : size ≡ size_of (tree_of us k) (depth_of us k)
  size-is = at ∙ get_or_default sizes k size nothing (omega (arith, sized.long)) ∙ sized.told.each k (omega (arith, sized.long))

  -- the depth in the table is the unit's
  depth-is : size.depth ≡ depth_of us k
  depth-is = ap (λ (s : Size). s.depth) size-is ∙ omega (arith, sized.few, depth-le us sized.graph k there)

  pub too_deep : 16 < size.depth → Err (TooDeep size.depth) ≡ sealed_within us k
  too_deep deep = depth_first size.depth (depth_of us k) _ depth-is deep

  module _ (weight : Weight) (weight-is : weight ≡ weight_of (tree_of us k)) where
    weight-low : weight.weight ≤ 65536 → weight_in (tree_of us k) ≤ 65536
    weight-low low = let e = ap (λ (w : Weight). w.weight) weight-is in omega arith

    pub too_heavy : size.depth ≤ 16 → 65536 < weight.weight → Err (TooMany 65536) ≡ sealed_within us k
    too_heavy low heavy =
        let e = ap (λ (w : Weight). w.weight) weight-is in
        weight_next (depth_of us k) (weight_in (tree_of us k)) _ (omega (arith, depth-is)) (omega arith)

    pub kept : size.depth ≤ 16 → weight.weight ≤ 65536 → IsKept (record { units = us; top = k }) size.length size.need weight.ops
    kept low light =
        let t = tree_of us k in
        let length-is : size.length ≡ len t = ap (λ (s : Size). s.length) size-is ∙ omega (arith, sized.lengths k there) in
        let buffers : need t ≤ 4369 = omega (arith, need-le us sized.tracks k, depth-is) in
        let operations : ops t ≤ 131072 = omega (arith, ops-le us sized.graph k, weight-low light) in
        let need-is : size.need ≡ need t = ap (λ (s : Size). s.need) size-is ∙ omega arith in
        let ops-is : weight.ops ≡ ops t = ap (λ (w : Weight). w.ops) weight-is ∙ omega arith in
        let frames = sized.lengths k there in
        record {
          is = record { graph = sized.graph; top = there; tracks = sized.tracks };
          depth = omega (arith, depth-is);
          weight = weight-low light;
          length = length-is;
          some = omega (arith, length-is, frames.some);
          short = omega (arith, length-is, frames.short);
          need = need-is;
          few_buffers = omega arith;
          ops = ops-is;
          few_ops = omega arith;
        }

    pub sealed : size.depth ≤ 16 → weight.weight ≤ 65536 → Ok (record { units = us; top = k }) ≡ sealed_within us k
    sealed low light = passes (depth_of us k) (weight_in (tree_of us k)) (record { units = us; top = k }) (omega (arith, depth-is)) (weight-low light)
