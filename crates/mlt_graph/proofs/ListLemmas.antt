-- What is kept of the lists of a unit is read by the numbers of the unit and the list.
use Rattle.std.proofs.Common.{◌≡◌, ℕ, zero, suc, ◌<◌, List, [], ◌∷◌, length, get_or, map, refl, sym, ap, ◌∙◌, arith}
use Rattle.std.proofs.Math.ListN.{get_or-map}
use Rattle.std.proofs.lemmas.List.{get_or_default, length-map, get_or-map as get_or-map-within}
use Rattle.mlt_tree.specs.declared.node.Node.{Node}
use Rattle.mlt_tree.specs.Ranges.{frames}
use Rattle.mlt_graph.specs.Lists.{lists_in, lists_of, list_of, starts_in, HaveStarts}

-- a unit that has a list is there
unit-there : (us : List Node) (unit list : ℕ) → list < length (lists_of us unit) → unit < length us
unit-there [] unit list there = absurd (omega (arith, there))
unit-there (u ∷ us) zero list there = omega arith
unit-there (u ∷ us) (suc unit) list there = omega (arith, unit-there us unit list there)

-- where the entries of each list of a unit begin
unit-starts : (us : List Node) (unit : ℕ) → get_or (map (λ (node : Node). starts_in node.body) us) unit [] ≡ map (map frames) (lists_of us unit)
unit-starts [] unit = refl
unit-starts (u ∷ us) zero = refl
unit-starts (u ∷ us) (suc unit) = unit-starts us unit

module _ (us : List Node) (starts : List (List (List ℕ))) (have : HaveStarts us starts) (unit list : ℕ) (there : list < length (lists_of us unit)) where
  pub within : unit < length starts
  within =
      omega (arith, unit-there us unit list there, ap length have.are, length-map us (λ (node : Node). starts_in node.body))

  module _ (all : List (List ℕ)) (at : all ≡ get_or starts unit all) where
    pub lists-read : all ≡ map (map frames) (lists_of us unit)
    lists-read =
        at ∙ get_or_default starts unit all [] within ∙ ap (λ s. get_or s unit []) have.are ∙ unit-starts us unit

    pub list-within : list < length all
    list-within = omega (arith, there, ap length lists-read, length-map (lists_of us unit) (map frames))

    pub list-read : (one : List ℕ) → one ≡ get_or all list one → one ≡ map frames (list_of us unit list)
    list-read one here =
        here ∙ get_or_default all list one [] list-within ∙ ap (λ l. get_or l list []) lists-read ∙ get_or-map (map frames) (lists_of us unit) list []

-- the lists of a unit are those of what it is made of
pub lists_of-unit : (us : List Node) (unit : ℕ) (u : Node) → unit < length us → u ≡ get_or us unit u → lists_of us unit ≡ lists_in u.body
lists_of-unit us unit u there at =
    get_or-map-within (λ (node : Node). lists_in node.body) us unit u [] there ∙ ap (λ (node : Node). lists_in node.body) (sym at)
