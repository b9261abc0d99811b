-- What sealing a graph refuses is what the definitions refuse.
use Rattle.std.proofs.Common.{ℕ, ◌≡◌, ◌+◌, ◌<◌, ◌≤◌, Bool, true, false, cond, ltb, ltb-true, leb, nat_eq, List, [], ◌∷◌, ◌++◌, length, get_or, Option, None, Some, Result, Ok, Err, refl, sym, ap, ◌∙◌, subst, arith}
use Rattle.std.specs.List.{zip}
use Rattle.std.proofs.Math.Seq.{get_or-append_seam}
use Rattle.std.proofs.lemmas.Bool.Decides.{nat_tests}
use Rattle.std.proofs.lemmas.Grind.{common_steps}
use Rattle.std.proofs.lemmas.List.{append_assoc, get_or_append_left}
use Rattle.mlt_base.specs.Steps.{◌>>=◌}
use Rattle.mlt_base.specs.Try.{TryFails}
use Rattle.mlt_base.specs.declared.refusal.Try.{Try}
use Rattle.mlt_base.specs.declared.refusal.Try.TheVariants as try
use Rattle.mlt_tree.specs.declared.draft.PendingPlant.{PendingPlant}
use Rattle.mlt_tree.specs.declared.node.Node.{Node}
use Rattle.mlt_tree.specs.declared.refusal.Cause.TheVariants as cause
use Rattle.mlt_tree.specs.declared.refusal.Refusal.{Refusal}
use Rattle.mlt_tree.specs.Refusing.{refuse}
use Rattle.mlt_tree.specs.Show.{Source}
use Rattle.mlt_tree.specs.Sources.{FitsBody}
use Rattle.melt_build.specs.State.{FitsUnits}
use Rattle.mlt_tree.specs.Composition.{State}
use Rattle.mlt_tree.specs.Sealing.{refuse_plant, each_on_tracks, plants_placed, sealable, show_of_tree, all_units, whole_tree}
use Rattle.mlt_tree.specs.Sealing.{seal as seal_of}
use Rattle.mlt_tree.specs.Sizes.{weight}
use Rattle.mlt_tree.specs.Tree.{Tree, len}
use Rattle.mlt_tree.specs.Units.{Level, tree_of, depth_of, node_tree, tractor_of, drafts_of, Misplaced, OffTracks, Doubled, misplaced, numbered_or, first_misplaced, level_misplaced}
use Rattle.mlt_graph.specs.declared.fault.GraphFault.{GraphFault}
use Rattle.mlt_graph.specs.declared.fault.GraphFault.TheVariants.{BadTrack, SameTrack, NoProducer, TooDeep, TooMany}
use Rattle.mlt_graph.specs.Graph.{misplaced_fault, tractor_fault, FailsBy}
use Rattle.mlt_graph.specs.Seal.{sealed_within}
use Rattle.mlt_graph.specs.Sealed.{Shown}
use Rattle.mlt_graph.proofs.Trees.{tree_of-new}
use Rattle.melt_build.specs.Built.{refusal_of, checked}

-- a graph's fault, as a call gives it
abbrev failed : {A : Type 0} → GraphFault → Result A GraphFault
failed fault = Err fault

abbrev err_or : {A E : Type 0} → E → Result A E → E
err_or d (Ok x) = d
err_or d (Err e) = e

equals_none : (n : ℕ) → 1 ≤ n → nat_eq n 0 ≡ false
equals_none n h = grind (arith, nat_tests)

greater : (a b : ℕ) → ltb a b ≡ true → leb b a ≡ false
greater a b h = grind (arith, nat_tests)

not_greater : (a b : ℕ) → ltb a b ≡ false → leb b a ≡ true
not_greater a b h = grind (arith, nat_tests)

-- nothing is refused
abbrev fine : Result (Unit {0}) Refusal
fine = Ok tt

abbrev choose : Bool → Result (Unit {0}) Refusal → Result (Unit {0}) Refusal → Result (Unit {0}) Refusal
choose b x y = cond b x y

abbrev outcome : Bool → Bool → GraphFault → GraphFault → Shown → Result Shown GraphFault
outcome b c deep heavy shown = cond b (Err deep) (cond c (Err heavy) (Ok shown))

-- by the results of its three tests
tested : (count : ℕ) (us : List Node) (top : ℕ) (a b c : Bool) → nat_eq (len (tree_of us top)) 0 ≡ a → leb (depth_of us top) 16 ≡ b → leb (weight (tree_of us top)) 65536 ≡ c → sealable count us top ≡ (choose a (refuse count cause.NoProducer) fine >>= λ some. choose b fine (refuse count (cause.TooDeep (depth_of us top))) >>= λ shallow. choose c fine (refuse count (cause.TooMany 65536)))
unfolding sealable
tested count us top a b c h k l = rw (h, k, l) refl

pub nothing_there : (count : ℕ) (us : List Node) (level : Level) → len (node_tree (tree_of us) (tractor_of level)) ≡ 0 → sealable count (us ++ tractor_of level ∷ []) (length us) ≡ refuse count cause.NoProducer
unfolding sealable
nothing_there count us level h =
    let t : Tree = tree_of (us ++ tractor_of level ∷ []) (length us) in
    let none : len t ≡ 0 = ap len (tree_of-new us (tractor_of level)) ∙ h in
    rw none refl

-- ---- what is planted, and then the graph

-- what is wrong with a numbered plant is refused at the place of that number
abbrev by_number : List ℕ → (tracks : ℕ) → Option (ℕ × Misplaced) → Result (Unit {0}) Refusal
by_number places tracks None = Ok tt
by_number places tracks (Some (plant, OffTracks track)) = refuse (get_or places plant 0) (cause.BadTrack track tracks)
by_number places tracks (Some (plant, Doubled track)) = refuse (get_or places plant 0) (cause.SameTrack track)

abbrev pub checked_by : (count : ℕ) (places : List ℕ) (tracks : ℕ) → Option (ℕ × Misplaced) → List Node → (top : ℕ) → Result (Unit {0}) Refusal
checked_by count places tracks wrong units top = by_number places tracks wrong >>= λ on_tracks. sealable count units top

one_more : (before : List ℕ) (place : ℕ) → length (before ++ place ∷ []) ≡ length before + 1
one_more before place = grind (arith, common_steps)

-- one plant with its place, where the rest are refused as their numbers say
each_step : (tracks : ℕ) (before places : List ℕ) (place : ℕ) (plant : PendingPlant) (plants : List PendingPlant) → each_on_tracks tracks (zip places plants) ≡ by_number ((before ++ place ∷ []) ++ places) tracks (first_misplaced tracks (length (before ++ place ∷ [])) plants) → each_on_tracks tracks (zip (place ∷ places) (plant ∷ plants)) ≡ by_number (before ++ place ∷ places) tracks (first_misplaced tracks (length before) (plant ∷ plants))
each_step tracks before places place plant plants h = by (misplaced tracks plant) where
  later : Option (ℕ × Misplaced)
  later = first_misplaced tracks (length before + 1) plants

  rest : each_on_tracks tracks (zip places plants) ≡ by_number (before ++ place ∷ places) tracks later
  rest =
      h
      ∙ ap (λ all. by_number all tracks (first_misplaced tracks (length (before ++ place ∷ [])) plants)) (append_assoc before (place ∷ []) places)
      ∙ ap (λ n. by_number (before ++ place ∷ places) tracks (first_misplaced tracks n plants)) (one_more before place)

  by : (wrong : Option Misplaced) → (refuse_plant place tracks wrong >>= λ done. each_on_tracks tracks (zip places plants)) ≡ by_number (before ++ place ∷ places) tracks (numbered_or (length before) wrong later)
  by None = rest
  by (Some (OffTracks track)) = ap (λ at. refuse at (cause.BadTrack track tracks)) (sym (get_or-append_seam before place places 0))
  by (Some (Doubled track)) = ap (λ at. refuse at (cause.SameTrack track)) (sym (get_or-append_seam before place places 0))

-- plants and their places, behind other places: the first that is misplaced is refused at its number's place
each_from : (tracks : ℕ) (before places : List ℕ) (plants : List PendingPlant) → length places ≡ length plants → each_on_tracks tracks (zip places plants) ≡ by_number (before ++ places) tracks (first_misplaced tracks (length before) plants)
each_from tracks before [] [] h = refl
each_from tracks before [] (plant ∷ plants) h = absurd (omega (arith, h))
each_from tracks before (place ∷ places) [] h = absurd (omega (arith, h))
each_from tracks before (place ∷ places) (plant ∷ plants) h =
    each_step tracks before places place plant plants (each_from tracks (before ++ place ∷ []) places plants (omega (arith, h)))

pub checked_as : (count : ℕ) (places : List ℕ) (level : Level) (units : List Node) (top : ℕ) → length places ≡ length level.plants → checked count places level units top ≡ checked_by count places (length (drafts_of level)) (level_misplaced level) units top
checked_as count places level units top h =
    ap (λ r. r >>= λ on_tracks. sealable count units top) (each_from (length (drafts_of level)) [] places level.plants h)

-- a tractor that is refused
pub not_added : (A : Type 0) (count : ℕ) (places : List ℕ) (us : List Node) (level : Level) (fault : GraphFault) → FailsBy {A = A} (tractor_fault level (len (node_tree (tree_of us) (tractor_of level)))) (Err fault) → TryFails (refusal_of count places fault) (checked_by count places (length (drafts_of level)) (level_misplaced level) (us ++ tractor_of level ∷ []) (length us))
not_added A count places us level fault h = by (level_misplaced level) refl h where
  frames : ℕ
  frames = len (node_tree (tree_of us) (tractor_of level))

  tracks : ℕ
  tracks = length (drafts_of level)

  all : List Node
  all = us ++ tractor_of level ∷ []

  IsRefused : GraphFault → Option (ℕ × Misplaced) → Type 0
  IsRefused fault wrong = TryFails (refusal_of count places fault) (checked_by count places tracks wrong all (length us))

  fault_by : Option (ℕ × Misplaced) → Option GraphFault
  fault_by (Some wrong) = Some (misplaced_fault tracks wrong)
  fault_by None = cond (nat_eq frames 0) (Some NoProducer) None

  same : (a b : GraphFault) → failed {A = A} a ≡ failed b → b ≡ a
  same a b h = ap (err_or b) (sym h)

  none : (t : Bool) → nat_eq frames 0 ≡ t → FailsBy {A = A} (cond t (Some NoProducer) None) (Err fault) → IsRefused fault None
  none true is h =
      let empty : frames ≡ 0 = grind (arith, nat_tests) in
      subst (λ f. IsRefused f None) (same fault NoProducer h) (nothing_there count us level empty)
  none false is h = subst (λ f. IsRefused f None) (sym h) tt

  by : (wrong : Option (ℕ × Misplaced)) → level_misplaced level ≡ wrong → FailsBy {A = A} (fault_by wrong) (Err fault) → IsRefused fault wrong
  by None is h = none (nat_eq frames 0) refl h
  by (Some (plant, OffTracks track)) is h = subst (λ f. IsRefused f (Some (plant, OffTracks track))) (same fault (BadTrack plant track tracks) h) refl
  by (Some (plant, Doubled track)) is h = subst (λ f. IsRefused f (Some (plant, Doubled track))) (same fault (SameTrack plant track) h) refl

-- a tractor that is added has its plants on tracks that are there, and a frame
pub record IsAdded (us : List Node) (level : Level) : Type 0 where
  pub on_tracks : level_misplaced level ≡ None
  pub some : 1 ≤ len (tree_of (us ++ tractor_of level ∷ []) (length us))

pub added_is : {A : Type 0} (us : List Node) (level : Level) (x : A) → FailsBy (tractor_fault level (len (node_tree (tree_of us) (tractor_of level)))) (Ok x) → IsAdded us level
added_is {A} us level x h = by (level_misplaced level) refl h where
  frames : ℕ
  frames = len (node_tree (tree_of us) (tractor_of level))

  tracks : ℕ
  tracks = length (drafts_of level)

  fault_by : Option (ℕ × Misplaced) → Option GraphFault
  fault_by (Some wrong) = Some (misplaced_fault tracks wrong)
  fault_by None = cond (nat_eq frames 0) (Some NoProducer) None

  not_both : (fault : GraphFault) → FailsBy (Some fault) (Ok x) → ⊥
  not_both fault h = grind arith

  some : (t : Bool) → nat_eq frames 0 ≡ t → FailsBy (cond t (Some NoProducer) None) (Ok x) → 1 ≤ frames
  some true is h = absurd (not_both NoProducer h)
  some false is h = grind (arith, nat_tests)

  by : (wrong : Option (ℕ × Misplaced)) → level_misplaced level ≡ wrong → FailsBy (fault_by wrong) (Ok x) → IsAdded us level
  by None is h = record {
    on_tracks = is;
    some = omega (arith, ap len (tree_of-new us (tractor_of level)), some (nat_eq frames 0) refl h);
  }
  by (Some wrong) is h = absurd (not_both (misplaced_fault tracks wrong) h)

-- a graph that is refused
pub not_sealed : (count : ℕ) (places : List ℕ) (us : List Node) (top : ℕ) (fault : GraphFault) → 1 ≤ len (tree_of us top) → sealed_within us top ≡ Err fault → TryFails (refusal_of count places fault) (sealable count us top)
not_sealed count places us top fault some h =
    by (ltb 16 (depth_of us top)) refl (ltb 65536 (weight (tree_of us top))) refl h
  where
    frames : nat_eq (len (tree_of us top)) 0 ≡ false
    frames = equals_none (len (tree_of us top)) some

    by : (b : Bool) → ltb 16 (depth_of us top) ≡ b → (c : Bool) → ltb 65536 (weight (tree_of us top)) ≡ c → outcome b c (TooDeep (depth_of us top)) (TooMany 65536) (record { units = us; top = top }) ≡ Err fault → TryFails (refusal_of count places fault) (sealable count us top)
    by true deep c heavy h =
        subst (λ f. TryFails (refusal_of count places f) (sealable count us top)) (ap (err_or fault) h) (tested count us top false false (leb (weight (tree_of us top)) 65536) frames (greater 16 (depth_of us top) deep) refl)
    by false deep true heavy h =
        subst (λ f. TryFails (refusal_of count places f) (sealable count us top)) (ap (err_or fault) h) (tested count us top false true false frames (not_greater 16 (depth_of us top) deep) (greater 65536 (weight (tree_of us top)) heavy))
    by false deep false heavy h = let apart : ⊥ = grind arith in absurd apart

-- a graph that is sealed
pub sealed_well : (count : ℕ) (us : List Node) (top : ℕ) (shown : Shown) → 1 ≤ len (tree_of us top) → sealed_within us top ≡ Ok shown → sealable count us top ≡ Ok tt
sealed_well count us top shown some h =
    by (ltb 16 (depth_of us top)) refl (ltb 65536 (weight (tree_of us top))) refl h
  where
    frames : nat_eq (len (tree_of us top)) 0 ≡ false
    frames = equals_none (len (tree_of us top)) some

    by : (b : Bool) → ltb 16 (depth_of us top) ≡ b → (c : Bool) → ltb 65536 (weight (tree_of us top)) ≡ c → outcome b c (TooDeep (depth_of us top)) (TooMany 65536) (record { units = us; top = top }) ≡ Ok shown → sealable count us top ≡ Ok tt
    by true deep c heavy h = let apart : ⊥ = grind arith in absurd apart
    by false deep true heavy h = let apart : ⊥ = grind arith in absurd apart
    by false deep false heavy h =
        tested count us top false true true frames (not_greater 16 (depth_of us top) deep) (not_greater 65536 (weight (tree_of us top)) heavy)

-- what is said of the graph is said of the whole, where the plants are on tracks that are there
pub checked_is : (count : ℕ) (places : List ℕ) (us : List Node) (level : Level) (all : List Node) (top : ℕ) → IsAdded us level → checked_by count places (length (drafts_of level)) (level_misplaced level) all top ≡ sealable count all top
checked_is count places us level all top added =
    ap (λ wrong. checked_by count places (length (drafts_of level)) wrong all top) added.on_tracks

last_unit : (us : List Node) (u : Node) (unit : ℕ) → unit < length (us ++ u ∷ []) → ltb unit (length us) ≡ false → unit ≡ length us
last_unit us u unit below outside = grind (arith, common_steps, nat_tests)

-- one unit more
pub fits_more : (table : List Source) (us : List Node) (u : Node) → FitsBody table u.body → FitsUnits table us → FitsUnits table (us ++ u ∷ [])
fits_more table us u own h unit node below is = by (ltb unit (length us)) refl where
  by : (b : Bool) → ltb unit (length us) ≡ b → FitsBody table node.body
  by true inside =
      h unit node (ltb-true unit (length us) inside) (is ∙ get_or_append_left us (u ∷ []) node unit (ltb-true unit (length us) inside))
  by false outside =
      let last : unit ≡ length us = last_unit us u unit below outside in
      subst (λ n. FitsBody table n.body) (sym (is ∙ ap (λ k. get_or (us ++ u ∷ []) k node) last ∙ get_or-append_seam us u [] node)) own

-- a composition that can be sealed is the show of its tree
pub seal-tree : (count : ℕ) (s : State) → checked count s.plant_places s.level (all_units s) (length s.made.units) ≡ Ok tt → seal_of count s ≡ show_of_tree count s (whole_tree s)
unfolding seal_of
seal-tree count s h = by (plants_placed s) (sealable count (all_units s) (length s.made.units)) h where
  by : (a b : Result (Unit {0}) Refusal) → (a >>= λ on_tracks. b) ≡ Ok tt → (a >>= λ on_tracks. b >>= λ whole. show_of_tree count s (whole_tree s)) ≡ show_of_tree count s (whole_tree s)
  by (Ok x) (Ok y) h = refl
  by (Ok x) (Err e) h = let apart : ⊥ = grind arith in absurd apart
  by (Err e) b h = let apart : ⊥ = grind arith in absurd apart

-- one that can't is refused
pub seal-fails : (count : ℕ) (s : State) (refused : Try Refusal) → TryFails refused (checked count s.plant_places s.level (all_units s) (length s.made.units)) → TryFails refused (seal_of count s)
unfolding seal_of
seal-fails count s (try.Fault refusal) h = by (plants_placed s) (sealable count (all_units s) (length s.made.units)) h where
  by : (a b : Result (Unit {0}) Refusal) → (a >>= λ on_tracks. b) ≡ Err refusal → (a >>= λ on_tracks. b >>= λ whole. show_of_tree count s (whole_tree s)) ≡ Err refusal
  by (Ok x) (Ok y) h = let apart : ⊥ = grind arith in absurd apart
  by (Ok x) (Err e) h = ap (λ (r : Result (Unit {0}) Refusal). r >>= λ whole. show_of_tree count s (whole_tree s)) h
  by (Err e) b h = ap (λ (r : Result (Unit {0}) Refusal). r >>= λ whole. show_of_tree count s (whole_tree s)) h
seal-fails count s try.Memory h = tt
