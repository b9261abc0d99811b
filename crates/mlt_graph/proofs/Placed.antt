-- Plants on tracks that are there, and the fault of a level whose plants are not.
use Rattle.std.proofs.Common.{◌≡◌, ◌≢◌, ℕ, ◌<◌, Bool, true, false, cond, eqb, ltb, length, Option, None, Some, Err, Ok, refl, sym, subst, arith}
use Rattle.std.proofs.lemmas.Bool.Decides.{nat_tests}
use Rattle.std.proofs.lemmas.Option.{none-some}
use Rattle.mlt_base.specs.declared.value.UnitId.{UnitId}
use Rattle.mlt_tree.specs.Units.{Level, Misplaced, OffTracks, Doubled, drafts_of, level_misplaced, numbered_or}
use Rattle.mlt_graph.specs.Graph.{misplaced_fault, placed_or_empty, tractor_fault, FailsBy}
use Rattle.mlt_graph.specs.declared.fault.GraphFault.{GraphFault}
use Rattle.mlt_graph.specs.declared.fault.GraphFault.TheVariants.{NoProducer, Memory}

-- where a test gives nothing, or something, and gives nothing, it holds
nothing-true : {A : Type 0} (t : Bool) (x : A) → cond t None (Some x) ≡ None → t ≡ true
nothing-true true x is = refl
nothing-true false x is = absurd (none-some x (sym is))

nothing-then : {A : Type 0} (t : Bool) (rest : Option A) (x : A) → cond t rest (Some x) ≡ None → (t ≡ true) × (rest ≡ None)
nothing-then true rest x is = (refl, is)
nothing-then false rest x is = absurd (none-some x (sym is))

nothing-false : {A : Type 0} (t : Bool) (x : A) → cond t (Some x) None ≡ None → t ≡ false
nothing-false true x is = absurd (none-some x (sym is))
nothing-false false x is = refl

pub on-track : (track tracks : ℕ) → cond (ltb track tracks) None (Some (OffTracks track)) ≡ None → track < tracks
on-track track tracks is =
    let there : ltb track tracks ≡ true = nothing-true (ltb track tracks) (OffTracks track) is in
    grind (arith, nat_tests)

pub on-both : (a b tracks : ℕ) → cond (ltb a tracks) (cond (ltb b tracks) (cond (eqb a b) (Some (Doubled a)) None) (Some (OffTracks b))) (Some (OffTracks a)) ≡ None
    → (a < tracks) × (b < tracks) × (a ≢ b)
on-both a b tracks is =
    let first = nothing-then (ltb a tracks) _ (OffTracks a) is in
    let second = nothing-then (ltb b tracks) _ (OffTracks b) first.1 in
    let third : eqb a b ≡ false = nothing-false (eqb a b) (Doubled a) second.1 in
    let first_there : ltb a tracks ≡ true = first.0 in
    let second_there : ltb b tracks ≡ true = second.0 in
    (grind (arith, nat_tests), grind (arith, nat_tests), grind (arith, nat_tests))

pub parted-none : (plant : ℕ) (wrong : Option Misplaced) (later : Option (ℕ × Misplaced)) → numbered_or plant wrong later ≡ None → (wrong ≡ None) × (later ≡ None)
parted-none plant None later is = (refl, is)
parted-none plant (Some wrong) later is = absurd (none-some (plant, wrong) (sym is))

-- ---- a level that becomes a tractor

-- its plants are on tracks that are there, and it has a frame
pub record IsMakeable (level : Level) (frames : ℕ) : Type 0 where
  pub placed : level_misplaced level ≡ None
  pub some : frames ≢ 0

pub makeable : (level : Level) (frames : ℕ) → tractor_fault level frames ≡ None → IsMakeable level frames
makeable level frames is = by (level_misplaced level) refl is
  where
    by : (wrong : Option (ℕ × Misplaced)) → level_misplaced level ≡ wrong → placed_or_empty (length (drafts_of level)) frames wrong ≡ None → IsMakeable level frames
    by None placed is =
        let some : eqb frames 0 ≡ false = nothing-false (eqb frames 0) NoProducer is in
        record { placed = placed; some = grind (arith, nat_tests) }
    by (Some wrong) placed is = absurd (none-some (misplaced_fault (length (drafts_of level)) wrong) (sym is))

-- ---- what its tractor answers

-- a fault that there is
pub fails : (asked : Option GraphFault) (fault : GraphFault) → asked ≡ Some fault → FailsBy {A = UnitId} asked (Err fault)
fails asked fault is = subst (λ (f : Option GraphFault). FailsBy {A = UnitId} f (Err fault)) (sym is) refl

-- want of memory, where there is none
pub wants-memory : (asked : Option GraphFault) → asked ≡ None → FailsBy {A = UnitId} asked (Err Memory)
wants-memory asked is = subst (λ (f : Option GraphFault). FailsBy {A = UnitId} f (Err Memory)) (sym is) refl

-- and a unit
pub passes : (asked : Option GraphFault) (answer : UnitId) → asked ≡ None → FailsBy {A = UnitId} asked (Ok answer)
passes asked answer is = subst (λ (f : Option GraphFault). FailsBy {A = UnitId} f (Ok answer)) (sym is) tt
