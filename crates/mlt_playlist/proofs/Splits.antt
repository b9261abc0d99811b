-- A split, by the place in its entry.
use Rattle.std.proofs.Common.{◌≡◌, ℕ, ◌+◌, ◌<◌, ◌≤◌, min, ℤ, true, nat_le, List, [], ◌++◌, length, take, drop, slice_get, Option, None, Some, option_map, Result, Ok, inl, inr, refl, sym, ap, subst, ◌∙◌, append-nil, length-take, arith}
use Rattle.std.proofs.lemmas.Bool.Decides.{nat_tests}
use Rattle.std.proofs.lemmas.List.{take-append-drop}
use Rattle.std.proofs.lemmas.Option.{slice_get-get_or, slice_get_cases}
use Rattle.mlt_base.specs.declared.faults.PlayFault.{PlayFault}
use Rattle.mlt_base.specs.declared.refusal.Try.{Try}
use Rattle.mlt_tree.specs.declared.entry.Entry.{Entry}
use Rattle.mlt_tree.specs.declared.entry.Entry.TheVariants.{Gap}
use Rattle.mlt_tree.specs.Ranges.{frames}
use Rattle.mlt_tree.specs.Edits.{frames_in, grown, replaced, with_entry, before_split, split, split_at, first_frames, frames_from}
use Rattle.mlt_playlist.specs.Place.{IsAt, before, rest, divided, entry_at}
use Rattle.mlt_playlist.specs.Playlist.{IsList, Does}
use Rattle.mlt_playlist.proofs.Counts.{grown-ok}

-- an entry that is found, by its frames
record IsFound (es : List Entry) (at n : ℕ) : Type 0 where
  there : at < length es
  is : slice_get es at ≡ Some (entry_at es at)
  frames : n ≡ frames (entry_at es at)

found : (es : List Entry) (at n : ℕ) → Some n ≡ option_map frames (slice_get es at) → IsFound es at n
found es at n is = elim (slice_get_cases es at).1 [
  | inl w ↦
      let read : slice_get es at ≡ Some (entry_at es at) = slice_get-get_or es at (Gap 0) w.1 in
      record { there = w.1; is = read; frames = some (is ∙ ap (option_map frames) read) }
  | inr w ↦ absurd (past w.1)
]
  where
    some : {a b : ℕ} → Some a ≡ Some b → a ≡ b
    some e = cc

    past : slice_get es at ≡ None → ⊥
    past none =
        let no : ◌≡◌ {A = Option ℕ} (Some n) None = is ∙ ap (option_map frames) none in
        cc

split-is : (es : List Entry) (at n place : ℕ) (k : ℤ) → IsFound es at n → Some place ≡ before_split n k
    → split at k es ≡ grown tt (replaced es at 1 (divided (entry_at es at) place place []))
split-is es at n place k there chosen =
    let here : slice_get es at ≡ Some (entry_at es at) = there.is in
    let after : before_split (frames (entry_at es at)) k ≡ Some place = sym (rw there.frames at chosen) in
    rw (here, after, with_entry, split) refl

pub split-does : (es new : List Entry) (at n place : ℕ) (k : ℤ) (result : Result (Unit {0}) (Try PlayFault))
    → Some n ≡ option_map frames (slice_get es at) → Some place ≡ before_split n k
    → Does (grown tt (replaced es at 1 (divided (entry_at es at) place place []))) es new result
    → Does (split at k es) es new result
split-does es new at n place k result is chosen done =
    subst (λ edit. Does edit es new result) (sym (split-is es at n place k (found es at n is) chosen)) done

stays : (es : List Entry) (at i p : ℕ) → IsList es → at ≤ frames_in es → IsAt es at i p → p ≡ 0 → split_at at es ≡ Ok (i, es)
stays es at i p list h is none =
    let inside : nat_le at (frames_in es) ≡ true = grind (arith, nat_tests) in
    let parts : first_frames es at ++ frames_from es at ≡ es = ap (λ l. l ++ frames_from es at) first ∙ ap (λ l. take i es ++ l) from ∙ take-append-drop i es in
    let long : length (first_frames es at) ≡ i = ap length first ∙ omega (arith, length-take i es, is.within) in
    rw (inside, parts, long) (grown-ok i es list.few list.short)
  where
    first : first_frames es at ≡ take i es
    first = is.first ∙ ap (λ k. take i es ++ before (entry_at es i) k) none ∙ append-nil (take i es)

    from : frames_from es at ≡ drop i es
    from = is.from ∙ ap (λ k. rest (entry_at es i) k ++ drop (i + min k 1) es) none ∙ ap (λ k. drop k es) same
      where
        same : i + min 0 1 ≡ i
        same = omega arith

-- at the start of an entry the list stays
pub split_at-start : (es : List Entry) (count at i p : ℕ) → IsList es → count ≡ frames_in es → at ≤ count → IsAt es at i p → p ≡ 0 → split_at at es ≡ Ok (i, es)
split_at-start es count at i p list all h place none = stays es at i p list (omega arith) place none
