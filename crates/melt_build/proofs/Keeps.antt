-- What holds of each entry of a list holds after an edit, where it holds of what is put in.
use Rattle.std.proofs.Common.{ℕ, ◌≡◌, ◌+◌, ◌-◌, min, ◌<◌, ◌≤◌, ◌^◌, ℤ, pos, negsuc, Bool, true, false, ◌&&◌, cond, ltb, ltb-true, leb, leb-true, List, [], ◌∷◌, ◌++◌, length, take, drop, replicate, slice_get, Option, None, Some, Ok, Err, All, refl, ap, subst, arith, length-take, length-drop}
use Rattle.std.proofs.lemmas.Bool.{and_parts}
use Rattle.std.proofs.lemmas.List.Sums.{sum_by-cons}
use Rattle.std.proofs.lemmas.List.Elements.{All-nil, All-cons, All-tail, All-head, All-append, All-take, All-drop, All-replicate, All-get_or, All-weaker}
use Rattle.std.proofs.lemmas.Option.{slice_get_within, get_or_from_slice_get}
use Rattle.std.specs.Result.{result_unwrap_or}
use Rattle.mlt_base.specs.Reading.{held}
use Rattle.mlt_base.specs.declared.faults.PlayFault.{PlayFault}
use Rattle.mlt_base.specs.declared.value.Span.{Span}
use Rattle.mlt_base.specs.declared.value.UnitId.{UnitId}
use Rattle.mlt_tree.specs.declared.tree.Attached.{Attached}
use Rattle.mlt_tree.specs.declared.entry.Entry.{Entry}
use Rattle.mlt_tree.specs.declared.entry.Entry.TheVariants.{Clip, Gap}
use Rattle.mlt_tree.specs.Ranges.{IsEntry, frames}
use Rattle.mlt_tree.specs.Edits as edit
use Rattle.mlt_tree.specs.Edits.{Edited, grown, Mixed, frames_in, replaced, with_entry, bad_clip, cut, clip, halves, before_split, mixed_of, mixed_parts}
use Rattle.mlt_tree.specs.Units.{IsEntryBelow, AreEntriesBelow}
use Rattle.mlt_playlist.specs.Playlist.{IsList}
use Rattle.melt_build.specs.State.{IsKnown}
use Rattle.mlt_playlist.proofs.Counts.{frames_in-part}
use Rattle.mlt_playlist.proofs.Frames.{has_frame, frames-cut, frames-one, IsEntry-cut}

-- an answer and a list
abbrev answered : {A : Type 0} → A → List Entry → Edited A
answered x es = Ok (x, es)

pub edit_one : {A : Type 0} (x y : A) (es fs : List Entry) → answered x es ≡ answered y fs → (x ≡ y) × (es ≡ fs)
edit_one {A} x y es fs h =
    (ap (λ (r : Edited A). (result_unwrap_or {T = A × List Entry} r (x, es)).0) h, ap (λ (r : Edited A). (result_unwrap_or {T = A × List Entry} r (x, es)).1) h)

not_refused : {A : Type 0} (e : PlayFault) (y : A) (fs : List Entry) → Err e ≡ answered y fs → ⊥
not_refused e y fs h = grind arith

-- a list that may have grown is the list that was made
pub grown_is : {A : Type 0} (x y : A) (es fs : List Entry) → grown x es ≡ answered y fs → (x ≡ y) × (es ≡ fs)
grown_is x y es fs h = by (ltb 100000 (length es)) (ltb (frames_in es) (2 ^ 31)) h where
  by : (b c : Bool) → cond b (Err (PlayFault.TooMany 100000)) (cond c (answered x es) (Err (PlayFault.TooLong (frames_in es)))) ≡ answered y fs → (x ≡ y) × (es ≡ fs)
  by true c h = absurd (not_refused _ y fs h)
  by false true h = edit_one x y es fs h
  by false false h = absurd (not_refused _ y fs h)

-- an edit of an entry has one
pub record Entered {A : Type 0} (es : List Entry) (at : ℕ) (act : Entry → Edited A) (y : A) (fs : List Entry) : Type 0 where
  pub entry : Entry
  pub here : slice_get es at ≡ Some entry
  pub done : act entry ≡ answered y fs

pub entered : {A : Type 0} (es : List Entry) (at : ℕ) (act : Entry → Edited A) (y : A) (fs : List Entry) → with_entry es at act ≡ answered y fs → Entered es at act y fs
entered {A} es at act y fs h = by (slice_get es at) refl h where
  run : Option Entry → Edited A
  run None = bad_clip es at
  run (Some e) = act e

  by : (o : Option Entry) → slice_get es at ≡ o → run o ≡ answered y fs → Entered es at act y fs
  by None is h = absurd (not_refused _ y fs h)
  by (Some e) is h = record { entry = e; here = is; done = h }

-- both halves have a frame
abbrev IsSplit : ℕ → Option ℕ → Type 0
IsSplit frames None = Unit {0}
IsSplit frames (Some count) = (1 ≤ count) × (count < frames)

before_split-inside : (frames : ℕ) (k : ℤ) → IsSplit frames (before_split frames k)
before_split-inside frames (pos k) = by (ltb (k + 1) frames) refl where
  by : (b : Bool) → ltb (k + 1) frames ≡ b → IsSplit frames (cond b (Some (k + 1)) None)
  by true h = (omega arith, ltb-true (k + 1) frames h)
  by false h = tt
before_split-inside frames (negsuc k) = by (ltb (k + 1) frames) refl where
  by : (b : Bool) → ltb (k + 1) frames ≡ b → IsSplit frames (cond b (Some (frames - 1 - k)) None)
  by true h = let inside : k + 1 < frames = ltb-true (k + 1) frames h in (omega (arith, inside), omega (arith, inside))
  by false h = tt

module _ (P : Entry → Type 0) where
  at_index : (es : List Entry) (at : ℕ) (e : Entry) → All P es → slice_get es at ≡ Some e → P e
  at_index es at e all h =
      subst P (get_or_from_slice_get es at e e h) (All-get_or P es at e (slice_get_within es at e h) all)

  pub keeps_replaced : (es new : List Entry) (at n : ℕ) → All P es → All P new → All P (replaced es at n new)
  keeps_replaced es new at n all more =
      All-append P (take at es) (new ++ drop (at + n) es) (All-take P at es all) (All-append P new (drop (at + n) es) more (All-drop P (at + n) es all))

  pub keeps_append : (entry : Entry) (es fs : List Entry) (y : Unit {0}) → P entry → All P es → edit.append entry es ≡ answered y fs → All P fs
  keeps_append entry es fs y one all h =
      subst (All P) (grown_is tt y (es ++ entry ∷ []) fs h).1 (All-append P es (entry ∷ []) all (All-cons P entry [] one (All-nil P)))

  pub keeps_remove : (at : ℕ) (es fs : List Entry) (y : Entry) → All P es → edit.remove at es ≡ answered y fs → All P fs
  keeps_remove at es fs y all h =
      let e = entered es at (λ e. answered e (replaced es at 1 [])) y fs h in
      subst (All P) (edit_one e.entry y (replaced es at 1 []) fs e.done).1 (keeps_replaced es [] at 1 all (All-nil P))

  pub keeps_repeat : (at n : ℕ) (es fs : List Entry) (y : Unit {0}) → All P es → edit.repeat_clip at n es ≡ answered y fs → All P fs
  keeps_repeat at n es fs y all h =
      let e = entered es at (λ e. grown tt (replaced es at 1 (replicate n e))) y fs h in
      subst (All P) (grown_is tt y (replaced es at 1 (replicate n e.entry)) fs e.done).1 (keeps_replaced es (replicate n e.entry) at 1 all (All-replicate P n e.entry (at_index es at e.entry all e.here)))

  pub keeps_split : ((e : Entry) (a b : ℕ) → 1 ≤ b → b ≤ frames e → P e → P (cut e a b)) → (at : ℕ) (k : ℤ) (es fs : List Entry) (y : Unit {0}) → All P es → edit.split at k es ≡ answered y fs → All P fs
  keeps_split cuts at k es fs y all h =
      let e = entered es at (λ e. by e (before_split (frames e) k)) y fs h in
      found e.entry (at_index es at e.entry all e.here) (before_split (frames e.entry) k) (before_split-inside (frames e.entry) k) e.done
    where
      by : Entry → Option ℕ → Edited (Unit {0})
      by e None = Err (PlayFault.BadSplit k (frames e))
      by e (Some count) = grown tt (replaced es at 1 (halves e count))

      found : (e : Entry) → P e → (o : Option ℕ) → IsSplit (frames e) o → by e o ≡ answered y fs → All P fs
      found e here None inside h = absurd (not_refused _ y fs h)
      found e here (Some count) inside h =
          subst (All P) (grown_is tt y (replaced es at 1 (halves e count)) fs h).1 (keeps_replaced es (halves e count) at 1 all (All-cons P (cut e 0 count) (cut e count (frames e) ∷ []) (cuts e 0 count inside.0 (omega (arith, inside.1)) here) (All-cons P (cut e count (frames e)) [] (cuts e count (frames e) (omega (arith, inside.0, inside.1)) (omega arith) here) (All-nil P))))

  pub keeps_attach : ((unit : UnitId) (span : Span) (filters : List Attached) (filter : Attached) → P (Clip unit span filters) → P (Clip unit span (filters ++ filter ∷ []))) → (at : ℕ) (filter : Attached) (es fs : List Entry) (y : Unit {0}) → All P es → edit.attach at filter es ≡ answered y fs → All P fs
  keeps_attach more at filter es fs y all h =
      let e = entered es at by y fs h in
      found e.entry (at_index es at e.entry all e.here) e.done
    where
      by : Entry → Edited (Unit {0})
      by (Clip unit s filters) = Ok (tt, replaced es at 1 (Clip unit s (filters ++ filter ∷ []) ∷ []))
      by (Gap count) = bad_clip es at

      found : (e : Entry) → P e → by e ≡ answered y fs → All P fs
      found (Clip unit s filters) here h =
          subst (All P) (edit_one tt y (replaced es at 1 (Clip unit s (filters ++ filter ∷ []) ∷ [])) fs h).1 (keeps_replaced es (Clip unit s (filters ++ filter ∷ []) ∷ []) at 1 all (All-cons P (Clip unit s (filters ++ filter ∷ [])) [] (more unit s filters filter here) (All-nil P)))
      found (Gap count) here h = absurd (not_refused _ y fs h)

  pub keeps_swap : (es fs : List Entry) (y : Unit {0}) → All P es → edit.swap_last es ≡ answered y fs → All P fs
  keeps_swap es fs y all h = by (drop (length es - 2) es) (All-drop P (length es - 2) es all) h where
    front : List Entry
    front = take (length es - 2) es

    run : List Entry → Edited (Unit {0})
    run [] = edit.too_few es 0 2
    run (a ∷ []) = edit.too_few es 0 2
    run (a ∷ b ∷ rest) = Ok (tt, front ++ (b ∷ a ∷ []))

    by : (last : List Entry) → All P last → run last ≡ answered y fs → All P fs
    by [] some h = absurd (not_refused _ y fs h)
    by (a ∷ []) some h = absurd (not_refused _ y fs h)
    by (a ∷ b ∷ rest) some h =
        let first : P a = All-head P a (b ∷ rest) some in
        let second : P b = All-head P b rest (All-tail P a (b ∷ rest) some) in
        subst (All P) (edit_one tt y (front ++ (b ∷ a ∷ [])) fs h).1 (All-append P front (b ∷ a ∷ []) (All-take P (length es - 2) es all) (All-cons P b (a ∷ []) second (All-cons P a [] first (All-nil P))))

  pub keeps_join : (at n unit : ℕ) (es fs gs : List Entry) → All P es → P (clip unit 0 (frames_in (take n (drop at es)) - 1) []) → edit.join at n unit es ≡ answered gs fs → All P fs
  keeps_join at n unit es fs gs all new h = by (ltb 0 n && leb (at + n) (length es)) h where
    part : List Entry
    part = take n (drop at es)

    by : (b : Bool) → cond b (answered part (replaced es at n (clip unit 0 (frames_in part - 1) [] ∷ []))) (edit.too_few es at (held n)) ≡ answered gs fs → All P fs
    by true h =
        subst (All P) (edit_one part gs (replaced es at n (clip unit 0 (frames_in part - 1) [] ∷ [])) fs h).1 (keeps_replaced es (clip unit 0 (frames_in part - 1) [] ∷ []) at n all (All-cons P (clip unit 0 (frames_in part - 1) []) [] new (All-nil P)))
    by false h = absurd (not_refused _ gs fs h)

-- a mix has two entries, which overlap
pub record IsMixed (at n unit : ℕ) (es : List Entry) (y : Mixed) (fs : List Entry) : Type 0 where
  pub a : Entry
  pub b : Entry
  pub rest : List Entry
  pub here : drop at es ≡ a ∷ b ∷ rest
  pub parts : mixed_parts (min n (min (frames a) (frames b))) a b ≡ y
  pub list : replaced es at 2 (mixed_of unit (min n (min (frames a) (frames b))) a b) ≡ fs

pub mixed_is : (at n unit : ℕ) (es fs : List Entry) (y : Mixed) → edit.mix at n unit es ≡ answered y fs → IsMixed at n unit es y fs
mixed_is at n unit es fs y h = by (drop at es) refl h where
  run : List Entry → Edited Mixed
  run [] = edit.too_few es at 2
  run (a ∷ []) = edit.too_few es at 2
  run (a ∷ b ∷ rest) =
      grown (mixed_parts (min n (min (frames a) (frames b))) a b) (replaced es at 2 (mixed_of unit (min n (min (frames a) (frames b))) a b))

  by : (behind : List Entry) → drop at es ≡ behind → run behind ≡ answered y fs → IsMixed at n unit es y fs
  by [] is h = absurd (not_refused _ y fs h)
  by (a ∷ []) is h = absurd (not_refused _ y fs h)
  by (a ∷ b ∷ rest) is h =
      let m : ℕ = min n (min (frames a) (frames b)) in
      let same = grown_is (mixed_parts m a b) y (replaced es at 2 (mixed_of unit m a b)) fs h in
      record { a = a; b = b; rest = rest; here = is; parts = same.0; list = same.1 }

module _ (P : Entry → Type 0) (cuts : (e : Entry) (a b : ℕ) → 1 ≤ b → b ≤ frames e → P e → P (cut e a b)) where
  left_part : (m : ℕ) (a : Entry) → P a → All P (cond (ltb m (frames a)) (cut a 0 (frames a - m) ∷ []) [])
  left_part m a here = by (ltb m (frames a)) refl where
    by : (t : Bool) → ltb m (frames a) ≡ t → All P (cond t (cut a 0 (frames a - m) ∷ []) [])
    by true h =
        let less : m < frames a = ltb-true m (frames a) h in
        All-cons P (cut a 0 (frames a - m)) [] (cuts a 0 (frames a - m) (omega (arith, less)) (omega arith) here) (All-nil P)
    by false h = All-nil P

  right_part : (m : ℕ) (b : Entry) → P b → All P (cond (ltb m (frames b)) (cut b m (frames b) ∷ []) [])
  right_part m b here = by (ltb m (frames b)) refl where
    by : (t : Bool) → ltb m (frames b) ≡ t → All P (cond t (cut b m (frames b) ∷ []) [])
    by true h =
        let less : m < frames b = ltb-true m (frames b) h in
        All-cons P (cut b m (frames b)) [] (cuts b m (frames b) (omega (arith, less)) (omega arith) here) (All-nil P)
    by false h = All-nil P

  pub keeps_mixed : (unit m : ℕ) (a b : Entry) → P a → P b → P (clip unit 0 (m - 1) []) → All P (mixed_of unit m a b)
  keeps_mixed unit m a b first second new =
      let behind : List Entry = cond (ltb m (frames b)) (cut b m (frames b) ∷ []) [] in
      All-append P (cond (ltb m (frames a)) (cut a 0 (frames a - m) ∷ []) []) (clip unit 0 (m - 1) [] ∷ behind) (left_part m a first) (All-cons P (clip unit 0 (m - 1) []) behind new (right_part m b second))

-- what is joined is a part of the list
pub joined_is : (at n unit : ℕ) (es fs gs : List Entry) → edit.join at n unit es ≡ answered gs fs → take n (drop at es) ≡ gs
joined_is at n unit es fs gs h = by (ltb 0 n && leb (at + n) (length es)) h where
  part : List Entry
  part = take n (drop at es)

  by : (b : Bool) → cond b (answered part (replaced es at n (clip unit 0 (frames_in part - 1) [] ∷ []))) (edit.too_few es at (held n)) ≡ answered gs fs → part ≡ gs
  by true h = (edit_one part gs (replaced es at n (clip unit 0 (frames_in part - 1) [] ∷ [])) fs h).0
  by false h = absurd (not_refused _ gs fs h)

-- what is known of an entry is known with more units too
pub known_more : (n m : ℕ) → n ≤ m → (e : Entry) → IsKnown n e → IsKnown m e
known_more n m h (Clip unit span filters) known = record { below = omega (arith, known.below); short = known.short }
known_more n m h (Gap count) known = record { below = tt; short = tt }

pub all_known_more : (n m : ℕ) (es : List Entry) → n ≤ m → All (IsKnown n) es → All (IsKnown m) es
all_known_more n m es h all = All-weaker (IsKnown n) (IsKnown m) (known_more n m h) es all

-- a cut is of the same unit, and ends where the entry does or before
pub cut_known : (n : ℕ) (e : Entry) (a b : ℕ) → 1 ≤ b → b ≤ frames e → IsKnown n e → IsKnown n (cut e a b)
cut_known n (Clip unit span filters) a b some inside known = record { below = known.below; short = omega (arith, some, inside, known.short) }
cut_known n (Gap count) a b some inside known = record { below = tt; short = tt }

-- a filter more leaves the unit and the frames
pub filter_known : (n : ℕ) (unit : UnitId) (span : Span) (filters : List Attached) (filter : Attached) → IsKnown n (Clip unit span filters) → IsKnown n (Clip unit span (filters ++ filter ∷ []))
filter_known n unit span filters filter known = record { below = known.below; short = known.short }

long_enough : (at n : ℕ) (es : List Entry) → (ltb 0 n && leb (at + n) (length es)) ≡ true → 1 ≤ length (take n (drop at es))
long_enough at n es tests =
    let parts = and_parts (ltb 0 n) (leb (at + n) (length es)) tests in
    let some : 0 < n = ltb-true 0 n parts.0 in
    let inside : at + n ≤ length es = leb-true (at + n) (length es) parts.1 in
    simp (length-take, length-drop) (omega (arith, some, inside))

-- entries have a frame each
some_frames : (es : List Entry) → All IsEntry es → 1 ≤ length es → 1 ≤ frames_in es
some_frames [] all some = absurd (omega (arith, some))
some_frames (e ∷ es) all some = omega (arith, sum_by-cons frames e es, has_frame e (All-head IsEntry e es all))

-- what is joined has a frame, and not more than the list
pub joined_frames : (at n unit : ℕ) (es fs gs : List Entry) → IsList es → edit.join at n unit es ≡ answered gs fs → (1 ≤ frames_in gs) × (frames_in gs < 2 ^ 31)
joined_frames at n unit es fs gs list h = by (ltb 0 n && leb (at + n) (length es)) refl h where
  part : List Entry
  part = take n (drop at es)

  by : (b : Bool) → (ltb 0 n && leb (at + n) (length es)) ≡ b → cond b (answered part (replaced es at n (clip unit 0 (frames_in part - 1) [] ∷ []))) (edit.too_few es at (held n)) ≡ answered gs fs → (1 ≤ frames_in gs) × (frames_in gs < 2 ^ 31)
  by true tests h =
      let same : part ≡ gs = (edit_one part gs (replaced es at n (clip unit 0 (frames_in part - 1) [] ∷ [])) fs h).0 in
      let many : 1 ≤ length part = long_enough at n es tests in
      let some : 1 ≤ frames_in part = some_frames part (All-take IsEntry n (drop at es) (All-drop IsEntry at es list.entries)) many in
      subst (λ p. (1 ≤ frames_in p) × (frames_in p < 2 ^ 31)) same (some, omega (arith, frames_in-part es at n, list.short))
  by false tests h = absurd (not_refused _ gs fs h)

-- ---- mixes

-- the parts of a mix, of which none has too many frames
pub record AreParts (count : ℕ) (y : Mixed) : Type 0 where
  pub below : AreEntriesBelow count (y.a ∷ y.b ∷ [])
  pub halves : (frames y.a < 2 ^ 31) × (frames y.b < 2 ^ 31)
  pub some : 1 ≤ y.frames
  pub short : y.frames < 2 ^ 31

first_frames : (es : List Entry) (at : ℕ) (a b : Entry) (rest : List Entry) → drop at es ≡ a ∷ b ∷ rest → frames a ≤ frames_in es
first_frames es at a b rest here =
    omega (arith, frames_in-part es at 1, ap (λ es. frames_in (take 1 es)) here, frames-one a)

pub mixed_parts_are : (count at n unit : ℕ) (es fs : List Entry) (y : Mixed) → 1 ≤ n → IsList es → All (IsKnown count) es → edit.mix at n unit es ≡ answered y fs → AreParts count y
mixed_parts_are count at n unit es fs y some list all done =
    let h = mixed_is at n unit es fs y done in
    let a : Entry = h.a in
    let b : Entry = h.b in
    let m : ℕ = min n (min (frames a) (frames b)) in
    let entries : All IsEntry (a ∷ b ∷ h.rest) = subst (All IsEntry) h.here (All-drop IsEntry at es list.entries) in
    let known : All (IsKnown count) (a ∷ b ∷ h.rest) = subst (All (IsKnown count)) h.here (All-drop (IsKnown count) at es all) in
    let first : IsEntry a = All-head IsEntry a (b ∷ h.rest) entries in
    let second : IsEntry b = All-head IsEntry b h.rest (All-tail IsEntry a (b ∷ h.rest) entries) in
    let known_a : IsKnown count a = All-head (IsKnown count) a (b ∷ h.rest) known in
    let known_b : IsKnown count b = All-head (IsKnown count) b h.rest (All-tail (IsKnown count) a (b ∷ h.rest) known) in
    let has : 1 ≤ m = omega (arith, some, has_frame a first, has_frame b second) in
    let left : m ≤ frames a = omega arith in
    let right : m ≤ frames b = omega arith in
    let cut_a : Entry = cut a (frames a - m) (frames a) in
    let cut_b : Entry = cut b 0 m in
    let starts : frames a - m < frames a = omega (arith, has, left) in
    let few : m < 2 ^ 31 = omega (arith, left, first_frames es at a b h.rest h.here, list.short) in
    subst (AreParts count) h.parts (record {
      below = record {
        below = All-cons (IsEntryBelow count) cut_a (cut_b ∷ []) (cut_known count a (frames a - m) (frames a) (has_frame a first) (omega arith) known_a).below (All-cons (IsEntryBelow count) cut_b [] (cut_known count b 0 m has right known_b).below (All-nil (IsEntryBelow count)));
        ranges = All-cons IsEntry cut_a (cut_b ∷ []) (IsEntry-cut a (frames a - m) (frames a) first starts) (All-cons IsEntry cut_b [] (IsEntry-cut b 0 m second has) (All-nil IsEntry));
      };
      halves = (omega (arith, frames-cut a (frames a - m) (frames a) starts, left, few), omega (arith, frames-cut b 0 m has, few));
      some = has;
      short = few;
    })

-- what is known of the entries is known behind a mix, with the clip of a unit that is there
pub mixed_known : (count at n unit : ℕ) (es fs : List Entry) (y : Mixed) → unit < count → y.frames < 2 ^ 31 → All (IsKnown count) es → edit.mix at n unit es ≡ answered y fs → All (IsKnown count) fs
mixed_known count at n unit es fs y there short all done =
    let h = mixed_is at n unit es fs y done in
    let m : ℕ = min n (min (frames h.a) (frames h.b)) in
    let known : All (IsKnown count) (h.a ∷ h.b ∷ h.rest) = subst (All (IsKnown count)) h.here (All-drop (IsKnown count) at es all) in
    let first : IsKnown count h.a = All-head (IsKnown count) h.a (h.b ∷ h.rest) known in
    let second : IsKnown count h.b = All-head (IsKnown count) h.b h.rest (All-tail (IsKnown count) h.a (h.b ∷ h.rest) known) in
    let frames_of : m ≡ y.frames = ap (λ (y : Mixed). y.frames) h.parts in
    let new : IsKnown count (clip unit 0 (m - 1) []) = record { below = there; short = omega (arith, frames_of, short) } in
    subst (All (IsKnown count)) h.list (keeps_replaced (IsKnown count) es (mixed_of unit m h.a h.b) at 2 all (keeps_mixed (IsKnown count) (cut_known count) unit m h.a h.b first second new))
