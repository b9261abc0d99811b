-- A mix, by the number of frames that overlap.
use Rattle.std.proofs.Common.{◌≡◌, ℕ, suc, ◌+◌, ◌-◌, ◌≤◌, ◌<◌, min, Bool, true, false, if◌then◌else◌, nat_lt, List, [], ◌∷◌, ◌++◌, All, length, take, drop, get_or, Result, Ok, Err, refl, sym, ap, subst, ◌∙◌, arith, length-append, length-drop}
use Rattle.std.specs.Int.{from_bool}
use Rattle.std.proofs.Math.Seq.{drop-cons}
use Rattle.std.proofs.lemmas.Bool.Decides.{nat_tests}
use Rattle.std.proofs.lemmas.List.{get_or_read}
use Rattle.std.proofs.lemmas.List.Elements.{All-append, All-cons, All-nil, All-get_or}
use Rattle.std.proofs.lemmas.List.Sums.{sum_by-append, sum_by-cons}
use Rattle.mlt_base.specs.declared.faults.PlayFault.{PlayFault}
use Rattle.mlt_base.specs.declared.faults.PlayFault.TheVariants.{TooFew}
use Rattle.mlt_tree.specs.declared.entry.Entry.{Entry}
use Rattle.mlt_tree.specs.declared.entry.Entry.TheVariants.{Gap}
use Rattle.mlt_tree.specs.Edits as edit
use Rattle.mlt_tree.specs.Edits.{Edited, Mixed, frames_in, grown, replaced, cut, clip, mixed_of, mix}
use Rattle.mlt_tree.specs.Ranges.{IsAttached, IsEntry, frames}
use Rattle.mlt_playlist.specs.Overlaps.{without_first, without_last}
use Rattle.mlt_playlist.specs.Place.{entry_at, sized}
use Rattle.mlt_playlist.specs.Playlist.{IsCounted, IsTested}
use Rattle.mlt_playlist.proofs.Counts.{All-one, length-replaced, frames_in-replaced, entries-replaced, grown-ok}
use Rattle.mlt_playlist.proofs.Frames.{has_frame, frames-cut, IsEntry-cut, frames-one}
use Rattle.mlt_playlist.proofs.Sizes.{IsSized, sized-tested, tested-counted}

-- too few entries
pub mix-few : (es kept : List Entry) (count at n unit : ℕ) (fault : PlayFault) → kept ≡ es → count ≡ length kept → count - at < 2 → fault ≡ TooFew 2 (count - at) → mix at n unit es ≡ Err fault
mix-few es kept count at n unit fault same counted h is =
    by (drop at es) refl (simp length-drop (omega (arith, long))) ∙ ap (λ k. Err (TooFew 2 (k - at))) (sym long) ∙ ap Err (sym is)
  where
    long : count ≡ length es
    long = counted ∙ ap length same

    by : (l : List Entry) → drop at es ≡ l → length l < 2 → mix at n unit es ≡ Err (TooFew 2 (length es - at))
    by [] is less = rw (is, mix) refl
    by (a ∷ []) is less = rw (is, mix) refl
    by (a ∷ b ∷ rest) is less = absurd (omega arith)

two_entries : (es : List Entry) (at : ℕ) → at + 1 < length es → drop at es ≡ entry_at es at ∷ entry_at es (at + 1) ∷ drop (at + 2) es
two_entries es at h =
    drop-cons es at (Gap 0) (omega arith) ∙ ap (λ k. entry_at es at ∷ drop k es) one ∙ ap (λ l. entry_at es at ∷ l) (drop-cons es (at + 1) (Gap 0) h) ∙ ap (λ k. entry_at es at ∷ entry_at es (at + 1) ∷ drop k es) two
  where
    one : suc at ≡ at + 1
    one = omega arith

    two : suc (at + 1) ≡ at + 2
    two = omega arith

-- enough entries
mix-is : (es : List Entry) (at n m unit : ℕ) → at + 1 < length es → m ≡ min n (min (frames (entry_at es at)) (frames (entry_at es (at + 1))))
    → mix at n unit es ≡ grown (edit.mixed_parts m (entry_at es at) (entry_at es (at + 1))) (replaced es at 2 (mixed_of unit m (entry_at es at) (entry_at es (at + 1))))
mix-is es at n m unit h is =
    let two : drop at es ≡ entry_at es at ∷ entry_at es (at + 1) ∷ drop (at + 2) es = two_entries es at h in
    rw (two, mix, is) refl

length-without_last : (e : Entry) (n : ℕ) → length (without_last e n) ≡ from_bool (nat_lt n (frames e))
length-without_last e n = by (nat_lt n (frames e)) where
  by : (t : Bool) → length (if t then cut e 0 (frames e - n) ∷ [] else []) ≡ from_bool t
  by true = refl
  by false = refl

length-without_first : (e : Entry) (n : ℕ) → length (without_first e n) ≡ from_bool (nat_lt n (frames e))
length-without_first e n = by (nat_lt n (frames e)) where
  by : (t : Bool) → length (if t then cut e n (frames e) ∷ [] else []) ≡ from_bool t
  by true = refl
  by false = refl

-- an entry that may have no frame left
record IsLeft (left : List Entry) (count : ℕ) : Type 0 where
  summed : frames_in left ≡ count
  entries : All IsEntry left

left_last : (e : Entry) (n : ℕ) → IsEntry e → IsLeft (without_last e n) (frames e - n)
left_last e n is = by (nat_lt n (frames e)) refl where
  by : (t : Bool) → nat_lt n (frames e) ≡ t → IsLeft (if t then cut e 0 (frames e - n) ∷ [] else []) (frames e - n)
  by true less =
      let some : 0 < frames e - n = grind (arith, nat_tests) in
      record { summed = omega (arith, frames-one (cut e 0 (frames e - n)), frames-cut e 0 (frames e - n) some); entries = All-one (cut e 0 (frames e - n)) (IsEntry-cut e 0 (frames e - n) is some) }
  by false less =
      let none : 0 ≡ frames e - n = grind (arith, nat_tests) in
      record { summed = none; entries = All-nil IsEntry }

left_first : (e : Entry) (n : ℕ) → IsEntry e → IsLeft (without_first e n) (frames e - n)
left_first e n is = by (nat_lt n (frames e)) refl where
  by : (t : Bool) → nat_lt n (frames e) ≡ t → IsLeft (if t then cut e n (frames e) ∷ [] else []) (frames e - n)
  by true less =
      let some : n < frames e = grind (arith, nat_tests) in
      record { summed = omega (arith, frames-one (cut e n (frames e)), frames-cut e n (frames e) some); entries = All-one (cut e n (frames e)) (IsEntry-cut e n (frames e) is some) }
  by false less =
      let none : 0 ≡ frames e - n = grind (arith, nat_tests) in
      record { summed = none; entries = All-nil IsEntry }

-- the entries of a mix are in their ranges
pub mixed-entries : (unit n : ℕ) (a b : Entry) → IsEntry a → IsEntry b → All IsEntry (mixed_of unit n a b)
mixed-entries unit n a b is_a is_b =
    All-append IsEntry (without_last a n) (clip unit 0 (n - 1) [] ∷ without_first b n) (left_last a n is_a).entries (All-cons IsEntry (clip unit 0 (n - 1) []) (without_first b n) (omega arith, All-nil IsAttached) (left_first b n is_b).entries)

-- the frames of two neighbours
frames-two : (es : List Entry) (at : ℕ) → at + 1 < length es → frames_in (take 2 (drop at es)) ≡ frames (entry_at es at) + frames (entry_at es (at + 1))
frames-two es at h = ap (λ l. frames_in (take 2 l)) (two_entries es at h) ∙ omega arith

-- the size of a list in which two neighbours overlap
pub mixed-sized : (es : List Entry) (at n unit : ℕ) → All IsEntry es → at + 1 < length es → 1 ≤ n → n ≤ frames (entry_at es at) → n ≤ frames (entry_at es (at + 1))
    → IsSized (replaced es at 2 (mixed_of unit n (entry_at es at) (entry_at es (at + 1)))) (length es - 1 + from_bool (nat_lt n (frames (entry_at es at))) + from_bool (nat_lt n (frames (entry_at es (at + 1))))) (frames_in es - n)
mixed-sized es at n unit old h some first second =
    let a : Entry = entry_at es at in
    let b : Entry = entry_at es (at + 1) in
    let between : Entry = clip unit 0 (n - 1) [] in
    let is_a : IsEntry a = All-get_or IsEntry es at (Gap 0) (omega arith) old in
    let is_b : IsEntry b = All-get_or IsEntry es (at + 1) (Gap 0) h old in
    let one : frames between ≡ n = omega arith in
    let left = left_last a n is_a in
    let right = left_first b n is_b in
    let new : List Entry = without_last a n ++ (between ∷ without_first b n) in
    let sum : frames_in new ≡ frames a - n + (n + (frames b - n)) =
    omega (arith, sum_by-append frames (without_last a n) (between ∷ without_first b n), sum_by-cons frames between (without_first b n), left.summed, right.summed) in
    let many : length new ≡ from_bool (nat_lt n (frames a)) + (1 + from_bool (nat_lt n (frames b))) =
    omega (arith, length-append (without_last a n) (between ∷ without_first b n), length-without_last a n, length-without_first b n) in
    record {
      counted = omega (arith, length-replaced es at 2 new (omega arith));
      summed = omega (arith, frames_in-replaced es at 2 new, frames-two es at h);
      entries = entries-replaced es at 2 new old (mixed-entries unit n a b is_a is_b);
    }

pub mixed-tested : (es : List Entry) (at n total fa fb small less i j k : ℕ) (a b : Entry) (result : Result ℕ PlayFault)
    → IsCounted es total → at + 1 < length es → 1 ≤ n → n ≤ frames (entry_at es at) → n ≤ frames (entry_at es (at + 1))
    → a ≡ get_or es at a → b ≡ get_or es (at + 1) b → fa ≡ frames a → fb ≡ frames b → small ≡ n → less ≡ n
    → i ≡ from_bool (nat_lt small fa) → j ≡ from_bool (nat_lt less fb) → k ≡ total - n → result ≡ sized (length es - 1 + i + j) k
    → (unit : ℕ) → IsTested (replaced es at 2 (mixed_of unit n (entry_at es at) (entry_at es (at + 1)))) result
mixed-tested es at n total fa fb small less i j k a b result counted h some first second read_a read_b of_a of_b one two is_i is_j is_k is unit =
    let size = mixed-sized es at n unit counted.list.entries h some first second in
    let here : a ≡ entry_at es at = get_or_read es at a (omega arith) read_a (Gap 0) in
    let next : b ≡ entry_at es (at + 1) = get_or_read es (at + 1) b h read_b (Gap 0) in
    rw (is, is_i, is_j, is_k, of_a, of_b, one, two, here, next, counted.counted) (sized-tested (replaced es at 2 (mixed_of unit n (entry_at es at) (entry_at es (at + 1)))) (length es - 1 + from_bool (nat_lt n (frames (entry_at es at))) + from_bool (nat_lt n (frames (entry_at es (at + 1))))) (frames_in es - n) size)

-- what a mix leaves
pub record IsMixed (es : List Entry) (at n unit : ℕ) (parts : Mixed) (now : List Entry) (all : ℕ) : Type 0 where
  pub does : mix at n unit es ≡ Ok (parts, now)
  pub counted : IsCounted now all

pub mixed : (es now : List Entry) (at n m unit total all : ℕ) (parts : Mixed) (between : Entry) → IsCounted es total → at + 1 < length es → 1 ≤ n
    → m ≡ min n (min (frames (entry_at es at)) (frames (entry_at es (at + 1))))
    → ((u : ℕ) → IsTested (replaced es at 2 (mixed_of u m (entry_at es at) (entry_at es (at + 1)))) (Ok all))
    → between ≡ clip unit 0 (m - 1) []
    → now ≡ replaced es at 2 (without_last (entry_at es at) m ++ (between ∷ without_first (entry_at es (at + 1)) m))
    → parts ≡ edit.mixed_parts m (entry_at es at) (entry_at es (at + 1))
    → IsMixed es at n unit parts now all
mixed es now at n m unit total all parts between counted h some is tested one list both =
    record {
      does = mix-is es at n m unit h is ∙ grown-ok (edit.mixed_parts m a b) (replaced es at 2 (mixed_of unit m a b)) (tested unit).0 (tested unit).1 ∙ ap (λ p. Ok (p, replaced es at 2 (mixed_of unit m a b))) (sym both) ∙ ap (λ l. Ok (parts, l)) (sym same);
      counted = subst (λ l. IsCounted l all) (sym same) (tested-counted (replaced es at 2 (mixed_of unit m a b)) all (mixed-sized es at m unit counted.list.entries h (omega (arith, has_frame a is_a, has_frame b is_b)) (omega arith) (omega arith)).entries (tested unit));
    }
  where
    a : Entry
    a = entry_at es at

    b : Entry
    b = entry_at es (at + 1)

    is_a : IsEntry a
    is_a = All-get_or IsEntry es at (Gap 0) (omega arith) counted.list.entries

    is_b : IsEntry b
    is_b = All-get_or IsEntry es (at + 1) (Gap 0) h counted.list.entries

    same : now ≡ replaced es at 2 (mixed_of unit m a b)
    same = list ∙ ap (λ x. replaced es at 2 (without_last a m ++ (x ∷ without_first b m))) one

-- the list that a mix leaves, by its meaning
pub mixed-list : (es now : List Entry) (at m unit : ℕ) (between : Entry) → between ≡ clip unit 0 (m - 1) []
    → now ≡ replaced es at 2 (without_last (entry_at es at) m ++ (between ∷ without_first (entry_at es (at + 1)) m)) → now ≡ replaced es at 2 (mixed_of unit m (entry_at es at) (entry_at es (at + 1)))
mixed-list es now at m unit between one list =
    list ∙ ap (λ x. replaced es at 2 (without_last (entry_at es at) m ++ (x ∷ without_first (entry_at es (at + 1)) m))) one
