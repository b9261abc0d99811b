-- How many entries and frames a list has in which an entry is cut in two.
use Rattle.std.proofs.Common.{◌≡◌, ℕ, ◌+◌, ◌-◌, ◌≤◌, ◌<◌, ◌^◌, List, [], ◌∷◌, ◌++◌, All, length, take, drop, Bool, true, false, nat_lt, if◌then◌else◌, Result, Ok, Err, refl, ap, ◌∙◌, arith, length-append}
use Rattle.std.proofs.Math.Seq.{drop-cons}
use Rattle.std.proofs.lemmas.Bool.Decides.{nat_tests}
use Rattle.std.proofs.lemmas.List.Elements.{All-append, All-cons, All-get_or}
use Rattle.std.proofs.lemmas.List.Sums.{sum_by-append, sum_by-cons, sum_by-take-drop}
use Rattle.mlt_base.specs.declared.faults.PlayFault.{PlayFault}
use Rattle.mlt_base.specs.declared.faults.PlayFault.TheVariants.{TooMany, TooLong}
use Rattle.mlt_tree.specs.declared.entry.Entry.{Entry}
use Rattle.mlt_tree.specs.declared.entry.Entry.TheVariants.{Gap}
use Rattle.mlt_tree.specs.Edits.{frames_in, replaced, cut}
use Rattle.mlt_tree.specs.Ranges.{IsEntry, frames}
use Rattle.mlt_playlist.specs.Place.{divided, entry_at, sized}
use Rattle.mlt_playlist.specs.Playlist.{IsCounted, IsList, IsTested}
use Rattle.mlt_playlist.proofs.Counts.{All-one, length-replaced, frames_in-replaced, entries-replaced}
use Rattle.mlt_playlist.proofs.Frames.{frames-cut, IsEntry-cut, frames-one}

-- the list of one entry
one-entry : (es : List Entry) (at : ℕ) → at < length es → take 1 (drop at es) ≡ entry_at es at ∷ []
one-entry es at h = ap (take 1) (drop-cons es at (Gap 0) h)

frames-entry : (es : List Entry) (at : ℕ) → at < length es → frames (entry_at es at) ≤ frames_in es
frames-entry es at h =
    let part : frames_in (take 1 (drop at es)) ≡ frames (entry_at es at) = ap frames_in (one-entry es at h) ∙ frames-one (entry_at es at) in
    omega (arith, sum_by-take-drop frames es at, sum_by-take-drop frames (drop at es) 1)

-- a list of that size, and the number of its frames
pub record IsSized (es : List Entry) (count all : ℕ) : Type 0 where
  pub counted : count ≡ length es
  pub summed : all ≡ frames_in es
  pub entries : All IsEntry es

-- the test of its size
pub sized-tested : (es : List Entry) (count all : ℕ) → IsSized es count all → IsTested es (sized count all)
sized-tested es count all is =
    rw (is.counted, is.summed) (by (nat_lt 100000 (length es)) (nat_lt (frames_in es) (2 ^ 31)) refl refl)
  where
    by : (many short : Bool) → nat_lt 100000 (length es) ≡ many → nat_lt (frames_in es) (2 ^ 31) ≡ short → IsTested es (if many then Err (TooMany 100000) else (if short then Ok (frames_in es) else Err (TooLong (frames_in es))))
    by true short many_is short_is = rw many_is refl
    by false true many_is short_is = (grind (arith, nat_tests), grind (arith, nat_tests), refl)
    by false false many_is short_is = rw (many_is, short_is) refl

pub tested-counted : (es : List Entry) (n : ℕ) → All IsEntry es → IsTested es (Ok n) → IsCounted es n
tested-counted es n entries h =
    record { list = record { entries = entries; few = h.0; short = h.1 }; counted = h.2 }

-- the size of a list in which an entry is cut in two
divided-sized : (es : List Entry) (at place from : ℕ) (new : List Entry) → All IsEntry es → at < length es → 1 ≤ place → place ≤ from → from < frames (entry_at es at) → All IsEntry new
    → IsSized (replaced es at 1 (divided (entry_at es at) place from new)) (length es + 1 + length new) (frames_in es + frames_in new - (from - place))
divided-sized es at place from new old h some order inside added =
    let e : Entry = entry_at es at in
    let one : Entry = cut e 0 place in
    let two : Entry = cut e from (frames e) in
    let is : IsEntry e = All-get_or IsEntry es at (Gap 0) h old in
    let gone : frames_in (take 1 (drop at es)) ≡ frames e = ap frames_in (one-entry es at h) ∙ frames-one e in
    let sum : frames_in (divided e place from new) ≡ place + (frames_in new + (frames e - from)) =
    sum_by-cons frames one (new ++ two ∷ []) ∙ omega (arith, frames-cut e 0 place some, sum_by-append frames new (two ∷ []), frames-one two, frames-cut e from (frames e) inside) in
    let many : length (divided e place from new) ≡ length new + 2 = omega (arith, length-append new (two ∷ [])) in
    record {
      counted = omega (arith, length-replaced es at 1 (divided e place from new) (omega arith));
      summed = omega (arith, frames_in-replaced es at 1 (divided e place from new), frames-entry es at h);
      entries = entries-replaced es at 1 (divided e place from new) old (All-cons IsEntry one (new ++ two ∷ []) (IsEntry-cut e 0 place is some) (All-append IsEntry new (two ∷ []) added (All-one two (IsEntry-cut e from (frames e) is inside))));
    }

pub divided-tested : (es : List Entry) (at place from : ℕ) (new : List Entry) (count all added less : ℕ) (result : Result ℕ PlayFault)
    → All IsEntry es → at < length es → (1 ≤ place) × (place ≤ from) × (from < frames (entry_at es at)) → All IsEntry new
    → count ≡ length new → all ≡ frames_in es → added ≡ frames_in new → less ≡ from - place
    → result ≡ sized (length es + 1 + count) (all + added - less)
    → IsTested (replaced es at 1 (divided (entry_at es at) place from new)) result
divided-tested es at place from new count all added less result old h places between counted summed more fewer is =
    let size = divided-sized es at place from new old h places.0 places.1 places.2 between in
    rw (is, counted, summed, more, fewer) (sized-tested (replaced es at 1 (divided (entry_at es at) place from new)) (length es + 1 + length new) (frames_in es + frames_in new - (from - place)) size)

-- the list with one entry more, once it is tested
pub inserted-tested : (es : List Entry) (at size total : ℕ) (entry : Entry) (result : Result ℕ PlayFault) → IsList es → IsEntry entry → at ≤ length es → size ≡ length es + 1 → total ≡ frames_in es + frames entry
    → result ≡ sized size total → IsTested (replaced es at 0 (entry ∷ [])) result
inserted-tested es at size total entry result list is inside many long sizes =
    let none : frames_in (take 0 (drop at es)) ≡ 0 = omega arith in
    rw sizes (sized-tested (replaced es at 0 (entry ∷ [])) size total (record {
      counted = omega (arith, length-replaced es at 0 (entry ∷ []) (omega arith));
      summed = omega (arith, frames_in-replaced es at 0 (entry ∷ []), frames-one entry);
      entries = entries-replaced es at 0 (entry ∷ []) list.entries (All-one entry is);
    }))

pub inserted-list : (es : List Entry) (at n : ℕ) (entry : Entry) → IsList es → IsEntry entry → IsTested (replaced es at 0 (entry ∷ [])) (Ok n) → IsList (replaced es at 0 (entry ∷ []))
inserted-list es at n entry list is tested =
    (tested-counted (replaced es at 0 (entry ∷ [])) n (entries-replaced es at 0 (entry ∷ []) list.entries (All-one entry is)) tested).list

-- a list in which an entry is cut in two, once it is tested
pub divided-list : (es : List Entry) (at place from : ℕ) (new : List Entry) (n : ℕ)
    → All IsEntry es → at < length es → (1 ≤ place) × (place ≤ from) × (from < frames (entry_at es at)) → All IsEntry new
    → IsTested (replaced es at 1 (divided (entry_at es at) place from new)) (Ok n) → IsList (replaced es at 1 (divided (entry_at es at) place from new))
divided-list es at place from new n old h places between tested =
    (tested-counted (replaced es at 1 (divided (entry_at es at) place from new)) n (divided-sized es at place from new old h places.0 places.1 places.2 between).entries tested).list
