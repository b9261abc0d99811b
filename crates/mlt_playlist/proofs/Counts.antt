-- How many entries and frames a changed list has, and that its entries are in their ranges.
use Rattle.std.proofs.Common.{rules, ◌≡◌, ℕ, ◌+◌, ◌≤◌, ◌<◌, ◌^◌, List, [], ◌∷◌, ◌++◌, All, length, take, drop, Ok, Err, refl, arith, length-append, length-take, length-drop}
use Rattle.std.proofs.lemmas.Bool.Decides.{nat_tests}
use Rattle.std.proofs.lemmas.Grind.{pieces}
use Rattle.std.proofs.lemmas.List.Elements.{All-append, All-take, All-drop}
use Rattle.std.proofs.lemmas.List.Sums.{sum_by-append, sum_by-take-drop}
use Rattle.std.proofs.lemmas.List.{drop-drop}
use Rattle.mlt_base.specs.declared.faults.PlayFault.TheVariants.{TooLong}
use Rattle.mlt_tree.specs.declared.entry.Entry.{Entry}
use Rattle.mlt_tree.specs.Edits.{frames_in, grown, replaced}
use Rattle.mlt_tree.specs.Ranges.{IsEntry, frames}
use Rattle.mlt_playlist.specs.Playlist.{IsCounted}

pub length-replaced : (es : List Entry) (at n : ℕ) (new : List Entry) → at + n ≤ length es → length (replaced es at n new) + n ≡ length es + length new
length-replaced es at n new inside = simp (length-append, length-take, length-drop) (omega arith)

-- what comes and what goes
pub frames_in-replaced : (es : List Entry) (at n : ℕ) (new : List Entry) → frames_in (replaced es at n new) + frames_in (take n (drop at es)) ≡ frames_in es + frames_in new
frames_in-replaced es at n new =
    let all = sum_by-take-drop frames es at in
    let part = sum_by-take-drop frames (drop at es) n in
    let rest : frames_in (drop n (drop at es)) ≡ frames_in (drop (at + n) es) = rw drop-drop refl in
    let first = sum_by-append frames (take at es) (new ++ drop (at + n) es) in
    let last = sum_by-append frames new (drop (at + n) es) in
    omega arith

pub entries-replaced : (es : List Entry) (at n : ℕ) (new : List Entry) → All IsEntry es → All IsEntry new → All IsEntry (replaced es at n new)
entries-replaced es at n new old added =
    All-append IsEntry (take at es) (new ++ drop (at + n) es) (All-take IsEntry at es old) (All-append IsEntry new (drop (at + n) es) added (All-drop IsEntry (at + n) es old))

module _ {A : Type 0} (answer : A) (es : List Entry) where
  pub grown-ok : length es ≤ 100000 → frames_in es < 2 ^ 31 → grown answer es ≡ Ok (answer, es)
  grown-ok few short = grind (arith, nat_tests)

  pub grown-long : length es ≤ 100000 → 2 ^ 31 ≤ frames_in es → grown answer es ≡ Err (TooLong (frames_in es))
  grown-long few long = grind (arith, nat_tests)

pub frames_in-part : (es : List Entry) (at n : ℕ) → frames_in (take n (drop at es)) ≤ frames_in es
frames_in-part es at n = omega (arith, sum_by-take-drop frames es at, sum_by-take-drop frames (drop at es) n)

pub All-one : (entry : Entry) → IsEntry entry → All IsEntry (entry ∷ [])
All-one entry ranges = search (rules, pieces)

-- as many entries at most, of as many frames at most, in place of others
pub counted-smaller : (es : List Entry) (at n : ℕ) (new : List Entry) (all count : ℕ)
    → IsCounted es all → at + n ≤ length es → length new ≤ n → All IsEntry new
    → frames_in new ≤ frames_in (take n (drop at es)) → count + frames_in (take n (drop at es)) ≡ all + frames_in new
    → IsCounted (replaced es at n new) count
counted-smaller es at n new all count old inside fewer added shorter sum =
    let many = length-replaced es at n new inside in
    let long = frames_in-replaced es at n new in
    record {
      list = record { entries = entries-replaced es at n new old.list.entries added; few = omega arith; short = omega arith };
      counted = omega arith;
    }
