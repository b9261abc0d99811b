-- The frames of cuts, and of the parts of a list.
use Rattle.std.proofs.Common.{◌≡◌, ℕ, zero, suc, ◌-◌, ◌<◌, ◌≤◌, Bool, true, false, cond, ltb, leb, List, [], ◌∷◌, All, refl, arith}
use Rattle.std.proofs.lemmas.Bool.Decides.{nat_tests}
use Rattle.std.proofs.lemmas.List.Elements.{All-nil, All-cons, All-head, All-tail}
use Rattle.std.proofs.lemmas.List.Sums.{sum_by-cons}
use Rattle.mlt_tree.specs.declared.entry.Entry.{Entry}
use Rattle.mlt_tree.specs.declared.entry.Entry.TheVariants.{Clip, Gap}
use Rattle.mlt_tree.specs.Ranges.{IsEntry, frames}
use Rattle.mlt_tree.specs.Edits.{cut, frames_in, first_frames, frames_from}
use Rattle.mlt_playlist.proofs.Counts.{All-one}

-- a cut has the frames from a to before b
pub frames-cut : (e : Entry) (a b : ℕ) → a < b → frames (cut e a b) ≡ b - a
frames-cut (Clip unit s filters) a b h = omega arith
frames-cut (Gap count) a b h = refl

pub IsEntry-cut : (e : Entry) (a b : ℕ) → IsEntry e → a < b → IsEntry (cut e a b)
IsEntry-cut (Clip unit s filters) a b is h = (omega arith, is.1)
IsEntry-cut (Gap count) a b is h = omega arith

-- an entry has a frame
pub has_frame : (e : Entry) → IsEntry e → 1 ≤ frames e
has_frame (Clip unit s filters) is = omega (arith, is.0)
has_frame (Gap count) is = is

pub frames-one : (e : Entry) → frames_in (e ∷ []) ≡ frames e
frames-one e = omega (arith, sum_by-cons frames e [])

-- the first frames of a list are as many
pub frames_in-first_frames : (es : List Entry) (n : ℕ) → n ≤ frames_in es → frames_in (first_frames es n) ≡ n
frames_in-first_frames [] n h = omega arith
frames_in-first_frames (e ∷ es) n h = by (λ less. frames_in-first_frames es (n - frames e) less) (leb (frames e) n) refl where
  some : (k : ℕ) → frames_in (cond (ltb 0 k) (cut e 0 k ∷ []) []) ≡ k
  some zero = refl
  some (suc k) =
      let there : ltb 0 (suc k) ≡ true = grind (arith, nat_tests) in
      rw there (omega (arith, frames-one (cut e 0 (suc k)), frames-cut e 0 (suc k) (omega arith)))

  by : (n - frames e ≤ frames_in es → frames_in (first_frames es (n - frames e)) ≡ n - frames e) → (t : Bool) → leb (frames e) n ≡ t → frames_in (cond t (e ∷ first_frames es (n - frames e)) (cond (ltb 0 n) (cut e 0 n ∷ []) [])) ≡ n
  by later true is =
      let past : frames e ≤ n = grind (arith, nat_tests) in
      let same : frames_in (first_frames es (n - frames e)) ≡ n - frames e = later (omega (arith, sum_by-cons frames e es)) in
      omega (arith, sum_by-cons frames e (first_frames es (n - frames e)))
  by later false is = some n

-- the frames from a position on are the others
pub frames_in-frames_from : (es : List Entry) (n : ℕ) → frames_in (frames_from es n) ≡ frames_in es - n
frames_in-frames_from [] n = omega arith
frames_in-frames_from (e ∷ es) n = by (frames_in-frames_from es (n - frames e)) (leb (frames e) n) refl where
  some : (k : ℕ) → k < frames e → frames_in (cond (ltb 0 k) (cut e k (frames e) ∷ es) (e ∷ es)) ≡ frames_in (e ∷ es) - k
  some zero h = omega arith
  some (suc k) h =
      let there : ltb 0 (suc k) ≡ true = grind (arith, nat_tests) in
      rw there (omega (arith, sum_by-cons frames (cut e (suc k) (frames e)) es, sum_by-cons frames e es, frames-cut e (suc k) (frames e) h))

  by : frames_in (frames_from es (n - frames e)) ≡ frames_in es - (n - frames e) → (t : Bool) → leb (frames e) n ≡ t → frames_in (cond t (frames_from es (n - frames e)) (cond (ltb 0 n) (cut e n (frames e) ∷ es) (e ∷ es))) ≡ frames_in (e ∷ es) - n
  by later true is =
      let past : frames e ≤ n = grind (arith, nat_tests) in
      omega (arith, sum_by-cons frames e es)
  by later false is =
      some n (grind (arith, nat_tests))

-- the entries of both parts are in their ranges
pub entries-first_frames : (es : List Entry) (n : ℕ) → All IsEntry es → All IsEntry (first_frames es n)
entries-first_frames [] n all = all
entries-first_frames (e ∷ es) n all = by (entries-first_frames es (n - frames e) (All-tail IsEntry e es all)) (leb (frames e) n) where
  is : IsEntry e
  is = All-head IsEntry e es all

  some : (k : ℕ) → All IsEntry (cond (ltb 0 k) (cut e 0 k ∷ []) [])
  some zero = All-nil IsEntry
  some (suc k) =
      let there : ltb 0 (suc k) ≡ true = grind (arith, nat_tests) in
      rw there (All-one (cut e 0 (suc k)) (IsEntry-cut e 0 (suc k) is (omega arith)))

  by : All IsEntry (first_frames es (n - frames e)) → (t : Bool) → All IsEntry (cond t (e ∷ first_frames es (n - frames e)) (cond (ltb 0 n) (cut e 0 n ∷ []) []))
  by later true = All-cons IsEntry e (first_frames es (n - frames e)) is later
  by later false = some n

pub entries-frames_from : (es : List Entry) (n : ℕ) → All IsEntry es → All IsEntry (frames_from es n)
entries-frames_from [] n all = all
entries-frames_from (e ∷ es) n all = by (entries-frames_from es (n - frames e) rest) (leb (frames e) n) refl where
  rest : All IsEntry es
  rest = All-tail IsEntry e es all

  is : IsEntry e
  is = All-head IsEntry e es all

  some : (k : ℕ) → k < frames e → All IsEntry (cond (ltb 0 k) (cut e k (frames e) ∷ es) (e ∷ es))
  some zero h = all
  some (suc k) h =
      let there : ltb 0 (suc k) ≡ true = grind (arith, nat_tests) in
      rw there (All-cons IsEntry (cut e (suc k) (frames e)) es (IsEntry-cut e (suc k) (frames e) is h) rest)

  by : All IsEntry (frames_from es (n - frames e)) → (t : Bool) → leb (frames e) n ≡ t → All IsEntry (cond t (frames_from es (n - frames e)) (cond (ltb 0 n) (cut e n (frames e) ∷ es) (e ∷ es)))
  by later true past = later
  by later false past = some n (grind (arith, nat_tests))
