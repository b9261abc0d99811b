-- Neighbouring gaps as one.
use Rattle.std.proofs.Common.{◌≡◌, ℕ, ◌+◌, ◌-◌, ◌≤◌, ◌<◌, List, [], ◌∷◌, ◌++◌, All, length, take, drop, get_or, set, slice_get, Some, None, refl, sym, ap, subst, ◌∙◌, ◌⊎◌, inl, inr, append_assoc, arith}
use Rattle.std.proofs.lemmas.List.Elements.{All-cons, All-head, All-tail, All-nil}
use Rattle.std.proofs.lemmas.List.Edits.{swap_is}
use Rattle.std.proofs.lemmas.List.{get_or-drop, take_more, take_more_set, take-set, take-set-le, take_all, get_or_default, length-set}
use Rattle.std.proofs.lemmas.Option.{slice_get_within, get_or_from_slice_get}
use Rattle.std.proofs.lemmas.Bool.{cases_lt}
use Rattle.std.specs.List.{swap}
use Rattle.std.proofs.lemmas.List.Sums.{sum_by-cons, sum_by-take-drop}
use Rattle.mlt_base.specs.declared.value.Span.{Span}
use Rattle.mlt_base.specs.declared.value.UnitId.{UnitId}
use Rattle.mlt_tree.specs.declared.entry.Entry.{Entry}
use Rattle.mlt_tree.specs.declared.entry.Entry.TheVariants.{Clip, Gap}
use Rattle.mlt_tree.specs.declared.tree.Attached.{Attached}
use Rattle.mlt_tree.specs.Edits.{before_gap, frames_in, gaps_merged, without_last_gap}
use Rattle.mlt_tree.specs.Ranges.{IsEntry, frames}
use Rattle.mlt_playlist.specs.Playlist.{IsList}
use Rattle.mlt_playlist.specs.Gaps.{both_gaps, pushed, pushed_at}

before-pushed : (x : Entry) (es : List Entry) (e : Entry) → before_gap x (pushed es e) ≡ pushed (before_gap x es) e
before-pushed (Clip u s fs) [] e = refl
before-pushed (Clip u s fs) (y ∷ es) e = refl
before-pushed (Gap n) [] e = refl
before-pushed (Gap n) (Gap m ∷ []) (Gap k) = ap (λ all. Gap all ∷ []) (omega arith)
before-pushed (Gap n) (Gap m ∷ []) (Clip u s fs) = refl
before-pushed (Gap n) (Clip u s fs ∷ []) e = refl
before-pushed (Gap n) (Gap m ∷ z ∷ es) e = refl
before-pushed (Gap n) (Clip u s fs ∷ z ∷ es) e = refl

-- one more entry
pub merged-push : (es : List Entry) (e : Entry) → gaps_merged (es ++ e ∷ []) ≡ pushed (gaps_merged es) e
merged-push [] (Clip u s fs) = refl
merged-push [] (Gap n) = refl
merged-push (x ∷ es) e = ap (before_gap x) (merged-push es e) ∙ before-pushed x (gaps_merged es) e

-- behind a last one
pub pushed-both : (es : List Entry) (a b : Entry) (n : ℕ) → both_gaps a b ≡ Some n → pushed (es ++ a ∷ []) b ≡ es ++ Gap n ∷ []
pushed-both [] (Gap a) (Gap b) n is = cc
pushed-both [] (Gap a) (Clip u s fs) n is = cc
pushed-both [] (Clip u s fs) b n is = cc
pushed-both (x ∷ []) a b n is = ap (λ l. x ∷ l) (pushed-both [] a b n is)
pushed-both (x ∷ y ∷ es) a b n is = ap (λ l. x ∷ l) (pushed-both (y ∷ es) a b n is)

pub pushed-none : (es : List Entry) (a b : Entry) → both_gaps a b ≡ None → pushed (es ++ a ∷ []) b ≡ es ++ (a ∷ b ∷ [])
pushed-none [] (Gap a) (Gap b) is = cc
pushed-none [] (Gap a) (Clip u s fs) is = refl
pushed-none [] (Clip u s fs) b is = refl
pushed-none (x ∷ []) a b is = ap (λ l. x ∷ l) (pushed-none [] a b is)
pushed-none (x ∷ y ∷ es) a b is = ap (λ l. x ∷ l) (pushed-none (y ∷ es) a b is)

pub frames_in-before : (e : Entry) (es : List Entry) → frames_in (before_gap e es) ≡ frames e + frames_in es
frames_in-before (Clip u s fs) es = sum_by-cons frames (Clip u s fs) es
frames_in-before (Gap n) [] = sum_by-cons frames (Gap n) []
frames_in-before (Gap n) (Gap m ∷ es) = omega (arith, sum_by-cons frames (Gap (n + m)) es, sum_by-cons frames (Gap m) es)
frames_in-before (Gap n) (Clip u s fs ∷ es) = sum_by-cons frames (Gap n) (Clip u s fs ∷ es)

pub frames_in-merged : (es : List Entry) → frames_in (gaps_merged es) ≡ frames_in es
frames_in-merged [] = refl
frames_in-merged (e ∷ es) = omega (arith, frames_in-before e (gaps_merged es), frames_in-merged es, sum_by-cons frames e es)

length-before : (e : Entry) (es : List Entry) → length (before_gap e es) ≤ length es + 1
length-before (Clip u s fs) es = omega arith
length-before (Gap n) [] = omega arith
length-before (Gap n) (Gap m ∷ es) = omega arith
length-before (Gap n) (Clip u s fs ∷ es) = omega arith

pub length-merged : (es : List Entry) → length (gaps_merged es) ≤ length es
length-merged [] = omega arith
length-merged (e ∷ es) = omega (arith, length-before e (gaps_merged es), length-merged es)

entries-before : (e : Entry) (es : List Entry) → IsEntry e → All IsEntry es → All IsEntry (before_gap e es)
entries-before (Clip u s fs) es is all = All-cons IsEntry (Clip u s fs) es is all
entries-before (Gap n) [] is all = All-cons IsEntry (Gap n) [] is all
entries-before (Gap n) (Gap m ∷ es) is all = All-cons IsEntry (Gap (n + m)) es (omega arith) (All-tail IsEntry (Gap m) es all)
entries-before (Gap n) (Clip u s fs ∷ es) is all = All-cons IsEntry (Gap n) (Clip u s fs ∷ es) is all

pub entries-merged : (es : List Entry) → All IsEntry es → All IsEntry (gaps_merged es)
entries-merged [] all = All-nil IsEntry
entries-merged (e ∷ es) all =
    entries-before e (gaps_merged es) (All-head IsEntry e es all) (entries-merged es (All-tail IsEntry e es all))

-- a gap at the end goes, and a clip stays
pub without-gap : (es : List Entry) (n : ℕ) → without_last_gap (es ++ Gap n ∷ []) ≡ es
without-gap [] n = refl
without-gap (Clip u s fs ∷ es) n = ap (λ l. Clip u s fs ∷ l) (without-gap es n)
without-gap (Gap m ∷ []) n = refl
without-gap (Gap m ∷ e ∷ es) n = ap (λ l. Gap m ∷ l) (without-gap (e ∷ es) n)

pub without-clip : (es : List Entry) (x : Entry) (unit : UnitId) (s : Span) (filters : List Attached) → x ≡ Clip unit s filters → without_last_gap (es ++ x ∷ []) ≡ es ++ x ∷ []
without-clip es x unit s filters is = rw is (by es) where
  by : (es : List Entry) → without_last_gap (es ++ Clip unit s filters ∷ []) ≡ es ++ Clip unit s filters ∷ []
  by [] = refl
  by (Clip u t fs ∷ es) = ap (λ l. Clip u t fs ∷ l) (by es)
  by (Gap m ∷ []) = refl
  by (Gap m ∷ e ∷ es) = ap (λ l. Gap m ∷ l) (by (e ∷ es))

module _ (es : List Entry) (kept at : ℕ) (a b : Entry) where
  -- the last entry that is kept becomes the gap of both
  pub front-both : (n : ℕ) → 0 < kept → kept ≤ at → at < length es → a ≡ get_or es (kept - 1) a → b ≡ get_or es at b → both_gaps a b ≡ Some n
      → take kept (set es (kept - 1) (Gap n)) ≡ pushed_at (take kept es) es at
  front-both n some count inside last is both =
      let before : kept ≡ kept - 1 + 1 = omega arith in
      let old : take kept es ≡ take (kept - 1) es ++ a ∷ [] = ap (λ k. take k es) before ∙ take_more es (kept - 1) a (omega arith) ∙ ap (λ x. take (kept - 1) es ++ x ∷ []) (sym last) in
      let new : take kept (set es (kept - 1) (Gap n)) ≡ take (kept - 1) es ++ Gap n ∷ [] = ap (λ k. take k (set es (kept - 1) (Gap n))) before ∙ take_more_set es (kept - 1) (Gap n) (omega arith) in
      let entry : get_or es at (Gap 0) ≡ b = get_or_default es at (Gap 0) b inside ∙ sym is in
      new ∙ sym (ap (λ l. pushed l (get_or es at (Gap 0))) old ∙ ap (pushed (take (kept - 1) es ++ a ∷ [])) entry ∙ pushed-both (take (kept - 1) es) a b n both)

-- the first entries, and one behind them
front-swapped : (es now : List Entry) (kept at : ℕ) (d : Entry) → kept ≤ at → at < length es → now ≡ swap es kept at → take (kept + 1) now ≡ take kept es ++ get_or es at d ∷ []
front-swapped es now kept at d count inside after = ap (take (kept + 1)) (after ∙ sym (swap_is es kept at d (omega arith) inside)) ∙ by (cases_lt kept at)
  where
    one : List Entry
    one = set es kept (get_or es at d)

    by : (kept < at) ⊎ (at ≤ kept) → take (kept + 1) (set one at (get_or es kept d)) ≡ take kept es ++ get_or es at d ∷ []
    by (inl less) = take-set-le (kept + 1) one at (get_or es kept d) (omega arith) ∙ take_more_set es kept (get_or es at d) (omega arith)
    by (inr same) =
        let equal : kept ≡ at = omega arith in
        subst (λ k. take (kept + 1) (set one k (get_or es kept d)) ≡ take kept es ++ get_or es k d ∷ []) equal (take_more_set one kept (get_or es kept d) (omega (arith, length-set es kept (get_or es at d))) ∙ ap (λ l. l ++ get_or es kept d ∷ []) (take-set es kept (get_or es at d)))

pub front-none : (es now : List Entry) (kept at : ℕ) (a b : Entry) → 0 < kept → kept ≤ at → at < length es → a ≡ get_or es (kept - 1) a → b ≡ get_or es at b → both_gaps a b ≡ None → now ≡ swap es kept at
    → take (kept + 1) now ≡ pushed_at (take kept es) es at
front-none es now kept at a b some count inside last is none after =
    let before : kept ≡ kept - 1 + 1 = omega arith in
    let old : take kept es ≡ take (kept - 1) es ++ a ∷ [] = ap (λ k. take k es) before ∙ take_more es (kept - 1) a (omega arith) ∙ ap (λ x. take (kept - 1) es ++ x ∷ []) (sym last) in
    let entry : get_or es at (Gap 0) ≡ b = get_or_default es at (Gap 0) b inside ∙ sym is in
    let new : take (kept + 1) now ≡ (take (kept - 1) es ++ a ∷ []) ++ b ∷ [] = front-swapped es now kept at b count inside after ∙ ap (λ l. l ++ get_or es at b ∷ []) old ∙ ap (λ x. (take (kept - 1) es ++ a ∷ []) ++ x ∷ []) (sym is) in
    new ∙ append_assoc (take (kept - 1) es) (a ∷ []) (b ∷ []) ∙ sym (ap (λ l. pushed l (get_or es at (Gap 0))) old ∙ ap (pushed (take (kept - 1) es ++ a ∷ [])) entry ∙ pushed-none (take (kept - 1) es) a b none)

-- one entry more at the front
pub front-more : (old now new : List Entry) (kept kept' at : ℕ) → at < length old → take kept now ≡ gaps_merged (take at old) → drop at now ≡ drop at old
    → take kept' new ≡ pushed_at (take kept now) now at → take kept' new ≡ gaps_merged (take (at + 1) old)
front-more old now new kept kept' at inside front rest step =
    let entry : get_or now at (Gap 0) ≡ get_or old at (Gap 0) =
    sym (get_or-drop at now 0 (Gap 0) ∙ ap (λ k. get_or now k (Gap 0)) (omega arith)) ∙ ap (λ l. get_or l 0 (Gap 0)) rest ∙ get_or-drop at old 0 (Gap 0) ∙ ap (λ k. get_or old k (Gap 0)) (omega arith) in
    step ∙ ap (λ l. pushed l (get_or now at (Gap 0))) front ∙ ap (pushed (gaps_merged (take at old))) entry
    ∙ sym (ap gaps_merged (take_more old at (Gap 0) inside) ∙ merged-push (take at old) (get_or old at (Gap 0)))

pub front-short : (old now : List Entry) (kept at : ℕ) → take kept now ≡ gaps_merged (take at old) → drop at now ≡ drop at old → frames_in (take kept now) + frames_in (drop at now) ≡ frames_in old
front-short old now kept at front rest =
    omega (arith, ap frames_in front, ap frames_in rest, frames_in-merged (take at old), sum_by-take-drop frames old at)

-- a list before its last entry
before_last : (es : List Entry) (x : Entry) → Some x ≡ slice_get es (length es - 1) → es ≡ take (length es - 1) es ++ x ∷ []
before_last es x got =
    let some = slice_get_within es (length es - 1) x (sym got) in
    let is : x ≡ get_or es (length es - 1) x = sym (get_or_from_slice_get es (length es - 1) x x (sym got)) in
    let last : length es ≡ length es - 1 + 1 = omega arith in
    sym (take_all (length es) es (omega arith)) ∙ ap (λ k. take k es) last ∙ take_more es (length es - 1) x (omega arith) ∙ ap (λ y. take (length es - 1) es ++ y ∷ []) (sym is)

pub last-gap : (es : List Entry) (x : Entry) (n : ℕ) → Some x ≡ slice_get es (length es - 1) → x ≡ Gap n → take (length es - 1) es ≡ without_last_gap es
last-gap es x n got gap =
    let whole : es ≡ take (length es - 1) es ++ Gap n ∷ [] = before_last es x got ∙ ap (λ y. take (length es - 1) es ++ y ∷ []) gap in
    sym (ap without_last_gap whole ∙ without-gap (take (length es - 1) es) n)

pub last-clip : (es : List Entry) (x : Entry) (unit : UnitId) (s : Span) (filters : List Attached) → Some x ≡ slice_get es (length es - 1) → x ≡ Clip unit s filters → es ≡ without_last_gap es
last-clip es x unit s filters got clip =
    let whole = before_last es x got in
    whole ∙ sym (ap without_last_gap whole ∙ without-clip (take (length es - 1) es) x unit s filters clip)

pub length-without : (es : List Entry) → length (without_last_gap es) ≤ length es
length-without [] = omega arith
length-without (Gap n ∷ []) = omega arith
length-without (Gap n ∷ e ∷ es) = omega (arith, length-without (e ∷ es))
length-without (Clip u s fs ∷ es) = omega (arith, length-without es)

frames-without : (es : List Entry) → frames_in (without_last_gap es) ≤ frames_in es
frames-without [] = omega arith
frames-without (Gap n ∷ []) = omega arith
frames-without (Gap n ∷ e ∷ es) =
    omega (arith, frames-without (e ∷ es), sum_by-cons frames (Gap n) (without_last_gap (e ∷ es)), sum_by-cons frames (Gap n) (e ∷ es))
frames-without (Clip u s fs ∷ es) =
    omega (arith, frames-without es, sum_by-cons frames (Clip u s fs) (without_last_gap es), sum_by-cons frames (Clip u s fs) es)

entries-without : (es : List Entry) → All IsEntry es → All IsEntry (without_last_gap es)
entries-without [] all = all
entries-without (Gap n ∷ []) all = All-nil IsEntry
entries-without (Gap n ∷ e ∷ es) all =
    All-cons IsEntry (Gap n) (without_last_gap (e ∷ es)) (All-head IsEntry (Gap n) (e ∷ es) all) (entries-without (e ∷ es) (All-tail IsEntry (Gap n) (e ∷ es) all))
entries-without (Clip u s fs ∷ es) all =
    All-cons IsEntry (Clip u s fs) (without_last_gap es) (All-head IsEntry (Clip u s fs) es all) (entries-without es (All-tail IsEntry (Clip u s fs) es all))

pub list-merged : (es now : List Entry) → IsList es → now ≡ gaps_merged es → IsList now
list-merged es now list after =
    rw after (record {
      entries = entries-merged es list.entries;
      few = omega (arith, length-merged es);
      short = omega (arith, frames_in-merged es);
    })

pub list-without : (es now : List Entry) → IsList es → now ≡ without_last_gap es → IsList now
list-without es now list after =
    record {
      entries = subst (All IsEntry) (sym after) (entries-without es list.entries);
      few = omega (arith, ap length after, length-without es);
      short = omega (arith, ap frames_in after, frames-without es, list.short);
    }
