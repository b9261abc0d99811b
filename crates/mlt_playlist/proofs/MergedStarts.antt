-- Starts after neighbouring gaps became one, from the last entry on.
use Rattle.std.proofs.Common.{◌≡◌, ℕ, ◌+◌, ◌-◌, ◌^◌, ◌≤◌, ◌<◌, List, [], ◌∷◌, ◌++◌, All, length, take, drop, get_or, map, refl, sym, ap, ◌∙◌, append_assoc, arith, append-nil, length-append, length-take}
use Rattle.std.proofs.lemmas.List.{drop_all, drop_at, drop-drop, drop_more, length-take-le, take_all, take_at, take_more}
use Rattle.std.proofs.lemmas.List.Elements.{All-drop, All-head, All-nil}
use Rattle.std.proofs.lemmas.List.Sums.{sum_by-append, sum_by-cons, sum_by-take-drop}
use Rattle.mlt_index.specs.Starts as numbers
use Rattle.mlt_base.specs.declared.value.Span.{Span}
use Rattle.mlt_base.specs.declared.value.UnitId.{UnitId}
use Rattle.mlt_tree.specs.declared.entry.Entry.{Entry}
use Rattle.mlt_tree.specs.declared.entry.Entry.TheVariants.{Clip, Gap}
use Rattle.mlt_tree.specs.declared.tree.Attached.{Attached}
use Rattle.mlt_tree.specs.Edits.{before_gap, frames_in, gaps_merged, replaced, without_last_gap}
use Rattle.mlt_tree.specs.Ranges.{IsEntry, frames}
use Rattle.mlt_playlist.specs.Gaps.{IsMergedFrom, first_gap}
use Rattle.mlt_playlist.specs.Playlist.{IsIndexed, IsList}
use Rattle.mlt_playlist.proofs.Counts.{All-one}
use Rattle.mlt_playlist.proofs.Indexed.{AreNumbers, numbers_of}
use Rattle.mlt_playlist.proofs.Merging.{entries-merged, frames_in-before, frames_in-merged, length-without, list-merged, list-without}

-- with an entry more in front
with_next : (es : List Entry) (at : ℕ) (e : Entry) → at < length es → e ≡ get_or es at e → take (at + 1) es ++ gaps_merged (drop (at + 1) es) ≡ take at es ++ (e ∷ gaps_merged (drop (at + 1) es))
with_next es at e inside is =
    ap (λ l. l ++ gaps_merged (drop (at + 1) es)) (take_more es at e inside ∙ ap (λ x. take at es ++ x ∷ []) (sym is)) ∙ append_assoc (take at es) (e ∷ []) (gaps_merged (drop (at + 1) es))

merged-next : (es : List Entry) (at : ℕ) (e : Entry) → at < length es → e ≡ get_or es at e → gaps_merged (drop at es) ≡ before_gap e (gaps_merged (drop (at + 1) es))
merged-next es at e inside is =
    ap gaps_merged (drop_more es at e inside ∙ ap (λ x. x ∷ drop (at + 1) es) (sym is))

-- a gap before a gap
gap_joined : (front rest : List Entry) (n b at : ℕ) → length front ≡ at → b ≡ first_gap rest → 0 < b → replaced (front ++ (Gap n ∷ rest)) at 2 (Gap (n + b) ∷ []) ≡ front ++ before_gap (Gap n) rest
gap_joined front [] n b at long is some = absurd (omega arith)
gap_joined front (Clip u s fs ∷ rest) n b at long is some = absurd (omega arith)
gap_joined front (Gap m ∷ rest) n b at long is some =
    let all : List Entry = front ++ (Gap n ∷ Gap m ∷ rest) in
    ap (λ l. l ++ (Gap (n + b) ∷ drop (at + 2) all)) (take_at front (Gap n ∷ Gap m ∷ rest) at long)
    ∙ ap (λ l. front ++ (Gap (n + b) ∷ l)) (sym (drop-drop 2 at all) ∙ ap (drop 2) (drop_at front (Gap n ∷ Gap m ∷ rest) at long))
    ∙ ap (λ k. front ++ (Gap (n + k) ∷ rest)) is

-- a gap before none
gap_alone : (rest : List Entry) (n b : ℕ) → All IsEntry rest → b ≡ first_gap rest → b ≤ 0 → before_gap (Gap n) rest ≡ Gap n ∷ rest
gap_alone [] n b all is none = refl
gap_alone (Clip u s fs ∷ rest) n b all is none = refl
gap_alone (Gap m ∷ rest) n b all is none = absurd (omega (arith, All-head IsEntry (Gap m) rest all))

first-before : (rest : List Entry) (n b : ℕ) → b ≡ first_gap rest → first_gap (before_gap (Gap n) rest) ≡ n + b
first-before [] n b is = omega arith
first-before (Clip u s fs ∷ rest) n b is = omega arith
first-before (Gap m ∷ rest) n b is = omega arith

-- behind a gap that has frames there is one
some-behind : (rest : List Entry) (b : ℕ) → b ≡ first_gap rest → 0 < b → 1 ≤ length rest
some-behind [] b is some = absurd (omega arith)
some-behind (e ∷ rest) b is some = omega arith

first-frames : (rest : List Entry) → first_gap rest ≤ frames_in rest
first-frames [] = omega arith
first-frames (Clip u s fs ∷ rest) = omega arith
first-frames (Gap m ∷ rest) = omega (arith, sum_by-cons frames (Gap m) rest)

module _ (es : List Entry) (at b : ℕ) (e : Entry) (starts : List ℕ) (inside : at < length es) (is : e ≡ get_or es at e) (list : IsList es) (from : IsMergedFrom es (at + 1) starts b) where
  -- a clip is before all
  pub clip_next : (u : UnitId) (s : Span) (fs : List Attached) → e ≡ Clip u s fs → IsMergedFrom es at starts 0
  clip_next u s fs clip =
      let rest = gaps_merged (drop (at + 1) es) in
      let next : gaps_merged (drop at es) ≡ Clip u s fs ∷ rest = merged-next es at e inside is ∙ ap (λ x. before_gap x rest) clip in
      record {
        starts = from.starts ∙ ap (map frames) (with_next es at e inside is ∙ ap (λ x. take at es ++ (x ∷ rest)) clip ∙ ap (λ l. take at es ++ l) (sym next));
        behind = sym (ap first_gap next);
      }

  module _ (n : ℕ) (gap : e ≡ Gap n) where
    rest_is : take (at + 1) es ++ gaps_merged (drop (at + 1) es) ≡ take at es ++ (Gap n ∷ gaps_merged (drop (at + 1) es))
    rest_is = with_next es at e inside is ∙ ap (λ x. take at es ++ (x ∷ gaps_merged (drop (at + 1) es))) gap

    next_is : gaps_merged (drop at es) ≡ before_gap (Gap n) (gaps_merged (drop (at + 1) es))
    next_is = merged-next es at e inside is ∙ ap (λ x. before_gap x (gaps_merged (drop (at + 1) es))) gap

    all_frames : frames_in (take at es ++ before_gap (Gap n) (gaps_merged (drop (at + 1) es))) ≡ frames_in es
    all_frames =
        ap (λ l. frames_in (take at es ++ l)) (sym next_is) ∙ sum_by-append frames (take at es) (gaps_merged (drop at es)) ∙ omega (arith, frames_in-merged (drop at es), sum_by-take-drop frames es at)

    -- both together are not too long
    pub both_short : n + b < 2 ^ 31
    both_short =
        omega (arith, all_frames, list.short, sum_by-append frames (take at es) (before_gap (Gap n) (gaps_merged (drop (at + 1) es))), frames_in-before (Gap n) (gaps_merged (drop (at + 1) es)), first-frames (gaps_merged (drop (at + 1) es)), from.behind)

    joined_is : 0 < b → replaced (take (at + 1) es ++ gaps_merged (drop (at + 1) es)) at 2 (Gap (n + b) ∷ []) ≡ take at es ++ gaps_merged (drop at es)
    joined_is some =
        ap (λ l. replaced l at 2 (Gap (n + b) ∷ [])) rest_is
        ∙ gap_joined (take at es) (gaps_merged (drop (at + 1) es)) n b at (length-take-le at es (omega arith)) from.behind some
        ∙ ap (λ l. take at es ++ l) (sym next_is)

    pub gap_numbers : (given : List ℕ) → 0 < b → given ≡ (n + b) ∷ [] → AreNumbers (take (at + 1) es ++ gaps_merged (drop (at + 1) es)) starts at 2 (Gap (n + b) ∷ []) given
    gap_numbers given some given_is =
        let many = some-behind (gaps_merged (drop (at + 1) es)) b from.behind some in
        numbers_of (take (at + 1) es ++ gaps_merged (drop (at + 1) es)) starts at 2 (Gap (n + b) ∷ []) given from.starts (omega (arith, length-append (take (at + 1) es) (gaps_merged (drop (at + 1) es)), length-take (at + 1) es)) (All-one (Gap (n + b)) (omega arith)) (omega (arith, ap frames_in (joined_is some ∙ ap (λ l. take at es ++ l) next_is), all_frames, list.short)) given_is

    -- a gap before another, and before none
    pub gap_next : (given after : List ℕ) → 0 < b → given ≡ (n + b) ∷ [] → after ≡ numbers.replaced starts at 2 given → IsMergedFrom es at after (n + b)
    gap_next given after some given_is after_is =
        record {
          starts = after_is ∙ (gap_numbers given some given_is).are ∙ ap (map frames) (joined_is some);
          behind = sym (ap first_gap next_is ∙ first-before (gaps_merged (drop (at + 1) es)) n b from.behind);
        }

    pub gap_first : b ≤ 0 → IsMergedFrom es at starts (n + b)
    gap_first none =
        record {
          starts = from.starts ∙ ap (map frames) (rest_is ∙ ap (λ l. take at es ++ l) (sym (next_is ∙ gap_alone (gaps_merged (drop (at + 1) es)) n b (entries-merged (drop (at + 1) es) (All-drop IsEntry (at + 1) es list.entries)) from.behind none)));
          behind = sym (ap first_gap next_is ∙ first-before (gaps_merged (drop (at + 1) es)) n b from.behind);
        }

-- before the last entry, and behind the first
pub merged_none : (es : List Entry) (at : ℕ) (starts : List ℕ) → at ≡ length es → starts ≡ map frames es → IsMergedFrom es at starts 0
merged_none es at starts all are =
    let none : drop at es ≡ [] = drop_all at es (omega arith) in
    record {
      starts = are ∙ ap (map frames) (sym (ap (λ l. take at es ++ gaps_merged l) none ∙ append-nil (take at es) ∙ take_all at es (omega arith)));
      behind = sym (ap (λ l. first_gap (gaps_merged l)) none);
    }

-- a list without a gap at its end is its front
without-front : (es : List Entry) → without_last_gap es ≡ take (length (without_last_gap es)) es
without-front [] = refl
without-front (Gap n ∷ []) = refl
without-front (Gap n ∷ e ∷ es) = ap (λ l. Gap n ∷ l) (without-front (e ∷ es))
without-front (Clip u s fs ∷ es) = ap (λ l. Clip u s fs ∷ l) (without-front es)

pub without-replaced : (es now : List Entry) (at n : ℕ) → now ≡ without_last_gap es → at ≡ length now → n ≡ length es - at → replaced es at n [] ≡ now
without-replaced es now at n is left gone =
    let front : now ≡ take at es = is ∙ without-front es ∙ ap (λ k. take k es) (sym (left ∙ ap length is)) in
    let none : drop (at + n) es ≡ [] = drop_all (at + n) es (omega arith) in
    ap (λ l. take at es ++ l) none ∙ append-nil (take at es) ∙ sym front

pub without-are : (es now : List Entry) (starts : List ℕ) (at n : ℕ) → IsIndexed es starts → now ≡ without_last_gap es → at ≡ length now → n ≡ length es - at → AreNumbers es starts at n [] []
without-are es now starts at n indexed is left gone =
    numbers_of es starts at n [] [] indexed.starts (omega (arith, ap length is, length-without es)) (All-nil IsEntry) (omega (arith, ap frames_in (without-replaced es now at n is left gone), (list-without es now indexed.list is).short)) refl

pub without-left : (es now : List Entry) (starts after : List ℕ) (at n : ℕ) → IsIndexed es starts → now ≡ without_last_gap es → at ≡ length now → n ≡ length es - at → after ≡ numbers.replaced starts at n [] → IsIndexed now after
without-left es now starts after at n indexed is left gone after_is =
    record {
      list = list-without es now indexed.list is;
      starts = after_is ∙ (without-are es now starts at n indexed is left gone).are ∙ ap (map frames) (without-replaced es now at n is left gone);
    }

pub merged-left : (es read now : List Entry) (after : List ℕ) → IsList es → read ≡ es → now ≡ gaps_merged es → after ≡ map frames (gaps_merged read) → IsIndexed now after
merged-left es read now after list same is after_is =
    record { list = list-merged es now list is; starts = after_is ∙ ap (λ l. map frames (gaps_merged l)) same ∙ ap (map frames) (sym is) }
