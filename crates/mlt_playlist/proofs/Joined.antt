-- Entries that become one.
use Rattle.std.proofs.Common.{◌≡◌, ℕ, ◌+◌, ◌-◌, ◌≤◌, ◌<◌, ◌^◌, List, [], ◌∷◌, ◌++◌, All, length, take, drop, slice_range, sym, ap, subst, ◌∙◌, arith, length-take, length-drop}
use Rattle.std.proofs.lemmas.List.Elements.{All-take, All-drop, All-head}
use Rattle.std.proofs.lemmas.List.Sums.{sum_by-cons}
use Rattle.mlt_tree.specs.declared.entry.Entry.{Entry}
use Rattle.mlt_tree.specs.Edits.{frames_in, clip, replaced}
use Rattle.mlt_tree.specs.Ranges.{IsEntry, frames}
use Rattle.mlt_playlist.specs.Playlist.{IsCounted}
use Rattle.mlt_playlist.proofs.Counts.{frames_in-part, frames_in-replaced}
use Rattle.mlt_playlist.proofs.Frames.{has_frame}

-- entries have a frame
some_frames : (es : List Entry) → All IsEntry es → 1 ≤ length es → 1 ≤ frames_in es
some_frames [] all some = absurd (omega arith)
some_frames (e ∷ es) all some = omega (arith, sum_by-cons frames e es, has_frame e (All-head IsEntry e es all))

slice-part : (es : List Entry) (at n : ℕ) → slice_range es at (at + n) ≡ take n (drop at es)
slice-part es at n = ap (λ k. take k (drop at es)) (omega arith)

-- the frames of the joined entries
pub record AreJoined (es : List Entry) (at n count : ℕ) : Type 0 where
  pub some : 1 ≤ count
  pub short : count < 2 ^ 31
  pub is : count ≡ frames_in (take n (drop at es))
  pub all : (unit : ℕ) → frames_in (replaced es at n (clip unit 0 (count - 1) [] ∷ [])) < 2 ^ 31

pub joined : (es read : List Entry) (all at n count : ℕ) → IsCounted es all → read ≡ es → (n ≡ 0 → ⊥) → at + n ≤ length es → count ≡ frames_in (slice_range read at (at + n)) → AreJoined es at n count
joined es read all at n count old same has inside is =
    let sum : count ≡ frames_in (take n (drop at es)) = is ∙ ap (λ l. frames_in (slice_range l at (at + n))) same ∙ ap frames_in (slice-part es at n) in
    let many : length (take n (drop at es)) ≡ n = simp (length-take, length-drop) (omega arith) in
    let some : 1 ≤ count = omega (arith, some_frames (take n (drop at es)) (All-take IsEntry n (drop at es) (All-drop IsEntry at es old.list.entries)) (grind (arith, many))) in
    record {
      some = some;
      short = omega (arith, frames_in-part es at n, old.list.short);
      is = sum;
      all = λ unit. omega (arith, frames_in-replaced es at n (clip unit 0 (count - 1) [] ∷ []), frames_in-part es at n, old.list.short, one unit count some);
    }
  where
    one : (unit k : ℕ) → 1 ≤ k → frames_in (clip unit 0 (k - 1) [] ∷ []) ≡ k
    one unit k h = omega arith

-- the list in which they are one
pub joined_short : (es kept pushed first new : List Entry) (at n count unit : ℕ) (x : Entry) → AreJoined kept at n count → kept ≡ es
    → first ≡ [] → pushed ≡ first ++ x ∷ [] → new ≡ pushed → x ≡ clip unit 0 (count - 1) []
    → frames_in (replaced es at n new) < 2 ^ 31
joined_short es kept pushed first new at n count unit x are same none push is one =
    let list : new ≡ clip unit 0 (count - 1) [] ∷ [] = is ∙ push ∙ ap (λ l. l ++ x ∷ []) none ∙ ap (λ e. e ∷ []) one in
    subst (λ l. frames_in (replaced l at n new) < 2 ^ 31) same (subst (λ l. frames_in (replaced kept at n l) < 2 ^ 31) (sym list) (are.all unit))
