-- The starts of a list, and what replacing some of them requires and leaves.
use Rattle.std.proofs.Common.{◌≡◌, ℕ, ◌+◌, ◌^◌, ◌≤◌, ◌<◌, List, [], ◌∷◌, ◌++◌, All, length, take, drop, get_or, set, map, sum, Result, Ok, Err, OnOk, OnErr, refl, sym, ap, subst, ◌∙◌, arith}
use Rattle.std.proofs.lemmas.List.{drop-map, get_or-map, length-map, map-append, map-set, set-get_or, take-map}
use Rattle.std.proofs.lemmas.List.Elements.{All-cons, All-head, All-nil, All-tail}
use Rattle.std.proofs.lemmas.List.Sums.{sum-map}
use Rattle.mlt_index.specs.Starts as numbers
use Rattle.mlt_tree.specs.declared.entry.Entry.{Entry}
use Rattle.mlt_tree.specs.Edits.{frames_in, replaced}
use Rattle.mlt_tree.specs.Ranges.{IsEntry, frames}
use Rattle.mlt_playlist.specs.Playlist.{IsCounted, IsIndexed, IsList}
use Rattle.mlt_playlist.proofs.Counts.{entries-replaced}
use Rattle.mlt_playlist.proofs.Frames.{has_frame}

-- the numbers of a list with new entries in place of others
map-replaced : (es : List Entry) (at n : ℕ) (new : List Entry) → map frames (replaced es at n new) ≡ numbers.replaced (map frames es) at n (map frames new)
map-replaced es at n new =
    map-append frames (take at es) (new ++ drop (at + n) es)
    ∙ ap (λ l. map frames (take at es) ++ l) (map-append frames new (drop (at + n) es))
    ∙ ap (λ l. l ++ (map frames new ++ map frames (drop (at + n) es))) (sym (take-map frames at es))
    ∙ ap (λ l. take at (map frames es) ++ (map frames new ++ l)) (sym (drop-map frames (at + n) es))

-- each entry has a frame
pub some-frames : (es : List Entry) → All IsEntry es → All (λ n. 1 ≤ n) (map frames es)
some-frames [] all = All-nil (λ n. 1 ≤ n)
some-frames (e ∷ es) all =
    All-cons (λ n. 1 ≤ n) (frames e) (map frames es) (has_frame e (All-head IsEntry e es all)) (some-frames es (All-tail IsEntry e es all))

-- numbers that may be put in place of others, and are those of the new list then
pub record AreNumbers (es : List Entry) (starts : List ℕ) (at n : ℕ) (new : List Entry) (given : List ℕ) : Type 0 where
  pub range : at + n ≤ length starts
  pub some : All (λ n. 1 ≤ n) given
  pub short : sum (numbers.replaced starts at n given) < 2 ^ 31
  pub are : numbers.replaced starts at n given ≡ map frames (replaced es at n new)

pub numbers_of : (es : List Entry) (starts : List ℕ) (at n : ℕ) (new : List Entry) (given : List ℕ)
    → starts ≡ map frames es → at + n ≤ length es → All IsEntry new → frames_in (replaced es at n new) < 2 ^ 31 → given ≡ map frames new
    → AreNumbers es starts at n new given
numbers_of es starts at n new given are inside entries short is =
    let same : numbers.replaced starts at n given ≡ map frames (replaced es at n new) =
    ap (λ l. numbers.replaced l at n given) are ∙ ap (λ l. numbers.replaced (map frames es) at n l) is ∙ sym (map-replaced es at n new) in
    record {
      range = omega (arith, ap length are, length-map es frames);
      some = subst (All (λ n. 1 ≤ n)) (sym is) (some-frames new entries);
      short = omega (arith, ap sum same, sum-map frames (replaced es at n new));
      are = same;
    }

-- a list and the number of its frames
pub all-counted : (es : List Entry) → IsList es → IsCounted es (frames_in es)
all-counted es list = record { list = list; counted = refl }

pub counted-length : (es now : List Entry) (all : ℕ) → IsList es → es ≡ now → all ≡ frames_in now → IsCounted es all
counted-length es now all list same is = record { list = list; counted = is ∙ ap frames_in (sym same) }

-- starts stay where an entry changes that has as many frames then
pub same-starts : (es : List Entry) (ns : List ℕ) (at : ℕ) (e new : Entry) → ns ≡ map frames es → at < length es → e ≡ get_or es at e → frames new ≡ frames e → ns ≡ map frames (set es at new)
same-starts es ns at e new are inside is same =
    let here : get_or (map frames es) at 0 ≡ frames e = get_or-map frames es at e 0 inside ∙ ap frames (sym is) in
    are ∙ sym (map-set frames es at new ∙ ap (set (map frames es) at) (same ∙ sym here) ∙ set-get_or (map frames es) at 0)

-- a list and its starts after new entries were put in place of others, or were refused
pub indexed-either : {A E : Type 0} (r : Result A E) (es now new : List Entry) (ns after : List ℕ) (at n : ℕ) → IsIndexed es ns → All IsEntry new → length (replaced es at n new) ≤ 100000 → frames_in (replaced es at n new) < 2 ^ 31
    → OnOk r (now ≡ replaced es at n new) → OnOk r (after ≡ map frames (replaced es at n new)) → OnErr r (now ≡ es) → OnErr r (after ≡ ns) → IsIndexed now after
indexed-either (Ok x) es now new ns after at n indexed entries few short is are same stays =
    record {
      list = subst IsList (sym is) (record { entries = entries-replaced es at n new indexed.list.entries entries; few = few; short = short });
      starts = are ∙ ap (map frames) (sym is);
    }
indexed-either (Err e) es now new ns after at n indexed entries few short is are same stays =
    record { list = subst IsList (sym same) indexed.list; starts = stays ∙ indexed.starts ∙ ap (map frames) (sym same) }
