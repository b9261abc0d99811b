-- An entry that moves to another index.
use Rattle.std.proofs.Common.{◌≡◌, ℕ, ◌+◌, ◌-◌, ◌<◌, ◌≤◌, List, [], ◌∷◌, ◌++◌, length, take, drop, get_or, set, All, nat_lt, true, Ok, refl, sym, ap, subst, ◌∙◌, append_assoc, arith, length-take, length-drop}
use Rattle.std.proofs.Math.Seq.{take-append-add, drop-append-add}
use Rattle.std.proofs.lemmas.Bool.Decides.{nat_tests}
use Rattle.std.proofs.lemmas.Option.{slice_get_read}
use Rattle.std.specs.List.{swap}
use Rattle.std.proofs.lemmas.List.Elements.{All-nil, All-cons, All-head, All-tail, All-take, All-drop}
use Rattle.std.proofs.lemmas.List.Edits.{swap_is}
use Rattle.std.proofs.lemmas.List.{take-append-drop, length_push, get_or_default, drop_more, drop_all, set_at, drop-drop, drop-take, take-take, take-append-le, drop-append-le, length-take-le}
use Rattle.mlt_tree.specs.declared.entry.Entry.{Entry}
use Rattle.mlt_tree.specs.declared.entry.Entry.TheVariants.{Gap}
use Rattle.mlt_tree.specs.Edits as edit
use Rattle.mlt_tree.specs.Edits.{frames_in, replaced}
use Rattle.mlt_tree.specs.Ranges.{IsEntry}
use Rattle.mlt_playlist.specs.Changed.{moved}
use Rattle.mlt_playlist.specs.Place.{entry_at}
use Rattle.mlt_playlist.specs.Playlist.{IsCounted, IsList}
use Rattle.mlt_playlist.proofs.Counts.{counted-smaller, All-one, length-replaced, frames_in-replaced, entries-replaced}
use Rattle.mlt_playlist.proofs.Found.{part-one}

module _ (es : List Entry) (from to k : ℕ) where
  -- the entry stands first of k entries, and comes last of them
  pub behind : from ≤ to → to < length es → k ≡ to + 1 - from
      → take from es ++ ((drop 1 (take k (drop from es)) ++ take 1 (take k (drop from es))) ++ drop k (drop from es)) ≡ moved es from to
  behind ordered inside count =
      let passed : drop 1 (take k (drop from es)) ≡ take (to - from) (drop (from + 1) es) =
      ap (λ n. drop 1 (take n (drop from es))) (omega arith) ∙ drop-take 1 (to - from) (drop from es) ∙ ap (take (to - from)) (drop-drop 1 from es) in
      let entry : take 1 (take k (drop from es)) ≡ take 1 (drop from es) = take-take 1 k (drop from es) (omega arith) in
      let long : length (take from es) ≡ from = length-take-le from es (omega arith) in
      let first : take to (take from es ++ drop (from + 1) es) ≡ take from es ++ take (to - from) (drop (from + 1) es) =
      ap (λ n. take n (take from es ++ drop (from + 1) es)) (omega arith) ∙ take-append-add (take from es) (drop (from + 1) es) (to - from) in
      let last : drop (to + 0) (take from es ++ drop (from + 1) es) ≡ drop k (drop from es) =
      ap (λ n. drop n (take from es ++ drop (from + 1) es)) (omega arith) ∙ drop-append-add (take from es) (drop (from + 1) es) (to - from)
      ∙ drop-drop (to - from) (from + 1) es ∙ ap (λ n. drop n es) (omega arith) ∙ sym (drop-drop k from es) in
      cc (append_assoc (take (to - from) (drop (from + 1) es)) (take 1 (drop from es)) (drop k (drop from es)), append_assoc (take from es) (take (to - from) (drop (from + 1) es)) (take 1 (drop from es) ++ drop k (drop from es)))

  -- the entry stands last of k entries, and comes first of them
  pub before : (n : ℕ) → to ≤ from → from < length es → k ≡ from + 1 - to → n ≡ from - to
      → take to es ++ ((drop n (take k (drop to es)) ++ take n (take k (drop to es))) ++ drop k (drop to es)) ≡ moved es from to
  before n ordered inside count others =
      let entry : drop n (take k (drop to es)) ≡ take 1 (drop from es) =
      ap (λ m. drop n (take m (drop to es))) (omega arith) ∙ drop-take n 1 (drop to es) ∙ ap (take 1) (drop-drop n to es ∙ ap (λ m. drop m es) (omega arith)) in
      let passed : take n (take k (drop to es)) ≡ drop to (take from es) =
      take-take n k (drop to es) (omega arith) ∙ sym (ap (λ m. drop to (take m es)) (omega arith) ∙ drop-take to n es) in
      let long : length (take from es) ≡ from = length-take-le from es (omega arith) in
      let first : take to (take from es ++ drop (from + 1) es) ≡ take to es =
      take-append-le to (take from es) (drop (from + 1) es) (omega arith) ∙ take-take to from es ordered in
      let last : drop (to + 0) (take from es ++ drop (from + 1) es) ≡ drop to (take from es) ++ drop k (drop to es) =
      ap (λ m. drop m (take from es ++ drop (from + 1) es)) (omega arith) ∙ drop-append-le to (take from es) (drop (from + 1) es) (omega arith)
      ∙ ap (λ rest. drop to (take from es) ++ rest) (ap (λ m. drop m es) (omega arith) ∙ sym (drop-drop k to es)) in
      cc (append_assoc (take 1 (drop from es)) (drop to (take from es)) (drop k (drop to es)))

-- the same entries, in another order
pub counted-moved : (es : List Entry) (from to all : ℕ) → IsCounted es all → from < length es → to < length es → IsCounted (moved es from to) all
counted-moved es from to all counted inside target =
    let entry = take 1 (drop from es) in let others = replaced es from 1 [] in
    let one : length entry ≡ 1 = simp (length-take, length-drop) (omega arith) in
    let fewer = length-replaced es from 1 [] (omega arith) in
    let shorter = frames_in-replaced es from 1 [] in
    let many = length-replaced others to 0 entry (omega arith) in
    let long = frames_in-replaced others to 0 entry in
    record {
      list = record {
        entries = entries-replaced others to 0 entry (entries-replaced es from 1 [] counted.list.entries (All-nil IsEntry)) (All-take IsEntry 1 (drop from es) (All-drop IsEntry from es counted.list.entries));
        few = omega arith;
        short = omega arith;
      };
      counted = omega arith;
    }

pub move_clip-is : (es : List Entry) (from to : ℕ) → from < length es → to < length es → edit.move_clip from to es ≡ Ok (tt {0}, moved es from to)
move_clip-is es from to inside target =
    let e = get_or es from (Gap 0) in
    let is : e ≡ get_or es from e = get_or_default es from (Gap 0) e inside in
    let part = part-one es from e inside is in
    let there = slice_get_read es (length es) from e refl inside is in
    let less : nat_lt to (length es) ≡ true = grind (arith, nat_tests) in
    rw (part, there, less) refl

-- the last two entries
pub record AreLast (es : List Entry) (a b : Entry) : Type 0 where
  pub rest : drop (length es - 2) es ≡ a ∷ b ∷ []
  pub first : a ≡ get_or es (length es - 2) a
  pub second : b ≡ get_or es (length es - 1) b

pub last_two : (es : List Entry) → 2 ≤ length es → AreLast es (get_or es (length es - 2) (Gap 0)) (get_or es (length es - 1) (Gap 0))
last_two es two =
    let i = length es - 2 in
    let one : i + 1 ≡ length es - 1 = omega arith in
    record {
      rest =
          drop_more es i (Gap 0) (omega arith)
          ∙ ap (λ l. get_or es i (Gap 0) ∷ l) (drop_more es (i + 1) (Gap 0) (omega arith))
          ∙ ap (λ l. get_or es i (Gap 0) ∷ get_or es (i + 1) (Gap 0) ∷ l) (drop_all (i + 1 + 1) es (omega arith))
          ∙ ap (λ k. get_or es i (Gap 0) ∷ get_or es k (Gap 0) ∷ []) one;
      first = get_or_default es i (Gap 0) _ (omega arith);
      second = get_or_default es (length es - 1) (Gap 0) _ (omega arith);
    }

pub swap_last-is : (es : List Entry) (a b : Entry) → AreLast es a b → edit.swap_last es ≡ Ok (tt {0}, take (length es - 2) es ++ (b ∷ a ∷ []))
swap_last-is es a b last = rw (last.rest, edit.swap_last) refl

pub swapped : (es : List Entry) (a b : Entry) → 2 ≤ length es → AreLast es a b → swap es (length es - 2) (length es - 1) ≡ take (length es - 2) es ++ (b ∷ a ∷ [])
swapped es a b two last =
    let i = length es - 2 in let j = length es - 1 in let front = take i es in
    let long : length front ≡ i = length-take-le i es (omega arith) in
    let whole : es ≡ front ++ (a ∷ b ∷ []) = sym (take-append-drop i es) ∙ ap (λ l. front ++ l) last.rest in
    let second : get_or es j a ≡ b = get_or_default es j a b (omega arith) ∙ sym last.second in
    let once : set es i b ≡ front ++ (b ∷ b ∷ []) = ap (λ l. set l i b) whole ∙ set_at front a (b ∷ []) b i long in
    let longer : length (front ++ b ∷ []) ≡ j = length_push front b ∙ omega arith in
    let twice : set (front ++ (b ∷ b ∷ [])) j a ≡ front ++ (b ∷ a ∷ []) =
    ap (λ l. set l j a) (sym (append_assoc front (b ∷ []) (b ∷ []))) ∙ set_at (front ++ b ∷ []) b [] a j longer ∙ append_assoc front (b ∷ []) (a ∷ []) in
    sym (swap_is es i j a (omega arith) (omega arith)) ∙ ap (λ x. set (set es i x) j (get_or es i a)) second ∙ ap (λ x. set (set es i b) j x) (sym last.first) ∙ ap (λ l. set l j a) once ∙ twice

pub counted-swapped : (es : List Entry) (a b : Entry) (all : ℕ) → IsCounted es all → 2 ≤ length es → AreLast es a b → IsCounted (take (length es - 2) es ++ (b ∷ a ∷ [])) all
counted-swapped es a b all counted two last =
    let i = length es - 2 in
    let part : take 2 (drop i es) ≡ a ∷ b ∷ [] = ap (take 2) last.rest in
    let same : frames_in (take 2 (drop i es)) ≡ frames_in (b ∷ a ∷ []) = ap frames_in part ∙ omega arith in
    let ranges : All IsEntry (a ∷ b ∷ []) = subst (All IsEntry) part (All-take IsEntry 2 (drop i es) (All-drop IsEntry i es counted.list.entries)) in
    let none : drop (i + 2) es ≡ [] = drop_all (i + 2) es (omega arith) in
    let list : replaced es i 2 (b ∷ a ∷ []) ≡ take i es ++ (b ∷ a ∷ []) = ap (λ l. take i es ++ (b ∷ a ∷ l)) none in
    subst (λ l. IsCounted l all) list (counted-smaller es i 2 (b ∷ a ∷ []) all all counted (omega arith) (omega arith) (All-swap a b ranges) (omega arith) (omega arith))
  where
    All-swap : (a b : Entry) → All IsEntry (a ∷ b ∷ []) → All IsEntry (b ∷ a ∷ [])
    All-swap a b both =
        let rest = All-tail IsEntry a (b ∷ []) both in
        All-cons IsEntry b (a ∷ []) (All-head IsEntry b [] rest) (All-one a (All-head IsEntry a (b ∷ []) both))

-- what swapping leaves
pub record IsSwapped (es now : List Entry) : Type 0 where
  pub list : IsList now
  pub is : now ≡ replaced es (length es - 2) 2 (entry_at es (length es - 2 + 1) ∷ entry_at es (length es - 2) ∷ [])
  pub does : edit.swap_last es ≡ Ok (tt {0}, now)

pub swap_done : (es now : List Entry) (i j : ℕ) → IsList es → 2 ≤ length es → i ≡ length es - 2 → j ≡ length es - 1 → now ≡ swap es i j → IsSwapped es now
swap_done es now i j old two first second after =
    let a = get_or es (length es - 2) (Gap 0) in let b = get_or es (length es - 1) (Gap 0) in
    let last = last_two es two in
    let list : now ≡ take (length es - 2) es ++ (b ∷ a ∷ []) = after ∙ ap (λ k. swap es k j) first ∙ ap (λ k. swap es (length es - 2) k) second ∙ swapped es a b two last in
    let none : drop (length es - 2 + 2) es ≡ [] = drop_all (length es - 2 + 2) es (omega arith) in
    let one : length es - 1 ≡ length es - 2 + 1 = omega arith in
    record {
      list = (subst (λ l. IsCounted l (frames_in es)) (sym list) (counted-swapped es a b (frames_in es) (record { list = old; counted = refl }) two last)).list;
      is = list ∙ sym (ap (λ l. take (length es - 2) es ++ (b ∷ a ∷ l)) none) ∙ ap (λ k. replaced es (length es - 2) 2 (entry_at es k ∷ a ∷ [])) one;
      does = swap_last-is es a b last ∙ ap (λ l. Ok (tt {0}, l)) (sym list);
    }
