-- Starts after an entry moved past its neighbours, one by one.
use Rattle.std.proofs.Common.{◌≡◌, ℕ, ◌+◌, ◌-◌, ◌≤◌, ◌<◌, List, [], ◌∷◌, ◌++◌, length, take, drop, get_or, map, refl, sym, ap, subst, ◌∙◌, append_assoc, arith, length-take, length-drop}
use Rattle.std.proofs.lemmas.List.{drop_at, drop-drop, drop_more, get_or-append_right, get_or_append_left, get_or-drop, get_or-take, length-take-le, take-append-drop, take_at, take_more}
use Rattle.std.proofs.lemmas.List.Elements.{All-cons, All-get_or}
use Rattle.mlt_index.specs.Starts as numbers
use Rattle.mlt_tree.specs.declared.entry.Entry.{Entry}
use Rattle.mlt_tree.specs.Edits.{frames_in, replaced}
use Rattle.mlt_tree.specs.Ranges.{IsEntry, frames}
use Rattle.mlt_playlist.specs.Changed.{moved}
use Rattle.mlt_playlist.specs.Playlist.{IsIndexed, IsList}
use Rattle.mlt_playlist.proofs.Counts.{All-one, frames_in-replaced, length-replaced}
use Rattle.mlt_playlist.proofs.Found.{part-one}
use Rattle.mlt_playlist.proofs.Indexed.{AreNumbers, numbers_of}
use Rattle.mlt_playlist.proofs.Moves.{counted-moved}

-- an entry m that stands before an entry x of others, and behind it
module _ (os : List Entry) (m x : Entry) (k : ℕ) (inside : k < length os) (is : x ≡ get_or os k x) where
  before_one : replaced os k 0 (m ∷ []) ≡ take k os ++ (m ∷ x ∷ drop (k + 1) os)
  before_one =
      let same : k + 0 ≡ k = omega arith in
      ap (λ j. take k os ++ (m ∷ drop j os)) same ∙ ap (λ l. take k os ++ (m ∷ l)) (drop_more os k x inside ∙ ap (λ y. y ∷ drop (k + 1) os) (sym is))

  behind_one : replaced os (k + 1) 0 (m ∷ []) ≡ take k os ++ (x ∷ m ∷ drop (k + 1) os)
  behind_one =
      let same : k + 1 + 0 ≡ k + 1 = omega arith in
      ap (λ j. take (k + 1) os ++ (m ∷ drop j os)) same ∙ ap (λ l. l ++ (m ∷ drop (k + 1) os)) (take_more os k x inside ∙ ap (λ y. take k os ++ y ∷ []) (sym is)) ∙ append_assoc (take k os) (x ∷ []) (m ∷ drop (k + 1) os)

  both : (a b c d : Entry) → replaced (take k os ++ (a ∷ b ∷ drop (k + 1) os)) k 2 (c ∷ d ∷ []) ≡ take k os ++ (c ∷ d ∷ drop (k + 1) os)
  both a b c d =
      let long : length (take k os) ≡ k = length-take-le k os (omega arith) in
      let all : List Entry = take k os ++ (a ∷ b ∷ drop (k + 1) os) in
      ap (λ l. l ++ (c ∷ d ∷ drop (k + 2) all)) (take_at (take k os) (a ∷ b ∷ drop (k + 1) os) k long)
      ∙ ap (λ l. take k os ++ (c ∷ d ∷ l)) (sym (drop-drop 2 k all) ∙ ap (drop 2) (drop_at (take k os) (a ∷ b ∷ drop (k + 1) os) k long))

  pub step_behind : replaced (replaced os k 0 (m ∷ [])) k 2 (x ∷ m ∷ []) ≡ replaced os (k + 1) 0 (m ∷ [])
  step_behind = ap (λ l. replaced l k 2 (x ∷ m ∷ [])) before_one ∙ both m x x m ∙ sym behind_one

  pub step_before : replaced (replaced os (k + 1) 0 (m ∷ [])) k 2 (m ∷ x ∷ []) ≡ replaced os k 0 (m ∷ [])
  step_before = ap (λ l. replaced l k 2 (m ∷ x ∷ [])) behind_one ∙ both x m m x ∙ sym before_one

-- a moved entry among the others
moved-is : (es : List Entry) (from to : ℕ) (m : Entry) → from < length es → m ≡ get_or es from m → moved es from to ≡ replaced (replaced es from 1 []) to 0 (m ∷ [])
moved-is es from to m there is = ap (λ l. replaced (replaced es from 1 []) to 0 l) (part-one es from m there is)

-- where it stands it stays
moved-same : (es : List Entry) (from : ℕ) (m : Entry) → from < length es → m ≡ get_or es from m → moved es from from ≡ es
moved-same es from m there is =
    let long : length (take from es) ≡ from = length-take-le from es (omega arith) in
    let same : from + 0 ≡ from = omega arith in
    let others : List Entry = take from es ++ drop (from + 1) es in
    moved-is es from from m there is
    ∙ ap (λ k. take from others ++ (m ∷ drop k others)) same
    ∙ ap (λ l. l ++ (m ∷ drop from others)) (take_at (take from es) (drop (from + 1) es) from long)
    ∙ ap (λ l. take from es ++ (m ∷ l)) (drop_at (take from es) (drop (from + 1) es) from long)
    ∙ ap (λ l. take from es ++ l) (sym (drop_more es from m there ∙ ap (λ y. y ∷ drop (from + 1) es) (sym is)))
    ∙ take-append-drop from es

-- an entry of the others
other_behind : (es : List Entry) (from k : ℕ) (x : Entry) → from ≤ k → k + 1 < length es → x ≡ get_or es (k + 1) x → x ≡ get_or (replaced es from 1 []) k x
other_behind es from k x order inside is =
    let long : length (take from es) ≡ from = length-take-le from es (omega arith) in
    let place : from + 1 + (k - from) ≡ k + 1 = omega arith in
    is ∙ ap (λ j. get_or es j x) (sym place) ∙ sym (get_or-drop (from + 1) es (k - from) x) ∙ sym (get_or-append_right (take from es) (drop (from + 1) es) from k x long order)

other_before : (es : List Entry) (from k : ℕ) (x : Entry) → k < from → from < length es → x ≡ get_or es k x → x ≡ get_or (replaced es from 1 []) k x
other_before es from k x order inside is =
    let long : length (take from es) ≡ from = length-take-le from es (omega arith) in
    is ∙ sym (get_or-take from es k x order) ∙ sym (get_or_append_left (take from es) (drop (from + 1) es) x k (omega arith))

-- the numbers of an entry that moves, and of the one that it passes
stepped : (es now : List Entry) (from at next : ℕ) (a b : Entry) (starts given : List ℕ) → IsList es → from < length es → next < length es → at + 1 < length es
    → IsIndexed now starts → length now ≡ length es → replaced now at 2 (a ∷ b ∷ []) ≡ moved es from next → IsEntry a → IsEntry b → given ≡ map frames (a ∷ b ∷ [])
    → AreNumbers now starts at 2 (a ∷ b ∷ []) given
stepped es now from at next a b starts given list there target inside indexed many is entry_a entry_b numbers =
    let all = counted-moved es from next (frames_in es) (record { list = list; counted = refl }) there target in
    numbers_of now starts at 2 (a ∷ b ∷ []) given indexed.starts (omega arith) (All-cons IsEntry a (b ∷ []) entry_a (All-one b entry_b)) (omega (arith, ap frames_in is, all.list.short)) numbers

-- what the numbers leave
left : (es now : List Entry) (from at next : ℕ) (a b : Entry) (starts given after : List ℕ) → IsList es → from < length es → next < length es
    → replaced now at 2 (a ∷ b ∷ []) ≡ moved es from next → AreNumbers now starts at 2 (a ∷ b ∷ []) given → after ≡ numbers.replaced starts at 2 given → IsIndexed (moved es from next) after
left es now from at next a b starts given after list there target is given_is after_is =
    record {
      list = (counted-moved es from next (frames_in es) (record { list = list; counted = refl }) there target).list;
      starts = after_is ∙ given_is.are ∙ ap (map frames) is;
    }

length-moved : (es : List Entry) (from to : ℕ) → from < length es → to < length es → length (moved es from to) ≡ length es
length-moved es from to there target =
    let entry = take 1 (drop from es) in
    let one : length entry ≡ 1 = simp (length-take, length-drop) (omega arith) in
    let fewer = length-replaced es from 1 [] (omega arith) in
    let many = length-replaced (replaced es from 1 []) to 0 entry (omega arith) in
    omega arith

module _ (es : List Entry) (from k : ℕ) (m x : Entry) (starts given : List ℕ) (list : IsList es) (there : from < length es) (is_m : m ≡ get_or es from m) where
  others : length (replaced es from 1 []) + 1 ≡ length es + 0
  others = length-replaced es from 1 [] (omega arith)

  entry : (i : ℕ) (e : Entry) → i < length es → e ≡ get_or es i e → IsEntry e
  entry i e inside is = subst IsEntry (sym is) (All-get_or IsEntry es i e inside list.entries)

  -- it passes the entry behind it
  module _ (order : from ≤ k) (inside : k + 1 < length es) (is_x : x ≡ get_or es (k + 1) x) (indexed : IsIndexed (moved es from k) starts) where
    passed_behind : replaced (moved es from k) k 2 (x ∷ m ∷ []) ≡ moved es from (k + 1)
    passed_behind =
        ap (λ l. replaced l k 2 (x ∷ m ∷ [])) (moved-is es from k m there is_m)
        ∙ step_behind (replaced es from 1 []) m x k (omega (arith, others)) (other_behind es from k x order inside is_x)
        ∙ sym (moved-is es from (k + 1) m there is_m)

    pub behind_numbers : given ≡ map frames (x ∷ m ∷ []) → AreNumbers (moved es from k) starts k 2 (x ∷ m ∷ []) given
    behind_numbers is =
        stepped es (moved es from k) from k (k + 1) x m starts given list there inside inside indexed (length-moved es from k there (omega arith)) passed_behind (entry (k + 1) x inside is_x) (entry from m there is_m) is

    pub behind_left : (after : List ℕ) → given ≡ map frames (x ∷ m ∷ []) → after ≡ numbers.replaced starts k 2 given → IsIndexed (moved es from (k + 1)) after
    behind_left after is after_is =
        left es (moved es from k) from k (k + 1) x m starts given after list there inside passed_behind (behind_numbers is) after_is

  -- it passes the entry before it
  module _ (order : k < from) (is_x : x ≡ get_or es k x) (indexed : IsIndexed (moved es from (k + 1)) starts) where
    passed_before : replaced (moved es from (k + 1)) k 2 (m ∷ x ∷ []) ≡ moved es from k
    passed_before =
        ap (λ l. replaced l k 2 (m ∷ x ∷ [])) (moved-is es from (k + 1) m there is_m)
        ∙ step_before (replaced es from 1 []) m x k (omega (arith, others)) (other_before es from k x order there is_x)
        ∙ sym (moved-is es from k m there is_m)

    pub before_numbers : given ≡ map frames (m ∷ x ∷ []) → AreNumbers (moved es from (k + 1)) starts k 2 (m ∷ x ∷ []) given
    before_numbers is =
        stepped es (moved es from (k + 1)) from k k m x starts given list there (omega arith) (omega arith) indexed (length-moved es from (k + 1) there (omega arith)) passed_before (entry from m there is_m) (entry k x (omega arith) is_x) is

    pub before_left : (after : List ℕ) → given ≡ map frames (m ∷ x ∷ []) → after ≡ numbers.replaced starts k 2 given → IsIndexed (moved es from k) after
    before_left after is after_is =
        left es (moved es from (k + 1)) from k k m x starts given after list there (omega arith) passed_before (before_numbers is) after_is

-- an entry that has not moved yet
pub indexed-start : (es : List Entry) (from : ℕ) (m : Entry) (starts : List ℕ) → from < length es → m ≡ get_or es from m → IsIndexed es starts → IsIndexed (moved es from from) starts
indexed-start es from m starts there is indexed = subst (λ l. IsIndexed l starts) (sym (moved-same es from m there is)) indexed

-- two neighbours the other way round
pub swapped_numbers : (es : List Entry) (starts given : List ℕ) (at : ℕ) (a b : Entry) → IsIndexed es starts → at + 1 < length es → a ≡ get_or es at a → b ≡ get_or es (at + 1) b
    → given ≡ map frames (b ∷ a ∷ []) → AreNumbers es starts at 2 (b ∷ a ∷ []) given
swapped_numbers es starts given at a b indexed there is_a is_b numbers =
    let part : take 2 (drop at es) ≡ a ∷ b ∷ [] =
    ap (take 2) (drop_more es at a (omega arith) ∙ ap (λ x. x ∷ drop (at + 1) es) (sym is_a)) ∙ ap (λ l. a ∷ l) (part-one es (at + 1) b there is_b) in
    let sum = frames_in-replaced es at 2 (b ∷ a ∷ []) in
    let same : frames_in (take 2 (drop at es)) ≡ frames_in (b ∷ a ∷ []) = ap frames_in part ∙ omega arith in
    let entry_a : IsEntry a = subst IsEntry (sym is_a) (All-get_or IsEntry es at a (omega arith) indexed.list.entries) in
    let entry_b : IsEntry b = subst IsEntry (sym is_b) (All-get_or IsEntry es (at + 1) b there indexed.list.entries) in
    numbers_of es starts at 2 (b ∷ a ∷ []) given indexed.starts (omega arith) (All-cons IsEntry b (a ∷ []) entry_b (All-one a entry_a)) (omega (arith, indexed.list.short)) numbers
