-- Two entries that overlap.
use Rattle.std.proofs.Common.{◌≡◌, ℕ, ◌+◌, ◌-◌, ◌<◌, Bool, true, false, if◌then◌else◌, nat_lt, List, [], ◌∷◌, ◌++◌, length, take, drop, get_or, set, Option, None, Some, is_some, refl, sym, ap, ◌∙◌, append_assoc, arith, length-append, length-take}
use Rattle.std.specs.Int.{from_bool}
use Rattle.std.proofs.lemmas.List.{get_or_read, take_at, drop_at, take-take}
use Rattle.std.proofs.lemmas.List.{get_or_append_left, get_or-take, take-append-le}
use Rattle.mlt_tree.specs.declared.entry.Entry.{Entry}
use Rattle.mlt_tree.specs.declared.entry.Entry.TheVariants.{Gap}
use Rattle.mlt_tree.specs.Edits.{cut, replaced}
use Rattle.mlt_tree.specs.Ranges.{frames}
use Rattle.mlt_playlist.specs.Overlaps.{first_part, last_part, without_first, without_last}
use Rattle.mlt_playlist.specs.Place.{entry_at}
use Rattle.mlt_playlist.proofs.Found.{set-replaced}

-- what is written over an entry that keeps some frames
module _ (es : List Entry) (at n count : ℕ) (e e' part : Entry) (h : at < length es) (read : e ≡ get_or es at e) where
  here : entry_at es at ≡ e
  here = sym (get_or_read es at e h read (Gap 0))

  pub narrowed_last : Some part ≡ last_part (entry_at es at) n → count ≡ frames e → e' ≡ cut e 0 (count - n) → set es at e' ≡ replaced es at 1 (without_last (entry_at es at) n)
  narrowed_last some counted is =
      set-replaced es at e' h ∙ ap (replaced es at 1) (ap (λ x. x ∷ []) (is ∙ ap (λ k. cut e 0 (k - n)) counted) ∙ rw here (by (nat_lt n (frames e)) (rw here at some)))
    where
      by : (t : Bool) → Some part ≡ (if t then Some (cut e (frames e - n) (frames e)) else None) → cut e 0 (frames e - n) ∷ [] ≡ (if t then cut e 0 (frames e - n) ∷ [] else [])
      by true some = refl
      by false some = cc

  pub narrowed_first : Some part ≡ first_part (entry_at es at) n → count ≡ frames e → e' ≡ cut e n count → set es at e' ≡ replaced es at 1 (without_first (entry_at es at) n)
  narrowed_first some counted is =
      set-replaced es at e' h ∙ ap (replaced es at 1) (ap (λ x. x ∷ []) (is ∙ ap (λ k. cut e n k) counted) ∙ rw here (by (nat_lt n (frames e)) (rw here at some)))
    where
      by : (t : Bool) → Some part ≡ (if t then Some (cut e 0 n) else None) → cut e n (frames e) ∷ [] ≡ (if t then cut e n (frames e) ∷ [] else [])
      by true some = refl
      by false some = cc

-- the entry before one that is replaced
entry_before : (es : List Entry) (at : ℕ) (new : List Entry) → at + 1 < length es → entry_at (replaced es (at + 1) 1 new) at ≡ entry_at es at
entry_before es at new h =
    get_or_append_left (take (at + 1) es) (new ++ drop (at + 1 + 1) es) (Gap 0) at (omega (arith, length-take (at + 1) es)) ∙ get_or-take (at + 1) es at (Gap 0) (omega arith)

length-left : (e : Entry) (n left : ℕ) (copy : Option Entry) → copy ≡ last_part e n → left ≡ from_bool (is_some copy) → left ≡ length (without_last e n)
length-left e n left copy is counted = counted ∙ ap (λ o. from_bool (is_some o)) is ∙ by (nat_lt n (frames e)) where
  by : (t : Bool) → from_bool (is_some (if t then Some (cut e (frames e - n) (frames e)) else None)) ≡ length (if t then cut e 0 (frames e - n) ∷ [] else [])
  by true = refl
  by false = refl

-- three replacements one after another are one
put_between : (es xs ys : List Entry) (at : ℕ) (e : Entry) → at + 1 < length es
    → replaced (replaced (replaced es (at + 1) 1 ys) at 1 xs) (at + length xs) 0 (e ∷ []) ≡ replaced es at 2 (xs ++ (e ∷ ys))
put_between es xs ys at e h =
    ap (λ l. take (at + length xs) l ++ (e ∷ drop (at + length xs + 0) l)) two
    ∙ ap (λ l. l ++ (e ∷ drop (at + length xs + 0) (first ++ last))) (take_at first last (at + length xs) (sym long))
    ∙ ap (λ l. first ++ (e ∷ l)) (drop_at first last (at + length xs + 0) (omega (arith, long)))
    ∙ append_assoc (take at es) xs (e ∷ last)
    ∙ ap (λ l. take at es ++ l) (sym (append_assoc xs (e ∷ ys) (drop (at + 2) es)))
  where
    first : List Entry
    first = take at es ++ xs

    last : List Entry
    last = ys ++ drop (at + 2) es

    long : at + length xs ≡ length first
    long = omega (arith, length-append (take at es) xs, length-take at es)

    front : length (take (at + 1) es) ≡ at + 1
    front = omega (arith, length-take (at + 1) es)

    rest : drop (at + 1) (replaced es (at + 1) 1 ys) ≡ last
    rest = drop_at (take (at + 1) es) (ys ++ drop (at + 1 + 1) es) (at + 1) front ∙ ap (λ k. ys ++ drop k es) place
      where
        place : at + 1 + 1 ≡ at + 2
        place = omega arith

    start : take at (replaced es (at + 1) 1 ys) ≡ take at es
    start = take-append-le at (take (at + 1) es) (ys ++ drop (at + 1 + 1) es) (omega (arith, front)) ∙ take-take at (at + 1) es (omega arith)

    two : replaced (replaced es (at + 1) 1 ys) at 1 xs ≡ first ++ last
    two = ap (λ l. l ++ (xs ++ drop (at + 1) (replaced es (at + 1) 1 ys))) start ∙ ap (λ l. take at es ++ (xs ++ l)) rest ∙ sym (append_assoc (take at es) xs last)

pub overlapped : (es one two three : List Entry) (at n left : ℕ) (a e : Entry) (copy : Option Entry) → at + 1 < length es
    → a ≡ get_or es at a → copy ≡ last_part a n → left ≡ from_bool (is_some copy)
    → one ≡ replaced es (at + 1) 1 (without_first (entry_at es (at + 1)) n)
    → two ≡ replaced one at 1 (without_last (entry_at one at) n)
    → three ≡ replaced two (at + left) 0 (e ∷ [])
    → three ≡ replaced es at 2 (without_last (entry_at es at) n ++ (e ∷ without_first (entry_at es (at + 1)) n))
overlapped es one two three at n left a e copy h read is counted first second third =
    third ∙ ap (λ l. replaced l (at + left) 0 (e ∷ [])) (second ∙ ap (λ x. replaced one at 1 (without_last x n)) same ∙ ap (λ l. replaced l at 1 xs) first)
    ∙ ap (λ k. replaced (replaced (replaced es (at + 1) 1 ys) at 1 xs) (at + k) 0 (e ∷ [])) (length-left (entry_at es at) n left copy (is ∙ ap (λ x. last_part x n) (get_or_read es at a (omega arith) read (Gap 0))) counted)
    ∙ put_between es xs ys at e h
  where
    xs : List Entry
    xs = without_last (entry_at es at) n

    ys : List Entry
    ys = without_first (entry_at es (at + 1)) n

    same : entry_at one at ≡ entry_at es at
    same = ap (λ l. entry_at l at) first ∙ entry_before es at ys h
