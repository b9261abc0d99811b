-- Lists in which an entry is repeated.
use Rattle.std.proofs.Common.{◌≡◌, ℕ, suc, ◌+◌, ◌-◌, ◌*◌, ◌≤◌, ◌<◌, List, [], ◌∷◌, ◌++◌, All, length, take, drop, get_or, replicate, Result, Ok, sym, ap, subst, ◌∙◌, append_assoc, add-one, arith}
use Rattle.std.proofs.Math.Seq.{take-suc}
use Rattle.std.proofs.Math.Nat.{mul_comm, mul-suc}
use Rattle.std.proofs.lemmas.List.{get_or_read, length-replicate}
use Rattle.std.proofs.lemmas.List.Elements.{All-replicate, All-get_or}
use Rattle.std.proofs.lemmas.List.Folds.{sum_by-replicate}
use Rattle.mlt_base.specs.declared.faults.PlayFault.{PlayFault}
use Rattle.mlt_tree.specs.declared.entry.Entry.{Entry}
use Rattle.mlt_tree.specs.declared.entry.Entry.TheVariants.{Gap}
use Rattle.mlt_tree.specs.Edits.{frames_in, grown, replaced, repeat_clip}
use Rattle.mlt_tree.specs.Ranges.{IsEntry, frames}
use Rattle.mlt_playlist.specs.Place.{entry_at, sized}
use Rattle.mlt_playlist.specs.Playlist.{IsCounted, IsTested}
use Rattle.mlt_playlist.proofs.Counts.{length-replaced, frames_in-replaced, entries-replaced, grown-ok}
use Rattle.mlt_playlist.proofs.Found.{with_entry-there, frames_in-entry}
use Rattle.mlt_playlist.proofs.Sizes.{IsSized, sized-tested}

-- an entry that stays, and a replacement of those behind it
replaced_after : (es : List Entry) (at n : ℕ) (e : Entry) (new : List Entry) → at < length es → e ≡ get_or es at e
    → replaced es (at + 1) n new ≡ replaced es at (1 + n) (e ∷ new)
replaced_after es at n e new h is =
    ap (λ k. take k es ++ (new ++ drop (at + 1 + n) es)) (add-one at)
    ∙ ap (λ l. l ++ (new ++ drop (at + 1 + n) es)) (take-suc es at e h ∙ ap (λ x. take at es ++ x ∷ []) (sym is))
    ∙ append_assoc (take at es) (e ∷ []) (new ++ drop (at + 1 + n) es)
    ∙ ap (λ k. take at es ++ (e ∷ (new ++ drop k es))) place
  where
    place : at + 1 + n ≡ at + (1 + n)
    place = omega arith

once_more : (n f : ℕ) → 1 ≤ n → n * f ≡ f * (n - 1) + f
once_more n f some = mul_comm n f ∙ ap (λ k. f * k) next ∙ mul-suc f (n - 1) where
  next : n ≡ suc (n - 1)
  next = omega arith

-- the size of a list in which an entry stands n times
repeated-sized : (es : List Entry) (at n : ℕ) (e : Entry) → All IsEntry es → at < length es → e ≡ get_or es at e → 1 ≤ n
    → IsSized (replaced es at 1 (replicate n e)) (length es + (n - 1)) (frames_in es + frames e * (n - 1))
repeated-sized es at n e old h is some =
    let new : List Entry = replicate n e in
    let times : n * frames e ≡ frames e * (n - 1) + frames e = once_more n (frames e) some in
    record {
      counted = omega (arith, length-replaced es at 1 new (omega arith), length-replicate n e);
      summed = omega (arith, frames_in-replaced es at 1 new, frames_in-entry es at e h is, sum_by-replicate frames n e);
      entries = entries-replaced es at 1 new old (All-replicate IsEntry n e (subst IsEntry (sym is) (All-get_or IsEntry es at e h old)));
    }

pub repeated-tested : (es : List Entry) (at n more all count : ℕ) (e : Entry) (result : Result ℕ PlayFault) → IsCounted es all → at < length es → e ≡ get_or es at e → 1 ≤ n
    → more ≡ n - 1 → count ≡ frames e → result ≡ sized (length es + (n - 1)) (all + count * more)
    → IsTested (replaced es at 1 (replicate n (entry_at es at))) result
repeated-tested es at n more all count e result old h is some fewer has sizes =
    let here : entry_at es at ≡ e = sym (get_or_read es at e h is (Gap 0)) in
    rw (sizes, here, fewer, has, old.counted) (sized-tested (replaced es at 1 (replicate n e)) (length es + (n - 1)) (frames_in es + frames e * (n - 1)) (repeated-sized es at n e old.list.entries h is some))

-- one that stays, and the copies behind it
repeated-list : (es more : List Entry) (at n : ℕ) (e : Entry) → at < length es → e ≡ get_or es at e → 1 ≤ n → more ≡ replicate (n - 1) e → replaced es (at + 1) 0 more ≡ replaced es at 1 (replicate n e)
repeated-list es more at n e h is some copied =
    let place : suc (n - 1) ≡ n = omega arith in
    ap (λ l. replaced es (at + 1) 0 l) copied ∙ replaced_after es at 0 e (replicate (n - 1) e) h is ∙ ap (λ k. replaced es at 1 (replicate k e)) place

pub repeat-does : (es kept now more : List Entry) (at n count : ℕ) (e : Entry) → kept ≡ es → at < length es → e ≡ get_or kept at e → 1 ≤ n → more ≡ replicate (n - 1) e
    → IsTested (replaced kept at 1 (replicate n (entry_at kept at))) (Ok count) → now ≡ replaced es (at + 1) 0 more → repeat_clip at n es ≡ Ok (tt {0}, now)
repeat-does es kept now more at n count e same h is some copied tested done =
    with_entry-there es at (λ x. grown (tt {0}) (replaced es at 1 (replicate n x))) e h read ∙ grown-ok (tt {0}) (replaced es at 1 (replicate n e)) fits.0 fits.1 ∙ ap (λ l. Ok (tt {0}, l)) (sym (done ∙ repeated-list es more at n e h read some copied))
  where
    read : e ≡ get_or es at e
    read = is ∙ ap (λ l. get_or l at e) same

    fits : IsTested (replaced es at 1 (replicate n e)) (Ok count)
    fits =
        let here : entry_at es at ≡ e = sym (get_or_read es at e h read (Gap 0)) in
        subst (λ x. IsTested (replaced es at 1 (replicate n x)) (Ok count)) here (subst (λ l. IsTested (replaced l at 1 (replicate n (entry_at l at))) (Ok count)) same tested)
