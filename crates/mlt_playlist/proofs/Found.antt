-- What an edit does with the entry at an index.
use Rattle.std.proofs.Common.{◌≡◌, ℕ, ◌-◌, ◌<◌, List, [], ◌∷◌, ◌++◌, length, take, drop, get_or, set, remove, refl, sym, ap, subst, ◌∙◌, add-one, arith}
use Rattle.std.proofs.lemmas.Option.{slice_get_read}
use Rattle.std.proofs.lemmas.List.Elements.{All-nil}
use Rattle.std.proofs.lemmas.List.{set_split, drop_more}
use Rattle.mlt_tree.specs.declared.entry.Entry.{Entry}
use Rattle.mlt_tree.specs.Edits.{Edited, replaced, with_entry, frames_in}
use Rattle.mlt_tree.specs.Ranges.{IsEntry, frames}
use Rattle.mlt_playlist.specs.Playlist.{IsCounted}
use Rattle.mlt_playlist.proofs.Counts.{counted-smaller, frames_in-part, All-one}

module _ {A : Type 0} (es : List Entry) (at : ℕ) (act : Entry → Edited A) where
  pub with_entry-there : (e : Entry) → at < length es → e ≡ get_or es at e → with_entry es at act ≡ act e
  with_entry-there e inside is = let there = slice_get_read es (length es) at e refl inside is in rw (there, with_entry) refl

-- the part that an entry is
pub part-one : (es : List Entry) (at : ℕ) (e : Entry) → at < length es → e ≡ get_or es at e → take 1 (drop at es) ≡ e ∷ []
part-one es at e inside is = ap (take 1) (drop_more es at e inside) ∙ ap (λ x. x ∷ []) (sym is)

-- an entry that is written over
pub set-replaced : (es : List Entry) (at : ℕ) (e : Entry) → at < length es → set es at e ≡ replaced es at 1 (e ∷ [])
set-replaced es at e inside = set_split es at e inside ∙ ap (λ k. take at es ++ e ∷ drop k es) (sym (add-one at))

pub frames_in-entry : (es : List Entry) (at : ℕ) (e : Entry) → at < length es → e ≡ get_or es at e → frames_in (take 1 (drop at es)) ≡ frames e
frames_in-entry es at e inside is = rw (part-one es at e inside is) (omega arith)

-- an entry that is taken out
pub remove-replaced : (es : List Entry) (at : ℕ) → remove es at ≡ replaced es at 1 []
remove-replaced es at = ap (λ k. take at es ++ drop k es) (sym (add-one at))

pub counted-removed : (es : List Entry) (at : ℕ) (e : Entry) (all : ℕ) → IsCounted es all → at < length es → e ≡ get_or es at e
    → IsCounted (replaced es at 1 []) (all - frames e)
counted-removed es at e all counted inside is =
    let part = frames_in-entry es at e inside is in
    let less = frames_in-part es at 1 in
    counted-smaller es at 1 [] all (all - frames e) counted (omega arith) (omega arith) (All-nil IsEntry) (omega arith) (omega arith)

-- another entry of as many frames
pub counted-same : (es : List Entry) (at : ℕ) (e new : Entry) (all : ℕ) → IsCounted es all → at < length es → e ≡ get_or es at e
    → IsEntry new → frames new ≡ frames e → IsCounted (set es at new) all
counted-same es at e new all counted inside is ranges same =
    let part = frames_in-entry es at e inside is in
    let one : frames_in (new ∷ []) ≡ frames new = omega arith in
    subst (λ l. IsCounted l all) (sym (set-replaced es at new inside)) (counted-smaller es at 1 (new ∷ []) all all counted (omega arith) (omega arith) (All-one new ranges) (omega arith) (omega arith))
