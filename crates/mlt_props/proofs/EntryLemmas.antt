-- What the calls of a map say of the properties that it keeps.
use Rattle.std.proofs.Common.{◌≡◌, ℕ, zero, suc, ◌<◌, true, false, cond, List, [], ◌∷◌, length, get_or, position, Some, String, string_bytes, string_eq, bytes_eq, option_map, refl, ap, if◌then◌else◌, arith}
use Rattle.std.proofs.lemmas.List.Quantifiers.{position-Some}
use Rattle.std.specs.List.{AllByRecursion, IsDistinct}
use Rattle.std.specs.Map.{keys_of, lookup, remove_entry}
use Rattle.indexmap.specs.IndexMap.{insert_entry, set_value_at}
use Rattle.mlt_props.specs.declared.held.Held.{Held}
use Rattle.mlt_props.specs.Entries.{set_at, value_of, without, HasDistinctNames}
use Rattle.mlt_props.specs.Contents.{content, entries_of}

module _ {A D : Type 0} where
  pub length-entries_of : (kept : List (String A × Held D)) → length (entries_of kept) ≡ length kept
  length-entries_of [] = refl
  length-entries_of (e ∷ kept) = ap suc (length-entries_of kept)

  -- an insert sets the name to the value
  pub entries_of-insert : (kept : List (String A × Held D)) (name : String A) (held : Held D)
      → entries_of (insert_entry string_eq kept name held) ≡ set_at (entries_of kept) (string_bytes name) (content held)
  entries_of-insert [] name held = refl
  entries_of-insert (e ∷ kept) name held =
      elim (string_eq name e.0) as (λ b. entries_of (if b then (e.0, held) ∷ kept else e ∷ insert_entry string_eq kept name held)
      ≡ (if b then (string_bytes e.0, content held) ∷ entries_of kept else (string_bytes e.0, content e.1) ∷ set_at (entries_of kept) (string_bytes name) (content held))) [
        | true ↦ refl
        | false ↦ ap (λ rest. (string_bytes e.0, content e.1) ∷ rest) (entries_of-insert kept name held)
      ]

  -- a look-up finds the value of the name
  pub value_of-entries_of : (kept : List (String A × Held D)) (name : List ℕ)
      → option_map content (lookup (λ k. bytes_eq name (string_bytes k)) kept) ≡ value_of (entries_of kept) name
  value_of-entries_of [] name = refl
  value_of-entries_of (e ∷ kept) name =
      elim (bytes_eq name (string_bytes e.0)) as (λ b. option_map content (cond b (Some e.1) (lookup (λ k. bytes_eq name (string_bytes k)) kept))
      ≡ cond b (Some (content e.1)) (value_of (entries_of kept) name)) [
        | true ↦ refl
        | false ↦ value_of-entries_of kept name
      ]

  -- a removal takes the name out
  pub entries_of-remove : (kept : List (String A × Held D)) (name : List ℕ)
      → entries_of (remove_entry (λ k. bytes_eq name (string_bytes k)) kept) ≡ without (entries_of kept) name
  entries_of-remove [] name = refl
  entries_of-remove (e ∷ kept) name =
      elim (bytes_eq name (string_bytes e.0)) as (λ b. entries_of (cond b kept (e ∷ remove_entry (λ k. bytes_eq name (string_bytes k)) kept))
      ≡ cond b (entries_of kept) ((string_bytes e.0, content e.1) ∷ without (entries_of kept) name)) [
        | true ↦ refl
        | false ↦ ap (λ rest. (string_bytes e.0, content e.1) ∷ rest) (entries_of-remove kept name)
      ]

  -- a write at the first place with the name sets the name
  set_at_first : (kept : List (String A × Held D)) (i : ℕ) (name : List ℕ) (held : Held D) (d : String A) → i < length (keys_of kept)
      → bytes_eq name (string_bytes (get_or (keys_of kept) i d)) ≡ true → ((k : ℕ) → k < i → bytes_eq name (string_bytes (get_or (keys_of kept) k d)) ≡ false)
      → entries_of (set_value_at kept i held) ≡ set_at (entries_of kept) name (content held)
  set_at_first [] i name held d within here before = absurd (omega arith)
  set_at_first (e ∷ kept) zero name held d within here before =
      rw here refl
  set_at_first (e ∷ kept) (suc i) name held d within here before =
      rw (before 0 (omega arith)) (ap (λ rest. (string_bytes e.0, content e.1) ∷ rest) (set_at_first kept i name held d (omega arith) here (λ k below. before (suc k) (omega arith))))

  pub entries_of-set_value_at : (kept : List (String A × Held D)) (i : ℕ) (name : List ℕ) (held : Held D) → position (λ k. bytes_eq name (string_bytes k)) (keys_of kept) ≡ Some i
      → entries_of (set_value_at kept i held) ≡ set_at (entries_of kept) name (content held)
  entries_of-set_value_at [] i name held found = cc
  entries_of-set_value_at (e ∷ kept) i name held found =
      let at = position-Some (λ k. bytes_eq name (string_bytes k)) (keys_of (e ∷ kept)) i e.0 found in
      set_at_first (e ∷ kept) i name held e.0 at.0 at.1 at.2

  -- no name stands twice where no key does
  apart : (key : String A) (kept : List (String A × Held D)) → AllByRecursion (λ k. string_eq key k ≡ false) (keys_of kept)
      → AllByRecursion (λ name. bytes_eq (string_bytes key) name ≡ false) (keys_of (entries_of kept))
  apart key [] each = each
  apart key (e ∷ kept) each = (each.0, apart key kept each.1)

  pub distinct_names : (kept : List (String A × Held D)) → IsDistinct string_eq (keys_of kept) → HasDistinctNames (entries_of kept)
  unfolding IsDistinct
  distinct_names [] distinct = distinct
  distinct_names (e ∷ kept) distinct = (apart e.0 kept distinct.0, distinct_names kept distinct.1)
