-- The owned values of a list of properties.
use Rattle.std.proofs.Common.{◌≡◌, ℕ, ◌+◌, ◌<◌, ◌≤◌, true, false, List, [], ◌∷◌, ◌++◌, length, reverse, Option, Some, None, String, option_to_list, bytes_eq, if◌then◌else◌, refl, ap, ◌∙◌, arith}
use Rattle.std.proofs.lemmas.List.{reverse-append}
use Rattle.std.specs.List.{cons_option}
use Rattle.mlt_props.specs.declared.held.Held.{Held}
use Rattle.mlt_props.specs.Entries.{Content, Entries, as_owned, all_owned, set_at}
use Rattle.mlt_props.specs.Contents.{content, entries_of}

pub cons_option-append : {X : Type 0} → (first : Option X) (rest : List X) → cons_option first rest ≡ option_to_list first ++ rest
cons_option-append None rest = refl
cons_option-append (Some x) rest = refl

pub length-option_to_list : {X : Type 0} → (first : Option X) → length (option_to_list first) ≤ 1
length-option_to_list None = omega arith
length-option_to_list (Some x) = omega arith

pub none_left : {X : Type 0} → (xs : List X) → (0 < length xs → false ≡ true) → xs ≡ []
none_left [] more = refl
none_left (x ∷ xs) more = let e : false ≡ true = more (omega arith) in cc

-- at most one name is new
pub length-set_at : {D : Type 0} (es : Entries D) (name : List ℕ) (value : Content D) → length (set_at es name value) ≤ length es + 1
length-set_at [] name value = omega arith
length-set_at (e ∷ es) name value =
    elim (bytes_eq name e.0) as (λ b. length (if b then (e.0, value) ∷ es else e ∷ set_at es name value) ≤ length (e ∷ es) + 1) [
      | true ↦ omega arith
      | false ↦ omega (arith, length-set_at es name value)
    ]

module _ {A D : Type 0} where
  -- the last entry, once the list is turned round, stands first
  pub all_owned-last : (kept rest : List (String A × Held D)) (name : String A) (held : Held D) → kept ≡ rest ++ (name, held) ∷ []
      → all_owned (entries_of (reverse kept)) ≡ option_to_list (as_owned (content held)) ++ all_owned (entries_of (reverse rest))
  all_owned-last kept rest name held last =
      ap (λ all. all_owned (entries_of (reverse all))) last
      ∙ ap (λ all. all_owned (entries_of all)) (reverse-append rest ((name, held) ∷ []))
      ∙ cons_option-append (as_owned (content held)) (all_owned (entries_of (reverse rest)))
