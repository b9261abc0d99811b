-- Settings that are made one after another.
use Rattle.std.proofs.Common.{◌≡◌, ℕ, ◌+◌, ◌≤◌, Bool, true, false, cond, List, [], ◌∷◌, ◌++◌, length, take, Option, Some, None, option_to_list, option_and_then, bytes_eq, nat_eq, is_none, ◌&&◌, refl, sym, ap, ◌∙◌, append_assoc, append-nil, if◌then◌else◌, pos, arith}
use Rattle.std.proofs.Math.Seq.{take-append_seam}
use Rattle.std.specs.List.{cons_option, starts_with}
use Rattle.mlt_props.specs.Entries.{Content, Entries, as_owned, value_of, owned_of, all_owned, set_at, set_all, replaced, is_passed, passed, SetsAll, SetsSome}
use Rattle.mlt_props.specs.Entries.Content.{Whole}
use Rattle.mlt_props.proofs.OwnedLemmas.{length-option_to_list}

cons_option-lengths : {X : Type 0} → (first : Option X) (rest : List X) → length (cons_option first rest) ≡ length (option_to_list first) + length rest
cons_option-lengths None rest = omega arith
cons_option-lengths (Some x) rest = omega arith

module _ {D : Type 0} where
  -- a setting to no owned value takes away the owned value of the name, and no other
  pub length-all_owned-set_at : (es : Entries D) (name : List ℕ) (value : Content D) → as_owned value ≡ None
      → length (all_owned (set_at es name value)) + length (option_to_list (owned_of es name)) ≡ length (all_owned es)
  length-all_owned-set_at [] name value unowned = rw unowned (omega arith)
  length-all_owned-set_at (e ∷ es) name value unowned =
      let none : length (option_to_list (as_owned value)) ≡ 0 = ap (λ owned. length (option_to_list owned)) unowned in
      elim (bytes_eq name e.0) as (λ b. length (all_owned (if b then (e.0, value) ∷ es else e ∷ set_at es name value))
      + length (option_to_list (option_and_then as_owned (cond b (Some e.1) (value_of es name)))) ≡ length (all_owned (e ∷ es))) [
        | true ↦ omega (arith, cons_option-lengths (as_owned value) (all_owned es), cons_option-lengths (as_owned e.1) (all_owned es))
        | false ↦ omega (arith, cons_option-lengths (as_owned e.1) (all_owned (set_at es name value)), cons_option-lengths (as_owned e.1) (all_owned es), length-all_owned-set_at es name value unowned)
      ]

  pub length-owned_of : (es : Entries D) (name : List ℕ) → length (option_to_list (owned_of es name)) ≤ length (all_owned es)
  length-owned_of es name = omega (arith, length-all_owned-set_at es name (Whole (pos 0)) refl)

  pub length-all_owned : (es : Entries D) → length (all_owned es) ≤ length es
  length-all_owned [] = omega arith
  length-all_owned (e ∷ es) = omega (arith, cons_option-lengths (as_owned e.1) (all_owned es), length-option_to_list (as_owned e.1), length-all_owned es)

  set_all-append : (es first rest : Entries D) → set_all es (first ++ rest) ≡ set_all (set_all es first) rest
  set_all-append es [] rest = refl
  set_all-append es (p ∷ first) rest = set_all-append (set_at es p.0 p.1) first rest

  replaced-append : (es first rest : Entries D) → replaced es (first ++ rest) ≡ replaced es first ++ replaced (set_all es first) rest
  replaced-append es [] rest = refl
  replaced-append es (p ∷ first) rest =
      let value = option_to_list (owned_of es p.0) in
      ap (λ values. value ++ values) (replaced-append (set_at es p.0 p.1) first rest)
      ∙ sym (append_assoc value (replaced (set_at es p.0 p.1) first) (replaced (set_all (set_at es p.0 p.1) first) rest))

  pub sets_none : (es : Entries D) (bin : List D) → SetsAll [] es es bin bin
  sets_none es bin = record { entries = refl; ended = sym (append-nil bin) }

  pub sets_more : (first rest : Entries D) (old mid new : Entries D) (bin bin' bin'' : List D) → SetsAll first old mid bin bin' → SetsAll rest mid new bin' bin''
      → SetsAll (first ++ rest) old new bin bin''
  sets_more first rest old mid new bin bin' bin'' one two =
      record {
        entries = two.entries ∙ ap (λ es. set_all es rest) one.entries ∙ sym (set_all-append old first rest);
        ended =
            two.ended
            ∙ ap (λ values. values ++ replaced mid rest) one.ended
            ∙ ap (λ es. (bin ++ replaced old first) ++ replaced es rest) one.entries
            ∙ append_assoc bin (replaced old first) (replaced (set_all old first) rest)
            ∙ ap (λ values. bin ++ values) (sym (replaced-append old first rest));
      }

  -- one property is passed, and then the others
  pub passed-cons : (prefix : List ℕ) (e : List ℕ × Content D) (es : Entries D) → passed prefix (e ∷ es) ≡ passed prefix (e ∷ []) ++ passed prefix es
  passed-cons prefix e es =
      elim (is_passed prefix e) as (λ b. cond b (e ∷ passed prefix es) (passed prefix es) ≡ cond b (e ∷ []) [] ++ passed prefix es) [
        | true ↦ refl
        | false ↦ refl
      ]

  -- of all these settings the first are made, and the rest is left
  pub record SetsUntil (all rest : Entries D) (old now : Entries D) (bin bin' : List D) : Type 0 where
    pub done : Entries D
    pub split : all ≡ done ++ rest
    pub sets : SetsAll done old now bin bin'

  -- what is passed is no owned value
  pub passed_unowned : (prefix : List ℕ) (e : List ℕ × Content D) → is_passed prefix e ≡ true → as_owned e.1 ≡ None
  passed_unowned prefix e passes = by (starts_with nat_eq e.0 prefix) (as_owned e.1) passes
    where
      by : (begins : Bool) (owned : Option D) → begins && is_none owned ≡ true → owned ≡ None
      by true None passes = refl
      by true (Some value) passes = cc
      by false owned passes = cc

  pub until_start : (all : Entries D) (es : Entries D) (bin : List D) → SetsUntil all all es es bin bin
  until_start all es bin = record { done = []; split = refl; sets = sets_none es bin }

  pub until_more : (prefix : List ℕ) (e : List ℕ × Content D) (es : Entries D) (all : Entries D) (old mid new : Entries D) (bin bin' bin'' : List D)
      → SetsUntil all (passed prefix (e ∷ es)) old mid bin bin' → SetsAll (passed prefix (e ∷ [])) mid new bin' bin''
      → SetsUntil all (passed prefix es) old new bin bin''
  until_more prefix e es all old mid new bin bin' bin'' before one =
      record {
        done = before.done ++ passed prefix (e ∷ []);
        split =
            before.split
            ∙ ap (λ rest. before.done ++ rest) (passed-cons prefix e es)
            ∙ sym (append_assoc before.done (passed prefix (e ∷ [])) (passed prefix es));
        sets = sets_more before.done (passed prefix (e ∷ [])) old mid new bin bin' bin'' before.sets one;
      }

  pub until_some : (all rest : Entries D) (old now new : Entries D) (bin bin' bin'' : List D) → SetsUntil all rest old now bin bin' → new ≡ now → bin'' ≡ bin'
      → SetsSome all old new bin bin''
  until_some all rest old now new bin bin' bin'' until same bin_same =
      let first : take (length until.done) all ≡ until.done = ap (take (length until.done)) until.split ∙ take-append_seam until.done rest in (
        length until.done,
        record {
          entries = same ∙ until.sets.entries ∙ ap (set_all old) (sym first);
          ended = bin_same ∙ until.sets.ended ∙ ap (λ settings. bin ++ replaced old settings) (sym first);
        },
      )
