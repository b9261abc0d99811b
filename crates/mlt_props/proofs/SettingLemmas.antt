-- What a setting does to the value of each name.
use Rattle.std.proofs.Common.{◌≡◌, ℕ, Bool, true, false, cond, List, [], ◌∷◌, ◌++◌, reverse, Option, Some, None, bytes_eq, refl, sym, ap, ◌∙◌, if◌then◌else◌}
use Rattle.std.proofs.lemmas.List.{reverse-append}
use Rattle.std.specs.Cmp.Lexicographic.{nat_list_eq_equiv}
use Rattle.std.specs.Option.{option_or}
use Rattle.mlt_props.specs.Entries.{Content, Entries, set_at, value_of, LastSettingCounts}

-- two tests of one name answer alike where the tested names are equal
same_test : (name set other : List ℕ) → bytes_eq set other ≡ true → bytes_eq name set ≡ bytes_eq name other
same_test name set other equal =
    nat_list_eq_equiv.symm name set ∙ nat_list_eq_equiv.congr set other name equal ∙ nat_list_eq_equiv.symm other name

module _ {X : Type 0} where
  -- the value of an equal name is replaced
  replaces : (b c : Bool) (new old : X) (rest : Option X) → b ≡ c → cond c (Some new) rest ≡ cond b (Some new) (cond c (Some old) rest)
  replaces true true new old rest same = refl
  replaces true false new old rest same = cc
  replaces false true new old rest same = cc
  replaces false false new old rest same = refl

  -- another name is looked up on either side of the setting
  passes : (b c : Bool) (new old : X) (rest : Option X) → (b ≡ true → c ≡ false) → cond c (Some old) (cond b (Some new) rest) ≡ cond b (Some new) (cond c (Some old) rest)
  passes true true new old rest apart = let e : true ≡ false = apart refl in cc
  passes true false new old rest apart = refl
  passes false c new old rest apart = refl

  -- a last choice joins the ones after it
  or_last : (first : Option X) (b : Bool) (x : X) (rest : Option X) → option_or first (cond b (Some x) rest) ≡ option_or (option_or first (cond b (Some x) None)) rest
  or_last None true x rest = refl
  or_last None false x rest = refl
  or_last (Some y) b x rest = refl

module _ {D : Type 0} where
  -- a setting gives its name the value, and leaves the values of the others
  pub value_of-set_at : (es : Entries D) (set name : List ℕ) (value : Content D)
      → value_of (set_at es set value) name ≡ cond (bytes_eq name set) (Some value) (value_of es name)
  value_of-set_at [] set name value = refl
  value_of-set_at (e ∷ es) set name value = by (bytes_eq set e.0) refl (value_of-set_at es set name value)
    where
      by : (b : Bool) → bytes_eq set e.0 ≡ b → value_of (set_at es set value) name ≡ cond (bytes_eq name set) (Some value) (value_of es name)
          → value_of (if b then (e.0, value) ∷ es else e ∷ set_at es set value) name
          ≡ cond (bytes_eq name set) (Some value) (cond (bytes_eq name e.0) (Some e.1) (value_of es name))
      by true equal rest = replaces (bytes_eq name set) (bytes_eq name e.0) value e.1 (value_of es name) (same_test name set e.0 equal)
      by false other rest =
          ap (cond (bytes_eq name e.0) (Some e.1)) rest
          ∙ passes (bytes_eq name set) (bytes_eq name e.0) value e.1 (value_of es name)
          (λ named. nat_list_eq_equiv.congr name set e.0 named ∙ other)

  value_of-append : (es fs : Entries D) (name : List ℕ) → value_of (es ++ fs) name ≡ option_or (value_of es name) (value_of fs name)
  value_of-append [] fs name = refl
  value_of-append (e ∷ es) fs name =
      elim (bytes_eq name e.0) as (λ b. cond b (Some e.1) (value_of (es ++ fs) name) ≡ option_or (cond b (Some e.1) (value_of es name)) (value_of fs name)) [
        | true ↦ refl
        | false ↦ value_of-append es fs name
      ]

  pub last_setting_counts : LastSettingCounts D
  last_setting_counts es [] name = refl
  last_setting_counts es (p ∷ settings) name =
      last_setting_counts (set_at es p.0 p.1) settings name
      ∙ ap (option_or (value_of (reverse settings) name)) (value_of-set_at es p.0 name p.1)
      ∙ or_last (value_of (reverse settings) name) (bytes_eq name p.0) p.1 (value_of es name)
      ∙ ap (λ first. option_or first (value_of es name)) (sym (ap (λ ps. value_of ps name) (reverse-append (p ∷ []) settings) ∙ value_of-append (reverse settings) (p ∷ []) name))
