-- The table of options: the option of a word is also that of its kind and has that word, and the other way
-- round.
use Rattle.std.proofs.Common.{◌≡◌, ℕ, Bool, true, false, cond, not, ◌&&◌, List, [], ◌∷◌, Option, None, Some, unwrap_or, find, refl, sym, ap, ◌∙◌, arith, rules}
use Rattle.std.specs.List.{list_all}
use Rattle.std.proofs.lemmas.Slice.Eq.{bytes_eq-Decides}
use denote.Enum.Bare.{same_true, true_same}
use Rattle.mlt_base.specs.Name.{name_of}
use Rattle.mlt_tree.specs.contracts.group.GroupKind.{the_type}
use Rattle.mlt_tree.specs.declared.group.GroupKind.{GroupKind}
use Rattle.mlt_tree.specs.declared.group.GroupKind.TheVariants.{Producer}
use Rattle.mlt_tree.specs.declared.table.Row.{Row}
use Rattle.mlt_tree.specs.declared.table.TheConstants.{OPTIONS}
use Rattle.mlt_tree.specs.Table.{is_kind, is_named, option_of, option_row}
use Rattle.mlt_tree.specs.GroupWords.{is_option}

-- the kind of a row, where it has one, is another than that of the row before it
abbrev is_apart : Row → Option GroupKind → Bool
is_apart row None = true
is_apart row (Some kind) = not (is_kind kind row.kind)

abbrev are_apart : List Row → Bool
are_apart [] = true
are_apart (row ∷ rows) = list_all (λ other. is_apart row other.kind) rows && are_apart rows

options-apart : are_apart OPTIONS ≡ true
options-apart = refl

both : (x y : Bool) → (x && y) ≡ true → (x ≡ true) × (y ≡ true)
both true y h = (refl, h)
both false y h = absurd (grind arith)

pub nothing_found : {X : Type 0} → (x : X) → None ≡ Some x → ⊥
nothing_found x h = grind arith

same_found : {X : Type 0} → (y x : X) → Some y ≡ Some x → y ≡ x
same_found y x h = ap (λ o. unwrap_or o y) h

chosen : {B : Type 0} → (b : Bool) (x y : B) → b ≡ true → cond b x y ≡ x
chosen b x y h = rw h refl

not_chosen : {B : Type 0} → (b : Bool) (x y : B) → not b ≡ true → cond b x y ≡ y
not_chosen true x y h = absurd (grind arith)
not_chosen false x y h = refl

-- what is found passes, and so does all that every element passes
found : {X : Type 0} → (p : X → Bool) (xs : List X) (x : X) → find p xs ≡ Some x → p x ≡ true
found p [] x e = absurd (nothing_found x e)
found p (y ∷ ys) x e = go (p y) refl e (found p ys x) where
  go : (b : Bool) → p y ≡ b → cond b (Some y) (find p ys) ≡ Some x → (find p ys ≡ Some x → p x ≡ true) → p x ≡ true
  go true h e later = sym (ap p (same_found y x e)) ∙ h
  go false h e later = later e

all_found : {X : Type 0} → (p test : X → Bool) (xs : List X) (x : X) → find p xs ≡ Some x → list_all test xs ≡ true → test x ≡ true
all_found p test [] x e all = absurd (nothing_found x e)
all_found p test (y ∷ ys) x e all = go (p y) e (all_found p test ys x) (both (test y) (list_all test ys) all) where
  go : (b : Bool) → cond b (Some y) (find p ys) ≡ Some x → (find p ys ≡ Some x → list_all test ys ≡ true → test x ≡ true) → (test y ≡ true) × (list_all test ys ≡ true) → test x ≡ true
  go true e later h = sym (ap test (same_found y x e)) ∙ h.0
  go false e later h = later e h.1

-- of rows whose kinds are apart, one that is found is the one of its kind
of_kind : (p : Row → Bool) (kind : GroupKind) (rows : List Row) (row : Row) → row.kind ≡ Some kind → find p rows ≡ Some row → are_apart rows ≡ true → find (λ r. is_kind kind r.kind) rows ≡ Some row
of_kind p kind [] row k e apart = absurd (nothing_found row e)
of_kind p kind (r ∷ rows) row k e apart =
    go (p r) e (of_kind p kind rows row k) (both (list_all (λ other. is_apart r other.kind) rows) (are_apart rows) apart) where
      go : (b : Bool) → cond b (Some r) (find p rows) ≡ Some row → (find p rows ≡ Some row → are_apart rows ≡ true → find (λ q. is_kind kind q.kind) rows ≡ Some row) → (list_all (λ other. is_apart r other.kind) rows ≡ true) × (are_apart rows ≡ true) → cond (is_kind kind r.kind) (Some r) (find (λ q. is_kind kind q.kind) rows) ≡ Some row
      go true e later h =
          let here : r.kind ≡ Some kind = ap (λ q. q.kind) (same_found r row e) ∙ k in
          chosen (is_kind kind r.kind) (Some r) _ (ap (is_kind kind) here ∙ true_same the_type kind kind refl) ∙ e
      go false e later h =
          let other : not (is_kind kind r.kind) ≡ true = sym (ap (is_apart r) k) ∙ all_found p (λ q. is_apart r q.kind) rows row e h.0 in
          not_chosen (is_kind kind r.kind) (Some r) _ other ∙ later e h.1

pub row_of-option : (word : List ℕ) (row : Row) (kind : GroupKind) → option_of word ≡ Some row → row.kind ≡ Some kind → option_row kind ≡ Some row
unfolding option_of option_row
row_of-option word row kind e k = of_kind (is_named word) kind OPTIONS row k e options-apart

pub name_of-option : (word : List ℕ) (row : Row) → option_of word ≡ Some row → name_of row.name ≡ word
unfolding option_of
name_of-option word row e = (bytes_eq-Decides (name_of row.name) word).0 (found (is_named word) OPTIONS row e)

-- a row has another name than the one before it
abbrev is_named_apart : Row → Row → Bool
is_named_apart row other = not (is_named (name_of other.name) row)

abbrev are_named_apart : List Row → Bool
are_named_apart [] = true
are_named_apart (row ∷ rows) = list_all (is_named_apart row) rows && are_named_apart rows

options-named_apart : are_named_apart OPTIONS ≡ true
options-named_apart = refl

its_name : (row : Row) → is_named (name_of row.name) row ≡ true
its_name row = (bytes_eq-Decides (name_of row.name) (name_of row.name)).1 refl

-- of rows whose names are apart, one that is found is the one of its name
of_name : (p : Row → Bool) (rows : List Row) (row : Row) → find p rows ≡ Some row → are_named_apart rows ≡ true → find (is_named (name_of row.name)) rows ≡ Some row
of_name p [] row e apart = absurd (nothing_found row e)
of_name p (r ∷ rows) row e apart =
    go (p r) e (of_name p rows row) (both (list_all (is_named_apart r) rows) (are_named_apart rows) apart) where
      go : (b : Bool) → cond b (Some r) (find p rows) ≡ Some row → (find p rows ≡ Some row → are_named_apart rows ≡ true → find (is_named (name_of row.name)) rows ≡ Some row) → (list_all (is_named_apart r) rows ≡ true) × (are_named_apart rows ≡ true) → cond (is_named (name_of row.name) r) (Some r) (find (is_named (name_of row.name)) rows) ≡ Some row
      go true e later h =
          chosen (is_named (name_of row.name) r) (Some r) _ (ap (is_named (name_of row.name)) (same_found r row e) ∙ its_name row) ∙ e
      go false e later h =
          not_chosen (is_named (name_of row.name) r) (Some r) _ (all_found p (is_named_apart r) rows row e h.0) ∙ later e h.1

pub option_of-row : (kind : GroupKind) (row : Row) → option_row kind ≡ Some row → option_of (name_of row.name) ≡ Some row
unfolding option_of option_row
option_of-row kind row e = of_name (λ r. is_kind kind r.kind) OPTIONS row e options-named_apart

pub kind_of-row : (kind : GroupKind) (row : Row) → option_row kind ≡ Some row → row.kind ≡ Some kind
unfolding option_row
kind_of-row kind row e = same row.kind (found (λ r. is_kind kind r.kind) OPTIONS row e) where
  same : (other : Option GroupKind) → is_kind kind other ≡ true → other ≡ Some kind
  same None h = absurd (grind arith)
  same (Some other) h = ap Some (sym (same_true the_type (search rules) kind other h))

-- the word of an option begins with `-` and goes on
pub is_option-row : (kind : GroupKind) (row : Row) → option_row kind ≡ Some row → is_option (name_of row.name) ≡ true
unfolding option_row
is_option-row kind row e = all_found (λ r. is_kind kind r.kind) (λ r. is_option (name_of r.name)) OPTIONS row e refl

something_found : {X : Type 0} → {x : X} → Some x ≡ None → ⊥
something_found h = grind arith

-- a producer alone is of no option
pub kind_of-none : (kind : GroupKind) → option_row kind ≡ None → kind ≡ Producer
unfolding option_row
kind_of-none Producer h = refl
kind_of-none kind h = absurd (something_found h)

pub row_of-producer : option_row Producer ≡ None
unfolding option_row
row_of-producer = refl
