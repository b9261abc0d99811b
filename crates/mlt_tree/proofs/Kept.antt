-- No word is lost, made or moved where words are read into groups.
use Rattle.std.proofs.Common.{◌≡◌, ℕ, ◌+◌, ◌<◌, Bool, true, false, cond, ltb, List, [], ◌∷◌, ◌++◌, length, map, get_or, Option, None, Some, unwrap_or, Ok, refl, sym, ap, subst, ◌∙◌, append_assoc, append-nil}
use Rattle.std.specs.List.{position_or_len, before_first, after_first, flat_map, enumerate_from}
use Rattle.std.specs.Str.{byte}
use Rattle.std.proofs.lemmas.Grind.{flat_map-append}
use Rattle.std.proofs.lemmas.List.{map-append}
use Rattle.std.proofs.lemmas.List.Sums.{split_at_first, passes_at_first}
use Rattle.std.proofs.lemmas.Bool.{ltb-true, eqb-true}
use Rattle.mlt_base.specs.declared.faults.WordCause.TheVariants.{TooMany}
use Rattle.mlt_base.specs.Name.{name_of}
use Rattle.mlt_base.specs.declared.limits.TheConstants.{MOST_WORDS}
use Rattle.mlt_tree.specs.declared.group.Group.{Group}
use Rattle.mlt_tree.specs.declared.group.GroupKind.{GroupKind}
use Rattle.mlt_tree.specs.declared.group.GroupKind.TheVariants.{Producer}
use Rattle.mlt_tree.specs.declared.group.Prop.{Prop}
use Rattle.mlt_tree.specs.declared.table.Row.{Row}
use Rattle.mlt_tree.specs.Table.{option_of, option_row}
use Rattle.mlt_base.specs.Steps.{◌>>=◌}
use Rattle.mlt_tree.specs.Words.{WordsRead, Last, Nothing, Waiting, Open, fault, nothing_read, groups_of, then_last, begin, known, supported, option_word, divided, with_prop, property_word, plain_word, free_word, step, steps, finish, groups}
use Rattle.mlt_tree.specs.GroupWords.{prop_word, own_words_by, own_words, words_of, is_option, is_equals}
use Rattle.mlt_tree.proofs.Bound.{ok, ok_one, not_ok, bind_ok}
use Rattle.mlt_tree.proofs.Options.{nothing_found, row_of-option, name_of-option}

abbrev name_at : ℕ → Option Row → List (ℕ × List ℕ)
name_at place None = []
name_at place (Some row) = (place, name_of row.name) ∷ []

-- the word of an option that waits for its argument
abbrev waiting_word : Last → List (ℕ × List ℕ)
waiting_word Nothing = []
waiting_word (Waiting place kind properties) = name_at place (option_row kind)
waiting_word (Open group properties) = []

-- the words that were read
abbrev held : WordsRead → List (ℕ × List ℕ)
held s = flat_map words_of (groups_of s) ++ waiting_word s.last

abbrev TakesNext : ℕ → ℕ → Option Row → Type 0
TakesNext next place None = ⊥
TakesNext next place (Some row) = (place + 1 ≡ next) × (row.argument ≡ true)

-- an option that waits takes the next word
abbrev IsBefore : ℕ → Last → Type 0
IsBefore next Nothing = Unit {0}
IsBefore next (Waiting place kind properties) = TakesNext next place (option_row kind)
IsBefore next (Open group properties) = Unit {0}

record Kept (place : ℕ) (word : List ℕ) (s t : WordsRead) : Type 0 where
  words : held t ≡ held s ++ (place, word) ∷ []
  before : IsBefore (place + 1) t.last

-- a group behind others adds its words to theirs
added : (gs : List Group) (g : Group) → flat_map words_of (gs ++ g ∷ []) ++ [] ≡ flat_map words_of gs ++ words_of g
added gs g = append-nil (flat_map words_of (gs ++ g ∷ [])) ∙ flat_map-append words_of gs (g ∷ []) ∙ ap (λ ws. flat_map words_of gs ++ ws) (append-nil (words_of g))

-- the argument of an option that waits
own_of_option : (g : Group) (next : ℕ) (option : Option Row) → TakesNext next g.place option → own_words_by g option ≡ name_at g.place option ++ (next, g.arg) ∷ []
own_of_option g next None before = absurd before
own_of_option g next (Some row) before =
    rw before.1 (ap (λ place. (g.place, name_of row.name) ∷ (place, g.arg) ∷ []) before.0)

argument_kept : (next : ℕ) (word : List ℕ) (done : List Group) (place : ℕ) (kind : GroupKind) (properties : Bool) → TakesNext next place (option_row kind) → Kept next word (record { done = done; last = Waiting place kind properties }) (begin place kind word properties (record { done = done; last = Waiting place kind properties }))
argument_kept next word done place kind properties before =
    let g : Group = record { place = place; kind = kind; arg = word; props = [] } in
    record {
      words = added (done ++ []) g ∙ ap (λ ws. flat_map words_of (done ++ []) ++ ws) (append-nil (own_words g) ∙ own_of_option g next (option_row kind) before) ∙ sym (append_assoc (flat_map words_of (done ++ [])) (name_at place (option_row kind)) ((next, word) ∷ []));
      before = tt;
    }

-- a group that is one word
begin_kept : (next : ℕ) (word : List ℕ) (kind : GroupKind) (arg : List ℕ) (properties : Bool) (s : WordsRead) → waiting_word s.last ≡ [] → own_words (record { place = next; kind = kind; arg = arg; props = [] }) ≡ (next, word) ∷ [] → Kept next word s (begin next kind arg properties s)
begin_kept next word kind arg properties s none own =
    let g : Group = record { place = next; kind = kind; arg = arg; props = [] } in
    record {
      words = added (groups_of s) g ∙ ap (λ ws. flat_map words_of (groups_of s) ++ ws) (append-nil (own_words g) ∙ own) ∙ ap (λ ws. ws ++ (next, word) ∷ []) (sym (append-nil (flat_map words_of (groups_of s))) ∙ ap (λ ws. flat_map words_of (groups_of s) ++ ws) (sym none));
      before = tt;
    }

-- an option that waits for its argument
wait_kept : (next : ℕ) (word : List ℕ) (kind : GroupKind) (row : Row) (s : WordsRead) → waiting_word s.last ≡ [] → option_row kind ≡ Some row → name_of row.name ≡ word → row.argument ≡ true → Kept next word s (then_last (Waiting next kind row.properties) s)
wait_kept next word kind row s none of_kind named argument =
    record {
      words = ap (λ gs. flat_map words_of gs ++ name_at next (option_row kind)) (append-nil (groups_of s)) ∙ ap (λ o. flat_map words_of (groups_of s) ++ name_at next o) of_kind ∙ ap (λ w. flat_map words_of (groups_of s) ++ (next, w) ∷ []) named ∙ ap (λ ws. ws ++ (next, word) ∷ []) (sym (append-nil (flat_map words_of (groups_of s))) ∙ ap (λ ws. flat_map words_of (groups_of s) ++ ws) (sym none));
      before = subst (TakesNext (next + 1) next) (sym of_kind) (refl, argument);
    }

to : {next : ℕ} {word : List ℕ} {s : WordsRead} → (t u : WordsRead) → ok t ≡ ok u → Kept next word s t → Kept next word s u
to {next} {word} {s} t u h k = subst (Kept next word s) (ok_one t u h) k

option_kept : (next : ℕ) (word : List ℕ) (s t : WordsRead) → waiting_word s.last ≡ [] → option_word next word s ≡ Ok t → Kept next word s t
unfolding option_word
option_kept next word s t none h = by_row (option_of word) refl h where
  by_argument : (row : Row) (kind : GroupKind) → option_row kind ≡ Some row → name_of row.name ≡ word → (b : Bool) → row.argument ≡ b → ok (cond b (then_last (Waiting next kind row.properties) s) (begin next kind [] row.properties s)) ≡ Ok t → Kept next word s t
  by_argument row kind of_kind named true argument h =
      to (then_last (Waiting next kind row.properties) s) t h (wait_kept next word kind row s none of_kind named argument)
  by_argument row kind of_kind named false argument h =
      let own : own_words_by (record { place = next; kind = kind; arg = []; props = [] }) (option_row kind) ≡ (next, word) ∷ [] = rw (of_kind, argument, named) refl in
      to (begin next kind [] row.properties s) t h (begin_kept next word kind [] row.properties s none own)

  by_kind : (row : Row) → option_of word ≡ Some row → (kind : Option GroupKind) → row.kind ≡ kind → (supported next kind >>= λ k. ok (cond row.argument (then_last (Waiting next k row.properties) s) (begin next k [] row.properties s))) ≡ Ok t → Kept next word s t
  by_kind row found None is h = absurd (not_ok _ t h)
  by_kind row found (Some kind) is h =
      by_argument row kind (row_of-option word row kind found is) (name_of-option word row found) row.argument refl h

  by_row : (row : Option Row) → option_of word ≡ row → (known next row >>= λ r. supported next r.kind >>= λ k. ok (cond r.argument (then_last (Waiting next k r.properties) s) (begin next k [] r.properties s))) ≡ Ok t → Kept next word s t
  by_row None found h = absurd (not_ok _ t h)
  by_row (Some row) found h = by_kind row found row.kind refl h

regroup : {A : Type 0} → (a b c d : List A) → a ++ (b ++ (c ++ d)) ≡ (a ++ (b ++ c)) ++ d
regroup a b c d = ap (λ ws. a ++ ws) (sym (append_assoc b c d)) ∙ sym (append_assoc a (b ++ c) d)

property_kept : (next : ℕ) (name value : List ℕ) (done : List Group) (last : Last) (t : WordsRead) → property_word next name value (record { done = done; last = last }) ≡ Ok t → Kept next (name ++ (byte "=" ∷ value)) (record { done = done; last = last }) t
unfolding property_word
property_kept next [] value done last t h = absurd (not_ok _ t h)
property_kept next (c ∷ name) value done Nothing t h = absurd (not_ok _ t h)
property_kept next (c ∷ name) value done (Waiting place kind properties) t h = absurd (not_ok _ t h)
property_kept next (c ∷ name) value done (Open group false) t h = absurd (not_ok _ t h)
property_kept next (c ∷ name) value done (Open group true) t h =
    let prop : Prop = record { place = next; name = c ∷ name; value = value } in
    let word : List (ℕ × List ℕ) = prop_word prop ∷ [] in
    let own : List (ℕ × List ℕ) = own_words group in
    let props : List (ℕ × List ℕ) = map prop_word group.props in
    to (record { done = done; last = Open (with_prop prop group) true }) t h (record {
      words = added done (with_prop prop group) ∙ ap (λ ws. flat_map words_of done ++ (own ++ ws)) (map-append prop_word group.props (prop ∷ [])) ∙ regroup (flat_map words_of done) own props word ∙ ap (λ ws. ws ++ word) (sym (added done group));
      before = tt;
    })

-- what is divided is what stands before the mark, the mark, and what stands behind it
pub divided_whole : (word : List ℕ) (p : List ℕ × List ℕ) → divided word ≡ Some p → p.0 ++ (byte "=" ∷ p.1) ≡ word
divided_whole word p h = by_mark (ltb (position_or_len is_equals word) (length word)) refl h where
  by_mark : (b : Bool) → ltb (position_or_len is_equals word) (length word) ≡ b → cond b (Some (before_first is_equals word, after_first is_equals word)) None ≡ Some p → p.0 ++ (byte "=" ∷ p.1) ≡ word
  by_mark true is h =
      let parts : (before_first is_equals word, after_first is_equals word) ≡ p = ap (λ o. unwrap_or o p) h in
      let within : position_or_len is_equals word < length word = ltb-true _ _ is in
      let mark : get_or word (position_or_len is_equals word) 0 ≡ byte "=" = eqb-true _ _ (passes_at_first is_equals word 0 within) in
      sym (ap (λ q. q.0 ++ (byte "=" ∷ q.1)) parts) ∙ ap (λ c. before_first is_equals word ++ (c ∷ after_first is_equals word)) (sym mark) ∙ sym (split_at_first is_equals word 0 within)
  by_mark false is h = absurd (nothing_found p h)

producer_words : (next : ℕ) (word : List ℕ) → own_words (record { place = next; kind = Producer; arg = word; props = [] }) ≡ (next, word) ∷ []
unfolding option_row
producer_words next word = refl

free_kept : (next : ℕ) (word : List ℕ) (done : List Group) (last : Last) (t : WordsRead) → waiting_word last ≡ [] → free_word next word (record { done = done; last = last }) ≡ Ok t → Kept next word (record { done = done; last = last }) t
free_kept next word done last t none h = by_form (is_option word) h where
  by_parts : (parts : Option (List ℕ × List ℕ)) → divided word ≡ parts → plain_word next word parts (record { done = done; last = last }) ≡ Ok t → Kept next word (record { done = done; last = last }) t
  by_parts None is h =
      to (begin next Producer word true (record { done = done; last = last })) t h (begin_kept next word Producer word true (record { done = done; last = last }) none (producer_words next word))
  by_parts (Some p) is h =
      subst (λ w. Kept next w (record { done = done; last = last }) t) (divided_whole word p is) (property_kept next p.0 p.1 done last t h)

  by_form : (b : Bool) → cond b (option_word next word (record { done = done; last = last })) (plain_word next word (divided word) (record { done = done; last = last })) ≡ Ok t → Kept next word (record { done = done; last = last }) t
  by_form true h = option_kept next word (record { done = done; last = last }) t none h
  by_form false h = by_parts (divided word) refl h

step_kept : (next : ℕ) (word : List ℕ) (done : List Group) (last : Last) (t : WordsRead) → IsBefore next last → step next word (record { done = done; last = last }) ≡ Ok t → Kept next word (record { done = done; last = last }) t
unfolding step
step_kept next word done Nothing t before h = free_kept next word done Nothing t refl h
step_kept next word done (Waiting place kind properties) t before h =
    to (begin place kind word properties (record { done = done; last = Waiting place kind properties })) t h (argument_kept next word done place kind properties before)
step_kept next word done (Open group properties) t before h = free_kept next word done (Open group properties) t refl h

steps_kept : (next : ℕ) (words : List (List ℕ)) (s t : WordsRead) → IsBefore next s.last → steps next words s ≡ Ok t → held t ≡ held s ++ enumerate_from next words
steps_kept next [] s t before h = sym (ap held (ok_one s t h)) ∙ sym (append-nil (held s))
steps_kept next (word ∷ words) s t before h =
    let b = bind_ok (step next word s) (steps (next + 1) words) t h in
    let kept = step_kept next word s.done s.last b.x before b.first in
    steps_kept (next + 1) words b.x t kept.before b.then ∙ ap (λ ws. ws ++ enumerate_from (next + 1) words) kept.words ∙ append_assoc (held s) ((next, word) ∷ []) (enumerate_from (next + 1) words)

finish_kept : (done : List Group) (last : Last) (gs : List Group) → finish (record { done = done; last = last }) ≡ Ok gs → flat_map words_of gs ≡ held (record { done = done; last = last })
unfolding finish
finish_kept done Nothing gs h =
    sym (ap (flat_map words_of) (ok_one (done ++ []) gs h)) ∙ sym (append-nil (flat_map words_of (done ++ [])))
finish_kept done (Waiting place kind properties) gs h = absurd (not_ok _ gs h)
finish_kept done (Open group properties) gs h =
    sym (ap (flat_map words_of) (ok_one (done ++ group ∷ []) gs h)) ∙ sym (append-nil (flat_map words_of (done ++ group ∷ [])))

pub words_kept : (words : List (List ℕ)) (gs : List Group) → groups words ≡ Ok gs → flat_map words_of gs ≡ enumerate_from 0 words
unfolding groups
words_kept words gs h = by_count (ltb MOST_WORDS (length words)) h where
  by_count : (b : Bool) → cond b (fault MOST_WORDS (TooMany MOST_WORDS)) (steps 0 words nothing_read >>= finish) ≡ Ok gs → flat_map words_of gs ≡ enumerate_from 0 words
  by_count true h = absurd (not_ok _ gs h)
  by_count false h =
      let b = bind_ok (steps 0 words nothing_read) finish gs h in
      finish_kept b.x.done b.x.last gs b.then ∙ steps_kept 0 words nothing_read b.x tt b.first
