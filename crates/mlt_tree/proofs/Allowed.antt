-- Groups that were read have an argument or properties only where they may, and their words can be read as no
-- other groups.
use Rattle.std.proofs.Common.{◌≡◌, ◌≢◌, ℕ, ◌+◌, ◌<◌, ◌≤◌, Bool, true, false, cond, ltb, suc, List, [], ◌∷◌, ◌++◌, length, All, Option, None, Some, Ok, refl, sym, ap, subst, ◌∙◌, arith}
use Rattle.std.specs.Str.{byte}
use Rattle.std.proofs.lemmas.List.Elements.{All-append, All-cons}
use Rattle.std.proofs.lemmas.Bool.Decides.{nat_tests}
use Rattle.mlt_base.specs.declared.faults.WordCause.TheVariants.{TooMany}
use Rattle.mlt_base.specs.declared.limits.TheConstants.{MOST_WORDS}
use Rattle.mlt_tree.specs.declared.group.Group.{Group}
use Rattle.mlt_tree.specs.declared.group.GroupKind.{GroupKind}
use Rattle.mlt_tree.specs.declared.group.GroupKind.TheVariants.{Producer}
use Rattle.mlt_tree.specs.declared.group.Prop.{Prop}
use Rattle.mlt_tree.specs.declared.table.Row.{Row}
use Rattle.mlt_tree.specs.Table.{option_of, option_row}
use Rattle.mlt_base.specs.Steps.{◌>>=◌}
use Rattle.mlt_tree.specs.Words.{WordsRead, Last, Nothing, Waiting, Open, fault, nothing_read, open_group, then_last, begin, known, supported, option_word, divided, with_prop, property_word, plain_word, free_word, step, steps, finish, groups}
use Rattle.mlt_tree.specs.GroupWords.{takes_argument, takes_properties, IsAllowedProp, IsAllowed, has_equals, IsProducerWord, IsReadableProp, IsReadable, is_option}
use Rattle.mlt_tree.proofs.Bound.{ok, ok_one, not_ok, bind_ok}
use Rattle.mlt_tree.proofs.Options.{nothing_found, row_of-option, row_of-producer}
use Rattle.mlt_tree.proofs.Divided.{undivided-none, undivided-name}
use Rattle.mlt_tree.proofs.Kept.{divided_whole}

none : {X : Type 0} → (P : X → Type 0) → All P []
none P = λ k d h. absurd (search (arith, h))

one : {X : Type 0} → (P : X → Type 0) → (x : X) → P x → All P (x ∷ [])
one P x h = All-cons P x [] h (none P)

clash : true ≡ false → ⊥
clash h = grind arith

-- a group that was read
record IsRead (group : Group) : Type 0 where
  allowed : IsAllowed group
  readable : IsReadable group

-- what has an option is no producer
no_producer : (kind : GroupKind) (row : Row) → option_row kind ≡ Some row → kind ≢ Producer
no_producer kind row of_kind is = nothing_found row (sym row_of-producer ∙ ap option_row (sym is) ∙ of_kind)

-- an option that waits takes an argument, and a group that is open is one that was read; each knows whether
-- properties may follow
abbrev IsSound : Last → Type 0
IsSound Nothing = Unit {0}
IsSound (Waiting place kind properties) =
    (place < MOST_WORDS) × (takes_argument (option_row kind) ≡ true) × (takes_properties (option_row kind) ≡ properties) × (kind ≢ Producer)
IsSound (Open group properties) = IsRead group × (takes_properties (option_row group.kind) ≡ properties)

record Sound (s : WordsRead) : Type 0 where
  each : All IsRead s.done
  newest : IsSound s.last

-- the groups so far are such
groups_so_far : (done : List Group) (last : Last) → All IsRead done → IsSound last → All IsRead (done ++ open_group last)
groups_so_far done Nothing each newest = All-append IsRead done [] each (none IsRead)
groups_so_far done (Waiting place kind properties) each newest = All-append IsRead done [] each (none IsRead)
groups_so_far done (Open group properties) each newest = All-append IsRead done (group ∷ []) each (one IsRead group newest.0)

to : (t u : WordsRead) → ok t ≡ ok u → Sound t → Sound u
to t u h sound = subst Sound (ok_one t u h) sound

begin_sound : (place : ℕ) (kind : GroupKind) (arg : List ℕ) (properties : Bool) (s : WordsRead) → Sound s → place < MOST_WORDS → (takes_argument (option_row kind) ≡ false → arg ≡ []) → takes_properties (option_row kind) ≡ properties → (kind ≡ Producer → IsProducerWord arg) → Sound (begin place kind arg properties s)
begin_sound place kind arg properties s sound few argument may producer =
    record {
      each = groups_so_far s.done s.last sound.each sound.newest;
      newest = (
        record {
          allowed = record { place = few; argument = argument; properties = λ h. refl; each = none IsAllowedProp };
          readable = record { producer = producer; each = none IsReadableProp };
        },
        may,
      );
    }

wait_sound : (place : ℕ) (kind : GroupKind) (properties : Bool) (s : WordsRead) → Sound s → place < MOST_WORDS → takes_argument (option_row kind) ≡ true → takes_properties (option_row kind) ≡ properties → kind ≢ Producer → Sound (then_last (Waiting place kind properties) s)
wait_sound place kind properties s sound few argument may other =
    record { each = groups_so_far s.done s.last sound.each sound.newest; newest = (few, argument, may, other) }

option_sound : (place : ℕ) (word : List ℕ) (s t : WordsRead) → Sound s → place < MOST_WORDS → option_word place word s ≡ Ok t → Sound t
unfolding option_word
option_sound place word s t sound few h = by_row (option_of word) refl h where
  by_argument : (row : Row) (kind : GroupKind) → option_row kind ≡ Some row → (b : Bool) → row.argument ≡ b → ok (cond b (then_last (Waiting place kind row.properties) s) (begin place kind [] row.properties s)) ≡ Ok t → Sound t
  by_argument row kind of_kind true argument h =
      to (then_last (Waiting place kind row.properties) s) t h (wait_sound place kind row.properties s sound few (ap takes_argument of_kind ∙ argument) (ap takes_properties of_kind) (no_producer kind row of_kind))
  by_argument row kind of_kind false argument h =
      to (begin place kind [] row.properties s) t h (begin_sound place kind [] row.properties s sound few (λ e. refl) (ap takes_properties of_kind) (λ is. absurd (no_producer kind row of_kind is)))

  by_kind : (row : Row) → option_of word ≡ Some row → (kind : Option GroupKind) → row.kind ≡ kind → (supported place kind >>= λ k. ok (cond row.argument (then_last (Waiting place k row.properties) s) (begin place k [] row.properties s))) ≡ Ok t → Sound t
  by_kind row found None is h = absurd (not_ok _ t h)
  by_kind row found (Some kind) is h = by_argument row kind (row_of-option word row kind found is) row.argument refl h

  by_row : (row : Option Row) → option_of word ≡ row → (known place row >>= λ r. supported place r.kind >>= λ k. ok (cond r.argument (then_last (Waiting place k r.properties) s) (begin place k [] r.properties s))) ≡ Ok t → Sound t
  by_row None found h = absurd (not_ok _ t h)
  by_row (Some row) found h = by_kind row found row.kind refl h

property_sound : (place : ℕ) (name value : List ℕ) (done : List Group) (last : Last) (t : WordsRead) → All IsRead done → IsSound last → place < MOST_WORDS → is_option (name ++ (byte "=" ∷ value)) ≡ false → has_equals name ≡ false → property_word place name value (record { done = done; last = last }) ≡ Ok t → Sound t
unfolding property_word
property_sound place [] value done last t each newest few free undivided h = absurd (not_ok _ t h)
property_sound place (c ∷ name) value done Nothing t each newest few free undivided h = absurd (not_ok _ t h)
property_sound place (c ∷ name) value done (Waiting option kind properties) t each newest few free undivided h = absurd (not_ok _ t h)
property_sound place (c ∷ name) value done (Open group false) t each newest few free undivided h = absurd (not_ok _ t h)
property_sound place (c ∷ name) value done (Open group true) t each newest few free undivided h =
    let prop : Prop = record { place = place; name = c ∷ name; value = value } in
    let named : IsAllowedProp prop = record { place = few; named = omega arith } in
    let allowed : IsAllowed (with_prop prop group) = record {
      place = newest.0.allowed.place;
      argument = newest.0.allowed.argument;
      properties = λ e. absurd (clash (sym newest.1 ∙ e));
      each = All-append IsAllowedProp group.props (prop ∷ []) newest.0.allowed.each (one IsAllowedProp prop named);
    } in
    let readable : IsReadable (with_prop prop group) = record {
      producer = newest.0.readable.producer;
      each = All-append IsReadableProp group.props (prop ∷ []) newest.0.readable.each (one IsReadableProp prop (record { free = free; undivided = undivided }));
    } in
    to (record { done = done; last = Open (with_prop prop group) true }) t h (record { each = each; newest = (record { allowed = allowed; readable = readable }, newest.1) })

producer_sound : (place : ℕ) (word : List ℕ) (s : WordsRead) → Sound s → place < MOST_WORDS → IsProducerWord word → Sound (begin place Producer word true s)
producer_sound place word s sound few producer =
    begin_sound place Producer word true s sound few (λ e. absurd (clash (sym (ap takes_argument row_of-producer) ∙ e))) (ap takes_properties row_of-producer) (λ is. producer)

free_sound : (place : ℕ) (word : List ℕ) (done : List Group) (last : Last) (t : WordsRead) → All IsRead done → IsSound last → place < MOST_WORDS → free_word place word (record { done = done; last = last }) ≡ Ok t → Sound t
free_sound place word done last t each newest few h = by_form (is_option word) refl h where
  by_parts : (parts : Option (List ℕ × List ℕ)) → is_option word ≡ false → divided word ≡ parts → plain_word place word parts (record { done = done; last = last }) ≡ Ok t → Sound t
  by_parts None free is h =
      to (begin place Producer word true (record { done = done; last = last })) t h (producer_sound place word (record { done = done; last = last }) (record { each = each; newest = newest }) few (record { free = free; undivided = undivided-none word is }))
  by_parts (Some p) free is h =
      property_sound place p.0 p.1 done last t each newest few (ap is_option (divided_whole word p is) ∙ free) (undivided-name word p is) h

  by_form : (b : Bool) → is_option word ≡ b → cond b (option_word place word (record { done = done; last = last })) (plain_word place word (divided word) (record { done = done; last = last })) ≡ Ok t → Sound t
  by_form true is h = option_sound place word (record { done = done; last = last }) t (record { each = each; newest = newest }) few h
  by_form false is h = by_parts (divided word) is refl h

step_sound : (place : ℕ) (word : List ℕ) (done : List Group) (last : Last) (t : WordsRead) → All IsRead done → IsSound last → place < MOST_WORDS → step place word (record { done = done; last = last }) ≡ Ok t → Sound t
unfolding step
step_sound place word done Nothing t each newest few h = free_sound place word done Nothing t each newest few h
step_sound place word done (Waiting option kind properties) t each newest few h =
    to (begin option kind word properties (record { done = done; last = Waiting option kind properties })) t h (begin_sound option kind word properties (record { done = done; last = Waiting option kind properties }) (record { each = each; newest = newest }) newest.0 (λ e. absurd (clash (sym newest.1 ∙ e))) newest.2 (λ is. absurd (newest.3 is)))
step_sound place word done (Open group properties) t each newest few h = free_sound place word done (Open group properties) t each newest few h

steps_sound : (place : ℕ) (words : List (List ℕ)) (s t : WordsRead) → place + length words ≤ MOST_WORDS → Sound s → steps place words s ≡ Ok t → Sound t
steps_sound place [] s t few sound h = subst Sound (ok_one s t h) sound
steps_sound place (word ∷ words) s t few sound h =
    let b = bind_ok (step place word s) (steps (place + 1) words) t h in
    steps_sound (place + 1) words b.x t (more place (length words) few) (step_sound place word s.done s.last b.x sound.each sound.newest (here place (length words) few) b.first) b.then where
      more : (n k : ℕ) → n + suc k ≤ MOST_WORDS → n + 1 + k ≤ MOST_WORDS
      more n k h = omega (arith, h)

      here : (n k : ℕ) → n + suc k ≤ MOST_WORDS → n < MOST_WORDS
      here n k h = omega (arith, h)

finish_sound : (done : List Group) (last : Last) (gs : List Group) → All IsRead done → IsSound last → finish (record { done = done; last = last }) ≡ Ok gs → All IsRead gs
unfolding finish
finish_sound done Nothing gs each newest h = subst (All IsRead) (ok_one (done ++ []) gs h) (groups_so_far done Nothing each newest)
finish_sound done (Waiting place kind properties) gs each newest h = absurd (not_ok _ gs h)
finish_sound done (Open group properties) gs each newest h =
    subst (All IsRead) (ok_one (done ++ group ∷ []) gs h) (groups_so_far done (Open group properties) each newest)

groups_read : (words : List (List ℕ)) (gs : List Group) → groups words ≡ Ok gs → All IsRead gs
unfolding groups
groups_read words gs h = by_count (ltb MOST_WORDS (length words)) refl h where
  by_count : (b : Bool) → ltb MOST_WORDS (length words) ≡ b → cond b (fault MOST_WORDS (TooMany MOST_WORDS)) (steps 0 words nothing_read >>= finish) ≡ Ok gs → All IsRead gs
  by_count true is h = absurd (not_ok _ gs h)
  by_count false is h =
      let b = bind_ok (steps 0 words nothing_read) finish gs h in
      let few : 0 + length words ≤ MOST_WORDS = grind (arith, nat_tests, is) in
      let sound = steps_sound 0 words nothing_read b.x few (record { each = none IsRead; newest = tt }) b.first in
      finish_sound b.x.done b.x.last gs sound.each sound.newest b.then

pub groups_sound : (words : List (List ℕ)) (gs : List Group) → groups words ≡ Ok gs → All IsAllowed gs
groups_sound words gs h = λ k d within. (groups_read words gs h k d within).allowed

pub groups_readable : (words : List (List ℕ)) (gs : List Group) → groups words ≡ Ok gs → All IsReadable gs
groups_readable words gs h = λ k d within. (groups_read words gs h k d within).readable
