-- Texts by name, in a bag and in a list of properties.
use Rattle.std.proofs.Common.{ℕ, ◌≡◌, ◌<◌, ◌+◌, take, get_or, Bool, true, false, cond, List, [], ◌∷◌, ◌++◌, length, fold, bytes_eq, Option, None, Some, option_map, IfSome, refl, sym, ap, subst, ◌∙◌, arith}
use Rattle.std.proofs.lemmas.Grind.{fold-append}
use Rattle.std.proofs.lemmas.List.{take_more}
use Rattle.std.specs.Cmp.Lexicographic.{nat_list_eq_equiv}
use Rattle.std.specs.Option.{option_or, option_and_then}
use Rattle.mlt_props.specs.Entries.{Content, Words, Entries, as_text, set_at, value_of, text_of}
use Rattle.mlt_props.proofs.SettingLemmas.{value_of-set_at}
use Rattle.mlt_tree.specs.declared.group.Prop.{Prop}
use Rattle.mlt_tree.specs.Props.{later, last_named}
use Rattle.melt_build.specs.Object.{text_in}

text_set : {D : Type 0} (b : Bool) (text : List ℕ) (found : Option (Content D)) → option_and_then as_text (cond b (Some (Words text)) found) ≡ cond b (Some text) (option_and_then as_text found)
text_set true text found = refl
text_set false text found = refl

text_later : (b : Bool) (prop : Prop) (found : Option Prop) → option_map (λ p. p.value) (cond b (Some prop) found) ≡ cond b (Some prop.value) (option_map (λ p. p.value) found)
text_later true prop found = refl
text_later false prop found = refl

-- setting a text is one property more
pub text_more : {D : Type 0} (texts : Entries D) (props : List Prop) (prop : Prop) (name : List ℕ) → text_of texts name ≡ text_in name props → text_of (set_at texts prop.name (Words prop.value)) name ≡ text_in name (props ++ prop ∷ [])
text_more texts props prop name h =
    ap (option_and_then as_text) (value_of-set_at texts prop.name name (Words prop.value)) ∙ text_set (bytes_eq name prop.name) prop.value (value_of texts name) ∙ ap (cond (bytes_eq name prop.name) (Some prop.value)) h ∙ ap (λ b. cond b (Some prop.value) (text_in name props)) (nat_list_eq_equiv.symm name prop.name) ∙ sym (text_later (bytes_eq prop.name name) prop (last_named name props)) ∙ ap (option_map (λ p. p.value)) (sym (fold-append (later name) None props (prop ∷ [])))

or_last : {X : Type 0} (last : Option X) (b : Bool) (x : X) (before : Option X) → option_or last (cond b (Some x) before) ≡ option_or (option_or last (cond b (Some x) None)) before
or_last None true x before = refl
or_last None false x before = refl
or_last (Some y) b x before = refl

last_from : (name : List ℕ) (before : Option Prop) (props : List Prop) → fold (later name) before props ≡ option_or (last_named name props) before
last_from name before [] = refl
last_from name before (p ∷ props) =
    last_from name (later name before p) props ∙ or_last (last_named name props) (bytes_eq p.name name) p before ∙ ap (λ o. option_or o before) (sym (last_from name (later name None p) props))

-- of two lists the second counts, where it has the name
pub last_of_both : (name : List ℕ) (xs ys : List Prop) → last_named name (xs ++ ys) ≡ option_or (last_named name ys) (last_named name xs)
last_of_both name xs ys = fold-append (later name) None xs ys ∙ last_from name (last_named name xs) ys

text_or : (own inherited : Option Prop) → option_map (λ p. p.value) (option_or own inherited) ≡ option_or (option_map (λ p. p.value) own) (option_map (λ p. p.value) inherited)
text_or None inherited = refl
text_or (Some p) inherited = refl

pub text_of_both : (name : List ℕ) (xs ys : List Prop) → text_in name (xs ++ ys) ≡ option_or (text_in name ys) (text_in name xs)
text_of_both name xs ys =
    ap (option_map (λ p. p.value)) (last_of_both name xs ys) ∙ text_or (last_named name ys) (last_named name xs)

-- ---- the place of the last property of a name

pub place_behind : (name : List ℕ) (front behind : List Prop) (prop : Prop) → Some prop ≡ last_named name behind → IfSome (last_named name (front ++ behind)) (λ last. prop.place ≡ last.place)
place_behind name front behind prop h =
    subst (λ o. IfSome o (λ last. prop.place ≡ last.place)) (sym (last_of_both name front behind ∙ ap (λ o. option_or o (last_named name front)) (sym h))) refl

alone_or_none : (b : Bool) (prop : Prop) → IfSome (cond b (Some prop) None) (λ last. prop.place ≡ last.place)
alone_or_none true prop = refl
alone_or_none false prop = tt

pub place_in_front : (name : List ℕ) (prop : Prop) (behind : List Prop) → None ≡ last_named name behind → IfSome (last_named name (prop ∷ behind)) (λ last. prop.place ≡ last.place)
place_in_front name prop behind h =
    subst (λ o. IfSome o (λ last. prop.place ≡ last.place)) (sym (last_of_both name (prop ∷ []) behind ∙ ap (λ o. option_or o (last_named name (prop ∷ []))) (sym h))) (alone_or_none (bytes_eq prop.name name) prop)

-- a name with a byte is not the empty name
not_empty : (name empty : List ℕ) → 0 < length name → length empty ≡ 0 → bytes_eq empty name ≡ false
not_empty [] empty h k = absurd (omega arith)
not_empty (c ∷ name) [] h k = refl
not_empty (c ∷ name) (d ∷ empty) h k = absurd (omega arith)

-- a property without a name has no text
pub text_skips : (props : List Prop) (prop : Prop) (name : List ℕ) → 0 < length name → length prop.name ≡ 0 → text_in name (props ++ prop ∷ []) ≡ text_in name props
text_skips props prop name h empty =
    ap (option_map (λ p. p.value)) (fold-append (later name) None props (prop ∷ [])) ∙ ap (λ b. option_map (λ p. p.value) (cond b (Some prop) (last_named name props))) (not_empty name prop.name h empty)

-- the properties up to the next one
pub next_of : (words : List Prop) (i : ℕ) (prop : Prop) → i < length words → prop ≡ get_or words i prop → take (i + 1) words ≡ take i words ++ prop ∷ []
next_of words i prop h here = take_more words i prop h ∙ ap (λ p. take i words ++ p ∷ []) (sym here)
