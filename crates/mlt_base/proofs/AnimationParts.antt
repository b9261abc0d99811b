-- Keys that are read one after another, up to a part that isn't.
use Rattle.std.proofs.Common.{◌≡◌, ℕ, zero, suc, ◌+◌, ◌<◌, Bool, true, false, eqb, List, [], ◌∷◌, ◌++◌, length, Result, Ok, Err, inl, inr, refl, sym, ap, ◌∙◌, append_assoc, append-nil, length-append, arith}
use Rattle.std.specs.Prelude.{Option, Some}
use Rattle.std.specs.List.{slice_split}
use Rattle.std.proofs.lemmas.Bool.{cases_lt, eqb-true, eqb-false, ne_eqb}
use Rattle.std.proofs.lemmas.List.{nil_from_length}
use Rattle.std.proofs.lemmas.List.Splits.{length-slice_split}
use Rattle.mlt_base.specs.declared.fault.NumFault.{NumFault}
use Rattle.mlt_base.specs.declared.animation.Key.{Key}
use Rattle.mlt_base.specs.Steps.{◌>>=◌}
use Rattle.mlt_base.specs.Animation.{Rises, key_at, keys_of, is_semicolon}
use Rattle.mlt_base.specs.Grammar.{AreBefore, AreHeld, IsEnd}
use Rattle.mlt_base.proofs.AnimationForms.{TakesKey, key_takes, key_again, key_some, Lacks-key, split_none, split_at}
use Rattle.mlt_base.proofs.Cuts.{Lacks}
use Rattle.mlt_base.proofs.Keys.{not_skipped}

-- the keys of a text
abbrev pub keys_in : Option ℕ → ℕ → List ℕ → Result (List Key) NumFault
keys_in last at text = keys_of last at (slice_split is_semicolon text)

-- ---- the first part of a text

pub data Cut (text : List ℕ) : Type 0 where
  LastPart : Lacks 59 text → Cut text
  FirstPart : (part more : List ℕ) → Lacks 59 part → text ≡ part ++ 59 ∷ more → Cut text

pub cut_of : (text : List ℕ) → Cut text
cut_of [] = LastPart tt
cut_of (b ∷ text) = go (eqb b 59) refl (cut_of text)
  where
    go : (t : Bool) → eqb b 59 ≡ t → Cut text → Cut (b ∷ text)
    go true h later = FirstPart [] text tt (ap (λ (c : ℕ). c ∷ text) (eqb-true b 59 h))
    go false h (LastPart lacks) = LastPart ((λ e. eqb-false b 59 h e), lacks)
    go false h (FirstPart part more lacks is) = FirstPart (b ∷ part) more ((λ e. eqb-false b 59 h e), lacks) (ap (λ (l : List ℕ). b ∷ l) is)

-- the parts of a text: the first has no `;`, and behind it stands the end or `;`
pub record Split (text : List ℕ) : Type 0 where
  pub part : List ℕ
  pub parts : List (List ℕ)
  pub ending : List ℕ
  pub is : slice_split is_semicolon text ≡ part ∷ parts
  pub lacks : Lacks 59 part
  pub end : IsEnd ending
  pub spelled : text ≡ part ++ ending
  pub some : 0 < length text → 0 < length part + length parts

pub split_of : (text : List ℕ) → Split text
split_of text = go (cut_of text)
  where
    go : Cut text → Split text
    go (LastPart lacks) = record { part = text; parts = []; ending = []; is = split_none text lacks; lacks = lacks; end = inl refl; spelled = sym (append-nil text); some = λ h. omega arith }
    go (FirstPart part more lacks is) = record {
      part = part;
      parts = slice_split is_semicolon more;
      ending = 59 ∷ more;
      is = ap (slice_split is_semicolon) is ∙ split_at part more lacks;
      lacks = lacks;
      end = inr (more, refl);
      spelled = is;
      some = λ h. omega (arith, length-slice_split is_semicolon more);
    }

-- bytes in front of a text belong to its first part
pub split_front : (front text part : List ℕ) (parts : List (List ℕ)) → Lacks 59 front → slice_split is_semicolon text ≡ part ∷ parts → slice_split is_semicolon (front ++ text) ≡ (front ++ part) ∷ parts
split_front [] text part parts h e = e
split_front (b ∷ front) text part parts h e = rw (ne_eqb b 59 h.0, split_front front text part parts h.1 e) refl

-- the first part isn't read, so the text isn't
pub part_fails : (last : Option ℕ) (at : ℕ) (text part : List ℕ) (parts : List (List ℕ)) (fault : NumFault) → slice_split is_semicolon text ≡ part ∷ parts → 0 < length part + length parts → key_at last at part ≡ Err fault → keys_in last at text ≡ Err fault
part_fails last at text part parts fault is some e = rw (is, not_skipped part parts some, e) refl

-- ---- keys before

-- the frame of the last of them
abbrev pub last_of : Option ℕ → List Key → Option ℕ
last_of last [] = last
last_of last (key ∷ keys) = last_of (Some key.frame) keys

-- where what stands behind the keys isn't read, the text isn't
pub front_fails : (last : Option ℕ) (at : ℕ) (front : List ℕ) (keys : List Key) (rest : List ℕ) (fault : NumFault) → AreBefore front keys → Rises last keys → AreHeld keys
    → keys_in (last_of last keys) (at + length front) rest ≡ Err fault → keys_in last at (front ++ rest) ≡ Err fault
front_fails last at front [] rest fault is rise held e =
    ap (λ (l : List ℕ). keys_in last at (l ++ rest)) is ∙ (ap (λ (n : ℕ). keys_in last n rest) (omega (arith, ap length is)) ∙ e)
front_fails last at front (key ∷ keys) rest fault (part, more, is, before, spelled) rise held e =
    let text : front ++ rest ≡ part ++ 59 ∷ (more ++ rest) = ap (λ (l : List ℕ). l ++ rest) spelled ∙ append_assoc part (59 ∷ more) rest in
    let place : at + length front ≡ at + length part + 1 + length more = omega (arith, ap length spelled, length-append part (59 ∷ more)) in
    let later : keys_in (Some key.frame) (at + length part + 1) (more ++ rest) ≡ Err fault =
    front_fails (Some key.frame) (at + length part + 1) more keys rest fault before rise.2 held.1 (ap (λ (n : ℕ). keys_in (last_of (Some key.frame) keys) n rest) (sym place) ∙ e) in
    ap (keys_in last at) text
    ∙ (ap (keys_of last at) (split_at part (more ++ rest) (Lacks-key part key is))
    ∙ rw (key_some part key is (slice_split is_semicolon (more ++ rest)), key_again last at part key is rise.0 rise.1 held.0, later) refl)

-- ---- the part at fault

pub record FaultAt (last : Option ℕ) (at : ℕ) (text : List ℕ) (fault : NumFault) : Type 0 where
  pub front : List ℕ
  pub keys : List Key
  pub part : List ℕ
  pub ending : List ℕ
  pub before : AreBefore front keys
  pub rise : Rises last keys
  pub held : AreHeld keys
  pub lacks : Lacks 59 part
  pub end : IsEnd ending
  pub some : 0 < length (part ++ ending)
  pub spelled : text ≡ front ++ (part ++ ending)
  pub is : key_at (last_of last keys) (at + length front) part ≡ Err fault

-- the first part is at fault
fault_here : (last : Option ℕ) (at : ℕ) (text part ending : List ℕ) (fault : NumFault) → Lacks 59 part → IsEnd ending → 0 < length (part ++ ending) → text ≡ part ++ ending → key_at last at part ≡ Err fault → FaultAt last at text fault
fault_here last at text part ending fault lacks end some spelled is = record {
  front = [];
  keys = [];
  part = part;
  ending = ending;
  before = refl;
  rise = tt;
  held = tt;
  lacks = lacks;
  end = end;
  some = some;
  spelled = spelled;
  is = ap (λ (n : ℕ). key_at last n part) (omega arith) ∙ is;
}

-- a part behind a key is
fault_behind : (last : Option ℕ) (at : ℕ) (text part more : List ℕ) (key : Key) (fault : NumFault) → text ≡ part ++ 59 ∷ more → TakesKey last part key → FaultAt (Some key.frame) (at + length part + 1) more fault → FaultAt last at text fault
fault_behind last at text part more key fault spelled takes f = record {
  front = part ++ 59 ∷ f.front;
  keys = key ∷ f.keys;
  part = f.part;
  ending = f.ending;
  before = (part, f.front, takes.is, f.before, refl);
  rise = (takes.behind, takes.frame, f.rise);
  held = (takes.value, f.held);
  lacks = f.lacks;
  end = f.end;
  some = f.some;
  spelled = spelled ∙ (ap (λ (l : List ℕ). part ++ 59 ∷ l) f.spelled ∙ sym (append_assoc part (59 ∷ f.front) (f.part ++ f.ending)));
  is = ap (λ (n : ℕ). key_at (last_of (Some key.frame) f.keys) n f.part) (omega (arith, length-append part (59 ∷ f.front))) ∙ f.is;
}

-- in a text shorter than n
fault_in : (n : ℕ) (last : Option ℕ) (at : ℕ) (text : List ℕ) (fault : NumFault) → length text < n → keys_in last at text ≡ Err fault → FaultAt last at text fault
fault_in zero last at text fault small e = absurd (omega arith)
fault_in (suc n) last at text fault small e = go (cut_of text) (λ last at more. fault_in n last at more fault)
  where
    alone : Lacks 59 text → 0 < length text → (r : Result Key NumFault) → key_at last at text ≡ r → (r >>= λ key. Ok (key ∷ [])) ≡ Err fault → FaultAt last at text fault
    alone lacks some (Ok key) is e = absurd cc
    alone lacks some (Err other) is e =
        let same : other ≡ fault = cc in
        fault_here last at text text [] fault lacks (inl refl) (omega (arith, ap length (append-nil text))) (sym (append-nil text)) (is ∙ ap (λ (f : NumFault). Err f) same)

    first : (part more : List ℕ) → Lacks 59 part → text ≡ part ++ 59 ∷ more → ((last : Option ℕ) (at : ℕ) (more : List ℕ) → length more < n → keys_in last at more ≡ Err fault → FaultAt last at more fault)
        → (r : Result Key NumFault) → key_at last at part ≡ r → (r >>= λ key. keys_in (Some key.frame) (at + length part + 1) more >>= λ keys. Ok (key ∷ keys)) ≡ Err fault → FaultAt last at text fault
    first part more lacks spelled later (Err other) is e =
        let same : other ≡ fault = cc in
        fault_here last at text part (59 ∷ more) fault lacks (inr (more, refl)) (omega (arith, length-append part (59 ∷ more))) spelled (is ∙ ap (λ (f : NumFault). Err f) same)
    first part more lacks spelled later (Ok key) is e = behind (keys_in (Some key.frame) (at + length part + 1) more) refl e
      where
        behind : (r : Result (List Key) NumFault) → keys_in (Some key.frame) (at + length part + 1) more ≡ r → (r >>= λ keys. Ok (key ∷ keys)) ≡ Err fault → FaultAt last at text fault
        behind (Ok keys) h e = absurd cc
        behind (Err other) h e =
            let same : other ≡ fault = cc in
            fault_behind last at text part more key fault spelled (key_takes last at part key is)
            (later (Some key.frame) (at + length part + 1) more (omega (arith, ap length spelled, length-append part (59 ∷ more))) (h ∙ ap (λ (f : NumFault). Err f) same))

    go : Cut text → ((last : Option ℕ) (at : ℕ) (more : List ℕ) → length more < n → keys_in last at more ≡ Err fault → FaultAt last at more fault) → FaultAt last at text fault
    go (LastPart lacks) later =
        elim (cases_lt 0 (length text)) [
          | inl some ↦
              let read : keys_in last at text ≡ (key_at last at text >>= λ key. Ok (key ∷ [])) = rw (split_none text lacks, not_skipped text [] (omega arith)) refl in
              alone lacks some (key_at last at text) refl (sym read ∙ e)
          | inr none ↦ absurd (let read : keys_in last at text ≡ Ok [] = ap (keys_in last at) (nil_from_length text (omega arith)) in cc)
        ]
    go (FirstPart part more lacks spelled) later =
        let some : 0 < length part + length (slice_split is_semicolon more) = omega (arith, length-slice_split is_semicolon more) in
        let read : keys_in last at text ≡ (key_at last at part >>= λ key. keys_in (Some key.frame) (at + length part + 1) more >>= λ keys. Ok (key ∷ keys)) = ap (keys_in last at) spelled ∙ rw (split_at part more lacks, not_skipped part (slice_split is_semicolon more) some) refl in
        first part more lacks spelled later (key_at last at part) refl (sym read ∙ e)

pub fault_at : (last : Option ℕ) (at : ℕ) (text : List ℕ) (fault : NumFault) → keys_in last at text ≡ Err fault → FaultAt last at text fault
fault_at last at text fault e = fault_in (length text + 1) last at text fault (omega arith) e
