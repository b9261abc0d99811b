-- Steps of reading, one behind the other, on a host.
use Rattle.std.proofs.Common.{ℕ, ◌≡◌, ◌+◌, zero, suc, inl, inr, List, [], ◌∷◌, ◌++◌, take, length, Option, None, Some, IfSome, IsSomeAnd, Result, Ok, Err, refl, ap, sym, ◌∙◌, subst, arith}
use Rattle.std.proofs.lemmas.List.{append-nil}
use Rattle.mlt_base.specs.Try as tried
use Rattle.mlt_base.specs.Try.{TryGives}
use Rattle.mlt_base.specs.declared.refusal.Try.{Try}
use Rattle.mlt_base.specs.declared.refusal.Try.TheVariants as try
use Rattle.mlt_host.specs.Host.{HostState}
use Rattle.mlt_tree.specs.declared.refusal.Refusal.{Refusal}
use Rattle.mlt_tree.specs.Loading as read
use Rattle.mlt_tree.specs.Loading.{Files, Load, Read, plainly, ◌>>=◌}
use Rattle.melt_build.specs.declared.fault.BuildFault.{BuildFault}
use Rattle.melt_build.specs.declared.fault.BuildFault.TheVariants.{Refused, SourceFault, Memory}
use Rattle.melt_build.specs.Failing.{fault_of, lifted}
use Rattle.melt_build.specs.Reads.{ReadGives}
use Rattle.melt_build.specs.Loads.{names_of, Asks, AsksUpTo, AsksSome, TellsFiles, StepFails, Goes}

-- ---- names

pub names_both : (xs ys : List Load) → names_of (xs ++ ys) ≡ names_of xs ++ names_of ys
names_both [] ys = refl
names_both (x ∷ xs) ys = ap (λ names. x.name ∷ names) (names_both xs ys)

pub append_both : {A : Type 0} (xs ys zs : List A) → (xs ++ ys) ++ zs ≡ xs ++ (ys ++ zs)
append_both [] ys zs = refl
append_both (x ∷ xs) ys zs = ap (λ rest. x ∷ rest) (append_both xs ys zs)

pub asks_none : (old new : HostState) → new.asked ≡ old.asked → Asks [] old new
asks_none old new same = subst (λ asked. IfSome asked (λ after. IsSomeAnd old.asked (λ before. after ≡ before ++ []))) (sym same) (go old.asked) where
  go : (asked : Option (List (List ℕ))) → IfSome asked (λ after. IsSomeAnd asked (λ before. after ≡ before ++ []))
  go None = tt
  go (Some names) = sym (append-nil names)

-- names asked for before and names asked for then
pub asks_both : (first second : List (List ℕ)) (a b c : HostState) → Asks first a b → Asks second b c → Asks (first ++ second) a c
asks_both first second a b c p q = go a.asked b.asked c.asked p q where
  go : (x y z : Option (List (List ℕ))) → IfSome y (λ after. IsSomeAnd x (λ before. after ≡ before ++ first)) → IfSome z (λ after. IsSomeAnd y (λ before. after ≡ before ++ second)) → IfSome z (λ after. IsSomeAnd x (λ before. after ≡ before ++ (first ++ second)))
  go x y None p q = tt
  go x None (Some z) p q = absurd q
  go None (Some y) (Some z) p q = p
  go (Some x) (Some y) (Some z) p q = q ∙ ap (λ names. names ++ second) p ∙ append_both x first second

take_behind : (xs ys : List (List ℕ)) (count : ℕ) → take (length xs + count) (xs ++ ys) ≡ xs ++ take count ys
take_behind [] ys count = ap (λ n. take n ys) (omega arith)
take_behind (x ∷ xs) ys count = let e : length (x ∷ xs) + count ≡ suc (length xs + count) = omega arith in rw e (ap (λ rest. x ∷ rest) (take_behind xs ys count))

take_front : (xs ys : List (List ℕ)) (count : ℕ) → take count xs ≡ take (length (take count xs)) (xs ++ ys)
take_front xs ys zero = refl
take_front [] ys (suc count) = refl
take_front (x ∷ xs) ys (suc count) = ap (λ rest. x ∷ rest) (take_front xs ys count)

-- ---- two steps

-- what the first step looks up is told where all is
pub tells_first : {X Y : Type 0} (files : Files) (first : Read X) (second : X → Read Y) (host : HostState) → TellsFiles files (first >>= second) host → TellsFiles files first host
tells_first {X} {Y} files first second host (inl told) = inl told
tells_first {X} {Y} files first second host (inr none) = inr (by first.end none) where
  both : Result X read.Stop → Read Y
  both (Ok x) = read.after first.loads (second x)
  both (Err stop) = record { loads = first.loads; end = Err stop }

  front_none : {A : Type 0} (xs ys : List A) → xs ++ ys ≡ [] → xs ≡ []
  front_none [] ys h = refl
  front_none (x ∷ xs) ys h = absurd (omega (arith, ap length h))

  by : (end : Result X read.Stop) → (both end).loads ≡ [] → first.loads ≡ []
  by (Ok x) h = front_none first.loads (second x).loads h
  by (Err stop) h = h

-- and what the second one looks up
pub tells_second : {X Y : Type 0} (files : Files) (first : Read X) (second : X → Read Y) (x : X) (host next : HostState) → TellsFiles files (first >>= second) host → first.end ≡ Ok x → next.files ≡ host.files → TellsFiles files (second x) next
tells_second {X} {Y} files first second x host next (inl told) ok same = inl (same ∙ told)
tells_second {X} {Y} files first second x host next (inr none) ok same = inr (back_none first.loads (second x).loads (sym (ap (λ end. (both end).loads) ok) ∙ none)) where
  both : Result X read.Stop → Read Y
  both (Ok x) = read.after first.loads (second x)
  both (Err stop) = record { loads = first.loads; end = Err stop }

  back_none : {A : Type 0} (xs ys : List A) → xs ++ ys ≡ [] → ys ≡ []
  back_none [] ys h = h
  back_none (x ∷ xs) ys h = absurd (omega (arith, ap length h))

-- a step behind another
pub both_is : {X Y : Type 0} (first : Read X) (second : X → Read Y) (x : X) → first.end ≡ Ok x → (first >>= second) ≡ read.after first.loads (second x)
both_is {X} {Y} first second x ok = ap both ok where
  both : Result X read.Stop → Read Y
  both (Ok x) = read.after first.loads (second x)
  both (Err stop) = record { loads = first.loads; end = Err stop }

-- a step behind another that has stopped
stopped_is : {X Y : Type 0} (first : Read X) (second : X → Read Y) (stop : read.Stop) → first.end ≡ Err stop → (first >>= second) ≡ record { loads = first.loads; end = Err stop }
stopped_is {X} {Y} first second stop ok = ap both ok where
  both : Result X read.Stop → Read Y
  both (Ok x) = read.after first.loads (second x)
  both (Err stop) = record { loads = first.loads; end = Err stop }

stops_behind : (place : ℕ) (first second : List Load) (a b c : HostState) → Asks (names_of first) a b → AsksUpTo place second b c → AsksUpTo place (first ++ second) a c
stops_behind place first second a b c asked stops = record {
  before = first ++ stops.before;
  name = stops.name;
  rest = stops.rest;
  order = ap (λ loads. first ++ loads) stops.order ∙ sym (append_both first stops.before (record { place = place; name = stops.name } ∷ stops.rest));
  asked = subst (λ names. Asks names a c) (sym (ap (λ names. names ++ stops.name ∷ []) (names_both first stops.before) ∙ append_both (names_of first) (names_of stops.before) (stops.name ∷ []))) (asks_both (names_of first) (names_of stops.before ++ stops.name ∷ []) a b c asked stops.asked);
}

some_behind : (first second : List Load) (a b c : HostState) → Asks (names_of first) a b → AsksSome second b c → AsksSome (first ++ second) a c
some_behind first second a b c asked some =
    (length (names_of first) + some.0, subst (λ names. Asks names a c) (sym (ap (take (length (names_of first) + some.0)) (names_both first second) ∙ take_behind (names_of first) (names_of second) some.0)) (asks_both (names_of first) (take some.0 (names_of second)) a b c asked some.1))

fails_behind : {Y : Type 0} (fault : BuildFault) (first : List Load) (second : Read Y) (a b c : HostState) → Asks (names_of first) a b → StepFails fault second b c → StepFails fault (read.after first second) a c
fails_behind (Refused refusal) first second a b c asked fails =
    (fails.0, subst (λ names. Asks names a c) (sym (names_both first second.loads)) (asks_both (names_of first) (names_of second.loads) a b c asked fails.1))
fails_behind (SourceFault place) first second a b c asked fails = stops_behind place first second.loads a b c asked fails
fails_behind Memory first second a b c asked fails = some_behind first second.loads a b c asked fails

pub goes_behind : {Z Y : Type 0} (view : Z → Y) (result : Result Z BuildFault) (first : List Load) (second : Read Y) (a b c : HostState) → Asks (names_of first) a b → Goes view result second b c → Goes view result (read.after first second) a c
goes_behind view (Ok z) first second a b c asked goes =
    (goes.0, subst (λ names. Asks names a c) (sym (names_both first second.loads)) (asks_both (names_of first) (names_of second.loads) a b c asked goes.1))
goes_behind view (Err fault) first second a b c asked goes = fails_behind fault first second a b c asked goes

-- the first step was done, and then the second
pub goes_then : {X Y Z : Type 0} (view : Z → Y) (result : Result Z BuildFault) (first : Read X) (second : X → Read Y) (x : X) (a b c : HostState) → (first.end ≡ Ok x) × Asks (names_of first.loads) a b → Goes view result (second x) b c → Goes view result (first >>= second) a c
goes_then view result first second x a b c did goes =
    subst (λ step. Goes view result step a c) (sym (both_is first second x did.0)) (goes_behind view result first.loads (second x) a b c did.1 goes)

stops_more : (place : ℕ) (first second : List Load) (a b : HostState) → AsksUpTo place first a b → AsksUpTo place (first ++ second) a b
stops_more place first second a b stops = record {
  before = stops.before;
  name = stops.name;
  rest = stops.rest ++ second;
  order = ap (λ loads. loads ++ second) stops.order ∙ append_both stops.before (record { place = place; name = stops.name } ∷ stops.rest) second;
  asked = stops.asked;
}

some_more : (first second : List Load) (a b : HostState) → AsksSome first a b → AsksSome (first ++ second) a b
some_more first second a b some =
    (length (take some.0 (names_of first)), subst (λ names. Asks names a b) (take_front (names_of first) (names_of second) some.0 ∙ sym (ap (take (length (take some.0 (names_of first)))) (names_both first second))) some.1)

-- the first step failed
pub fails_first : {X Y : Type 0} (fault : BuildFault) (first : Read X) (second : X → Read Y) (a b : HostState) → StepFails fault first a b → StepFails fault (first >>= second) a b
fails_first (Refused refusal) first second a b fails =
    subst (λ step. StepFails (Refused refusal) step a b) (sym (stopped_is first second (read.Refused refusal) fails.0)) (refl, fails.1)
fails_first {X} {Y} (SourceFault place) first second a b fails = by first.end where
  both : Result X read.Stop → Read Y
  both (Ok x) = read.after first.loads (second x)
  both (Err stop) = record { loads = first.loads; end = Err stop }

  by : (end : Result X read.Stop) → StepFails (SourceFault place) (both end) a b
  by (Ok x) = stops_more place first.loads (second x).loads a b fails
  by (Err stop) = fails
fails_first {X} {Y} Memory first second a b fails = by first.end where
  both : Result X read.Stop → Read Y
  both (Ok x) = read.after first.loads (second x)
  both (Err stop) = record { loads = first.loads; end = Err stop }

  by : (end : Result X read.Stop) → StepFails Memory (both end) a b
  by (Ok x) = some_more first.loads (second x).loads a b fails
  by (Err stop) = fails

-- ---- steps that look up no file

pub plain_fails : {Y : Type 0} (refused : Try Refusal) (wanted : Result Y Refusal) (a b : HostState) → b.asked ≡ a.asked → tried.TryFails refused wanted → StepFails (fault_of refused) (plainly wanted) a b
plain_fails (try.Fault refusal) wanted a b same gives = subst (λ wanted. StepFails (Refused refusal) (plainly wanted) a b) (sym gives) (refl, asks_none a b same)
plain_fails {Y} try.Memory wanted a b same gives = by wanted where
  by : (wanted : Result Y Refusal) → StepFails Memory (plainly wanted) a b
  by (Ok y) = (0, asks_none a b same)
  by (Err refusal) = (0, asks_none a b same)

pub plain_goes : {X Y : Type 0} (view : X → Y) (result : Result X (Try Refusal)) (wanted : Result Y Refusal) (a b : HostState) → b.asked ≡ a.asked → TryGives view result wanted → Goes view (lifted result) (plainly wanted) a b
plain_goes view (Ok x) wanted a b same gives = subst (λ wanted. Goes view (Ok x) (plainly wanted) a b) (sym gives) (refl, asks_none a b same)
plain_goes view (Err refused) wanted a b same gives = plain_fails refused wanted a b same gives

-- the same of a step that might have looked up files
pub read_goes : {X Y : Type 0} (view : X → Y) (result : Result X (Try Refusal)) (wanted : Read Y) (a b : HostState) → b.asked ≡ a.asked → ReadGives view result wanted → Goes view (lifted result) wanted a b
read_goes view (Ok x) wanted a b same gives = subst (λ wanted. Goes view (Ok x) wanted a b) (sym gives) (refl, asks_none a b same)
read_goes view (Err (try.Fault refusal)) wanted a b same gives = subst (λ wanted. StepFails (Refused refusal) wanted a b) (sym gives) (refl, asks_none a b same)
read_goes view (Err try.Memory) wanted a b same gives = (0, asks_none a b same)

-- want of memory before the first file
pub memory_first : {Y : Type 0} (step : Read Y) (a b : HostState) → b.asked ≡ a.asked → StepFails Memory step a b
memory_first step a b same = (0, asks_none a b same)

-- ---- steps on the way

-- of a whole some files were asked for, and this rest is to come
pub record GoesOn {Y : Type 0} (whole rest : Read Y) (a b : HostState) : Type 0 where
  pub first : List Load
  pub is : whole ≡ read.after first rest
  pub asked : Asks (names_of first) a b

pub on_start : {Y : Type 0} (whole : Read Y) (a b : HostState) → b.asked ≡ a.asked → GoesOn whole whole a b
on_start whole a b same = record { first = []; is = refl; asked = asks_none a b same }

pub on_tells : {Y : Type 0} (files : Files) (whole rest : Read Y) (a b : HostState) → GoesOn whole rest a b → b.files ≡ a.files → TellsFiles files whole a → TellsFiles files rest b
on_tells files whole rest a b on same (inl told) = inl (same ∙ told)
on_tells files whole rest a b on same (inr none) = inr (back_none on.first rest.loads (sym (ap (λ (r : Read _). r.loads) on.is) ∙ none)) where
  back_none : {A : Type 0} (xs ys : List A) → xs ++ ys ≡ [] → ys ≡ []
  back_none [] ys h = h
  back_none (x ∷ xs) ys h = absurd (omega (arith, ap length h))

pub on_goes : {X Y : Type 0} (view : X → Y) (result : Result X BuildFault) (whole rest : Read Y) (a b c : HostState) → GoesOn whole rest a b → Goes view result rest b c → Goes view result whole a c
on_goes view result whole rest a b c on goes =
    subst (λ step. Goes view result step a c) (sym on.is) (goes_behind view result on.first rest a b c on.asked goes)

-- a step more
pub on_step : {X Y : Type 0} (whole : Read Y) (first : Read X) (second : X → Read Y) (x : X) (a b c : HostState) → GoesOn whole (first >>= second) a b → (first.end ≡ Ok x) × Asks (names_of first.loads) b c → GoesOn whole (second x) a c
on_step whole first second x a b c on did = record {
  first = on.first ++ first.loads;
  is = on.is ∙ ap (read.after on.first) (both_is first second x did.0) ∙ ap (λ loads. record { loads = loads; end = (second x).end }) (sym (append_both on.first first.loads (second x).loads));
  asked = subst (λ names. Asks names a c) (sym (names_both on.first first.loads)) (asks_both (names_of on.first) (names_of first.loads) a b c on.asked did.1);
}
