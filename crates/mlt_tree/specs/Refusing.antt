-- Refusals, and steps that may be refused.
use Rattle.std.specs.Prelude.{ℕ, List, [], ◌∷◌, Option, None, Some, Result, Ok, Err}
use Rattle.mlt_base.specs.declared.fault.NumFault.{NumFault}
use Rattle.mlt_base.specs.Steps.{◌>>=◌}
use Rattle.mlt_base.specs.declared.faults.PlayFault.{PlayFault}
use Rattle.mlt_base.specs.declared.faults.PlayFault.TheVariants as edit
use Rattle.mlt_base.specs.declared.faults.WordCause.{WordCause}
use Rattle.mlt_base.specs.declared.faults.WordCause.TheVariants as word
use Rattle.mlt_tree.specs.declared.group.Group.{Group}
use Rattle.mlt_tree.specs.declared.refusal.Cause.{Cause}
use Rattle.mlt_tree.specs.declared.refusal.Cause.TheVariants.{UnknownOption, Unsupported, MissingArgument, StrayProperty, BadNumber, TooFew, BadClip, BadSplit, BadRange, TooMany, TooLong}
use Rattle.mlt_tree.specs.declared.refusal.Refusal.{Refusal}

-- the refusal of a word, in the run's own words
abbrev pub refusal_at : ℕ → Cause → Refusal
refusal_at place cause = record { word = place; inner = None; cause = cause }

abbrev pub refuse : {A : Type 0} → ℕ → Cause → Result A Refusal
refuse place cause = Err (refusal_at place cause)

-- refused for this cause where there is nothing
abbrev pub or_refuse : {A : Type 0} → ℕ → Cause → Option A → Result A Refusal
or_refuse place cause None = refuse place cause
or_refuse place cause (Some x) = Ok x

-- the cause of a fault of the words themselves
abbrev pub word_cause : WordCause → Cause
word_cause word.UnknownOption = UnknownOption
word_cause word.Unsupported = Unsupported
word_cause word.MissingArgument = MissingArgument
word_cause word.StrayProperty = StrayProperty
word_cause (word.TooMany limit) = TooMany limit

-- a number's fault is the word's refusal
abbrev pub at_word : {A : Type 0} → ℕ → Result A NumFault → Result A Refusal
at_word place (Ok x) = Ok x
at_word place (Err fault) = refuse place (BadNumber fault)

-- the cause of an edit's refusal
abbrev pub edit_cause : PlayFault → Cause
edit_cause (edit.BadClip index count) = BadClip index count
edit_cause (edit.BadSplit at frames) = BadSplit at frames
edit_cause (edit.BadRange first last length) = BadRange first last length
edit_cause (edit.TooFew asked there) = TooFew asked there
edit_cause (edit.TooMany limit) = TooMany limit
edit_cause (edit.TooLong frames) = TooLong frames

-- an edit's refusal is its group's
abbrev pub at_group : {A : Type 0} → ℕ → Result A PlayFault → Result A Refusal
at_group place (Ok x) = Ok x
at_group place (Err fault) = refuse place (edit_cause fault)

-- a step for each element in order, up to the first that is refused
abbrev pub over : {S X : Type 0} → (S → X → Result S Refusal) → S → List X → Result S Refusal
over step s [] = Ok s
over step s (x ∷ xs) = step s x >>= λ t. over step t xs

-- what the only one of these groups says, where there is one; a second is refused at its own place
abbrev pub only_one : {A : Type 0} → (Group → Result A Refusal) → List Group → Result (Option A) Refusal
only_one read [] = Ok None
only_one read (g ∷ []) = read g >>= λ x. Ok (Some x)
only_one read (g ∷ second ∷ more) = read g >>= λ x. refuse second.place (TooMany 1)
