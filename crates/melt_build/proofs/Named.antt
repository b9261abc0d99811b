-- The profile that groups name, by the first two groups that name one.
use Rattle.std.proofs.Common.{◌≡◌, List, [], ◌∷◌, slice_get, Option, None, Some, Result, Ok, Err, refl, sym, ap, ◌∙◌}
use Rattle.mlt_base.specs.Steps.{◌>>=◌}
use Rattle.mlt_tree.specs.declared.group.Group.{Group}
use Rattle.mlt_tree.specs.declared.refusal.Cause.TheVariants as cause
use Rattle.mlt_tree.specs.declared.refusal.Refusal.{Refusal}
use Rattle.mlt_tree.specs.declared.group.GroupKind.TheVariants as kind
use Rattle.mlt_tree.specs.Composition.{profile_read, profile_named}
use Rattle.mlt_tree.specs.Refusing.{refuse, only_one}
use Rattle.mlt_tree.specs.Table.{of_kind}

module _ {A : Type 0} (read : Group → Result A Refusal) where
  -- what the only one says, by the first two
  abbrev by_two : Option Group → Option Group → Result (Option A) Refusal
  by_two None second = Ok None
  by_two (Some g) None = read g >>= λ x. Ok (Some x)
  by_two (Some g) (Some h) = read g >>= λ x. refuse h.place (cause.TooMany 1)

  only_is : (gs : List Group) → only_one read gs ≡ by_two (slice_get gs 0) (slice_get gs 1)
  only_is [] = refl
  only_is (g ∷ []) = refl
  only_is (g ∷ h ∷ more) = refl

  at_two : (gs : List Group) (first second : Option Group) → first ≡ slice_get gs 0 → second ≡ slice_get gs 1 → by_two first second ≡ only_one read gs
  at_two gs first second one two = ap (λ o. by_two o second) one ∙ ap (by_two (slice_get gs 0)) two ∙ sym (only_is gs)

  pub none_named : (gs : List Group) → None ≡ slice_get gs 0 → only_one read gs ≡ Ok None
  none_named gs one = sym (at_two gs None (slice_get gs 1) one refl)

  pub one_named : (gs : List Group) (g : Group) (x : A) → Some g ≡ slice_get gs 0 → None ≡ slice_get gs 1 → read g ≡ Ok x → only_one read gs ≡ Ok (Some x)
  one_named gs g x one two is = sym (at_two gs (Some g) None one two) ∙ ap (λ r. r >>= λ x. Ok (Some x)) is

  pub two_named : (gs : List Group) (g h : Group) (x : A) → Some g ≡ slice_get gs 0 → Some h ≡ slice_get gs 1 → read g ≡ Ok x → only_one read gs ≡ refuse h.place (cause.TooMany 1)
  two_named gs g h x one two is = sym (at_two gs (Some g) (Some h) one two) ∙ ap (λ r. r >>= λ x. refuse h.place (cause.TooMany 1)) is

  pub named_fails : (gs : List Group) (g : Group) (second : Option Group) (refusal : Refusal) → Some g ≡ slice_get gs 0 → second ≡ slice_get gs 1 → read g ≡ Err refusal → only_one read gs ≡ Err refusal
  named_fails gs g second refusal one two is = sym (at_two gs (Some g) second one two) ∙ by second where
    by : (second : Option Group) → by_two (Some g) second ≡ Err refusal
    by None = ap (λ r. r >>= λ x. Ok (Some x)) is
    by (Some h) = ap (λ r. r >>= λ x. refuse h.place (cause.TooMany 1)) is

pub profile_is : (gs : List Group) → profile_named gs ≡ only_one profile_read (of_kind kind.Profile gs)
unfolding profile_named
profile_is gs = refl
