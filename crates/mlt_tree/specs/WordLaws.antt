-- What is true of groups that were read from words.
use Rattle.std.specs.Prelude.{ℕ, ◌≡◌, ◌↔◌, List, length, All, Ok}
use Rattle.std.specs.List.{flat_map, enumerate_from}
use Rattle.mlt_tree.specs.declared.group.Group.{Group}
use Rattle.mlt_tree.specs.GroupWords.{words_of, words_in, IsAllowed, AreGroupsOf}
use Rattle.mlt_tree.specs.Words.{groups}

-- no word is lost, made or moved: those of the groups, in order, are the words that were read
abbrev pub KeepsWords : Type 0
KeepsWords = (words : List (List ℕ)) (gs : List Group) → groups words ≡ Ok gs → flat_map words_of gs ≡ enumerate_from 0 words

-- words that were read into groups are so many
abbrev pub CountsWords : Type 0
CountsWords = (words : List (List ℕ)) (gs : List Group) → groups words ≡ Ok gs → words_in gs ≡ length words

-- groups that were read are allowed
abbrev pub GivesAllowed : Type 0
GivesAllowed = (words : List (List ℕ)) (gs : List Group) → groups words ≡ Ok gs → All IsAllowed gs

-- words are read into exactly the groups that they can be, and no words can be two lists of groups
pub record DeterminesGroups : Type 0 where
  pub exact : (words : List (List ℕ)) (gs : List Group) → groups words ≡ Ok gs ↔ AreGroupsOf words gs
  pub one : (words : List (List ℕ)) (gs hs : List Group) → AreGroupsOf words gs → AreGroupsOf words hs → gs ≡ hs
