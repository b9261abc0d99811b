-- Entries and the pictures that they mean, place by place.
use Rattle.std.proofs.Common.{◌≡◌, ℕ, ◌<◌, List, length, map, get_or}
use Rattle.std.proofs.lemmas.List.{get_or-map}
use Rattle.mlt_eval.specs.declared.fitted.Entry.{Entry}
use Rattle.mlt_eval.specs.Entries.{fit_of}
use Rattle.mlt_eval.specs.Fitted.{fit_at, no_fit}

-- the picture at a place is that of the entry there
pub fit_at-map : (entries : List Entry) (i : ℕ) (d : Entry) → i < length entries → fit_at (map fit_of entries) i ≡ fit_of (get_or entries i d)
fit_at-map entries i d lt = get_or-map fit_of entries i d no_fit lt
