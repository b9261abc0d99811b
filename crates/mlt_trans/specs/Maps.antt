-- The picture of a merge's map.
use Rattle.std.specs.Prelude.{ℕ, ◌≡◌, ◌↔◌, List, length, Option, IsSome, IfSome}
use Rattle.mlt_base.specs.declared.profile.SourceNo.{SourceNo}

-- a map is there exactly where a source is named for it, and then it has so many bytes
pub record IsMap (source : Option SourceNo) (bytes : ℕ) (map : Option (List ℕ)) : Type 0 where
  pub named : IsSome map ↔ IsSome source
  pub sized : IfSome map (λ m. length m ≡ bytes)
