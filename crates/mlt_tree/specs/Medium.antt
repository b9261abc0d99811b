-- The two media, and what belongs to which.
use Rattle.std.specs.Prelude.{Bool, true, false}
use Rattle.mlt_tree.specs.declared.merge.MergeSpec.{MergeSpec}
use Rattle.mlt_tree.specs.declared.merge.MergeSpec.TheVariants.{Luma, Composite, Matte, Mix, Sum}
use Rattle.mlt_tree.specs.declared.tree.Hide.{Hide}
use Rattle.mlt_tree.specs.declared.tree.SourceKind.{SourceKind}
use Rattle.mlt_tree.specs.declared.tree.SourceKind.TheVariants.{Colour, Still, Sound}

-- what a tree is asked for
pub data Medium : Type 0 where
  Pictures : Medium
  Sounds : Medium

-- whether a source of this kind gives the medium
abbrev pub makes : Medium → SourceKind → Bool
makes Pictures Colour = true
makes Pictures Still = true
makes Pictures Sound = false
makes Sounds Colour = false
makes Sounds Still = false
makes Sounds Sound = true

-- whether a track with this hide gives nothing of the medium
abbrev pub hides : Medium → Hide → Bool
hides Pictures hide = hide.video
hides Sounds hide = hide.audio

-- whether a merge is one of the medium
abbrev pub merges : Medium → MergeSpec → Bool
merges Pictures (Luma map softness) = true
merges Pictures (Composite geometry) = true
merges Pictures Matte = true
merges Pictures Mix = false
merges Pictures Sum = false
merges Sounds (Luma map softness) = false
merges Sounds (Composite geometry) = false
merges Sounds Matte = false
merges Sounds Mix = true
merges Sounds Sum = true
