-- The parts of a mix.
use Rattle.mlt_tree.specs.Edits.{Mixed}
use Rattle.mlt_playlist.specs.declared.playlist.MixParts.{MixParts}

-- the parts that a mix hands out, as its meaning names them
abbrev pub mixed_view : MixParts → Mixed
mixed_view parts = record { a = parts.a; b = parts.b; frames = parts.frames }
