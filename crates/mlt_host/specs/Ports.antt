-- The place of each port in a list of four.
use Rattle.std.specs.Prelude.{ℕ}
use Rattle.mlt_base.specs.declared.port.Port.{Port}
use Rattle.mlt_base.specs.declared.port.Port.TheVariants.{Video, Audio, Script, Text}

-- the place of the port in a list that has one item for each
abbrev pub index_of : Port → ℕ
index_of Video = 0
index_of Audio = 1
index_of Script = 2
index_of Text = 3
