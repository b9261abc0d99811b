-- A file that a property owns.
use Rattle.melt_build.specs.declared.object.Loaded.{Loaded}

abbrev pub loaded : Loaded
loaded = record {}
