-- The one fault of a name.
use Rattle.mlt_props.specs.declared.bag.BadName.{BadName}

abbrev pub bad_name : BadName
bad_name = record {}
