use Rattle.mlt_base.specs.Ppm.{HasHeader}
use Rattle.mlt_base.proofs.Stops.{stops_once}
use Rattle.mlt_base.proofs.PpmForms.{law_other, law_wrong, law_large, law_short}
use Rattle.mlt_base.proofs.laws.picture_faults.Goals as goal

pub returns-clause-not_p6 : goal.returns-clause-not_p6
returns-clause-not_p6 c = law_other

pub returns-clause-bad_header : goal.returns-clause-bad_header
returns-clause-bad_header c = law_wrong

pub returns-clause-one_stop : goal.returns-clause-one_stop
returns-clause-one_stop c = stops_once HasHeader

pub returns-clause-too_large : goal.returns-clause-too_large
returns-clause-too_large c = law_large

pub returns-clause-short : goal.returns-clause-short
returns-clause-short c = law_short
