-- A profile of the code, as the definitions see it.
use Rattle.mlt_base.specs.declared.profile.Profile.{Profile}
use Rattle.mlt_base.specs.Profile.{Measures}

abbrev pub measures_of : Profile → Measures
measures_of p = record { width = p.width; height = p.height; num = p.rate.num; den = p.rate.den }
