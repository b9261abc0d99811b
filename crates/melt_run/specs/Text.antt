-- What is asked for on the text.
use Rattle.mlt_tree.specs.Reading as meaning
use Rattle.melt_run.specs.declared.text.TextJob.{TextJob}
use Rattle.melt_run.specs.declared.text.TextJob.TheVariants.{Version, Query}

-- a question as the definitions see it
abbrev pub job_view : TextJob → meaning.TextJob
job_view Version = meaning.Version
job_view (Query asked) = meaning.Query asked
