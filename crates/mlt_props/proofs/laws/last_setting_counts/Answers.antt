use Rattle.mlt_props.proofs.SettingLemmas.{last_setting_counts}
use Rattle.mlt_props.proofs.laws.last_setting_counts.Goals as goal

pub returns : goal.returns
returns g c = last_setting_counts
