-- The definitions, tried on worked compositions: each line is checked by computing both of its sides.
use Rattle.std.specs.Prelude.{◌≡◌, refl, Some, codes}
use Rattle.std.specs.Fmt.{digits}
use Rattle.mlt_tree.specs.declared.refusal.Cause.TheVariants as cause
use Rattle.mlt_tree.specs.Refusing.{refusal_at}
use Rattle.mlt_tree.specs.declared.query.QueryKind.TheVariants.{Producers, Profiles}
use Rattle.mlt_tree.specs.Lines.{refusal_line}
use Rattle.mlt_tree.specs.Reading.{query_text}

no_clip_line : refusal_line (refusal_at 4 cause.NoProducer) ≡ codes "melt: word 4: nothing to play\n"
unfolding digits
no_clip_line = refl

in_file_line : refusal_line (record { word = 4; inner = Some 17; cause = cause.BadValue }) ≡ codes "melt: word 4: in file word 17: bad value\n"
unfolding digits
in_file_line = refl

range_line : refusal_line (refusal_at 4 (cause.BadRange 3 2 15000)) ≡ codes "melt: word 4: bad range 3 to 2 of 15000\n"
unfolding digits
range_line = refl

-- what `-query` prints
profiles_listed : query_text Profiles ≡ codes "dv_pal\ndv_ntsc\natsc_720p_25\natsc_1080p_25\n"
profiles_listed = refl

producers_listed : query_text Producers ≡ codes "colour\ncolor\nppm\npcm\nmelt_file\n"
producers_listed = refl
