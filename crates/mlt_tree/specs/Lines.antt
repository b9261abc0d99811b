-- The lines that a person is told, each whole and with its end.
use Rattle.std.specs.Prelude.{ℕ, ℤ, Bool, true, false, List, [], ◌∷◌, ◌++◌, Option, None, Some, codes, decimal}
use Rattle.std.specs.Fmt.{signed_decimal}
use Rattle.std.specs.List.{flat_map}
use Rattle.mlt_base.specs.declared.port.Port.{Port}
use Rattle.mlt_base.specs.declared.port.Port.TheVariants.{Video, Audio, Script, Text}
use Rattle.mlt_tree.specs.declared.refusal.Cause.{Cause}
use Rattle.mlt_tree.specs.declared.refusal.Cause.TheVariants.{UnknownOption, Unsupported, MissingArgument, StrayProperty, UnknownService, BadValue, BadNumber, OutOfRange, TooFew, BadClip, BadSplit, BadRange, NoMix, BadTrack, SameTrack, NoProducer, TooMany, TooLong, TooDeep, TooLarge, FileTooLarge, BadPicture}
use Rattle.mlt_tree.specs.declared.refusal.Refusal.{Refusal}

-- a part of a line: words, or a number in decimal digits
pub data LinePart : Type 0 where
  Words : List ℕ → LinePart
  Count : ℕ → LinePart
  Number : ℤ → LinePart

abbrev pub part_text : LinePart → List ℕ
part_text (Words text) = text
part_text (Count n) = decimal n
part_text (Number n) = signed_decimal n

-- the parts, one after another
abbrev pub text_of : List LinePart → List ℕ
text_of parts = flat_map part_text parts

abbrev pub words : List ℕ → List LinePart
words text = Words text ∷ []

-- why a word is refused
abbrev pub cause_parts : Cause → List LinePart
cause_parts UnknownOption = words (codes "unknown option")
cause_parts Unsupported = words (codes "option not supported")
cause_parts MissingArgument = words (codes "argument missing")
cause_parts StrayProperty = words (codes "property without an object")
cause_parts UnknownService = words (codes "unknown service")
cause_parts BadValue = words (codes "bad value")
cause_parts (BadNumber fault) = words (codes "bad number")
cause_parts (OutOfRange value low high) = Number value ∷ Words (codes " is outside ") ∷ Number low ∷ Words (codes " to ") ∷ Number high ∷ []
cause_parts (TooFew asked there) = Count asked ∷ Words (codes " wanted, ") ∷ Count there ∷ Words (codes " there") ∷ []
cause_parts (BadClip index count) = Words (codes "no clip at ") ∷ Count index ∷ Words (codes " of ") ∷ Count count ∷ []
cause_parts (BadSplit at frames) = Words (codes "cannot split ") ∷ Count frames ∷ Words (codes " frames at ") ∷ Number at ∷ []
cause_parts (BadRange first last length) = Words (codes "bad range ") ∷ Count first ∷ Words (codes " to ") ∷ Count last ∷ Words (codes " of ") ∷ Count length ∷ []
cause_parts NoMix = words (codes "no mix to apply to")
cause_parts (BadTrack track tracks) = Words (codes "no track ") ∷ Count track ∷ Words (codes " of ") ∷ Count tracks ∷ []
cause_parts (SameTrack track) = Words (codes "track ") ∷ Count track ∷ Words (codes " named twice") ∷ []
cause_parts NoProducer = words (codes "nothing to play")
cause_parts (TooMany limit) = Words (codes "more than ") ∷ Count limit ∷ []
cause_parts (TooLong frames) = Count frames ∷ Words (codes " frames are too many") ∷ []
cause_parts (TooDeep depth) = Words (codes "nested ") ∷ Count depth ∷ Words (codes " deep") ∷ []
cause_parts (TooLarge bytes) = Count bytes ∷ Words (codes " bytes are too many") ∷ []
cause_parts (FileTooLarge limit) = Words (codes "file longer than ") ∷ Count limit ∷ Words (codes " bytes") ∷ []
cause_parts (BadPicture fault) = words (codes "bad picture")

-- the place within the file that a word names, where there is one
abbrev pub inner_parts : Option ℕ → List LinePart
inner_parts None = []
inner_parts (Some place) = Words (codes "in file word ") ∷ Count place ∷ Words (codes ": ") ∷ []

abbrev pub word_parts : ℕ → List LinePart
word_parts place = Words (codes "melt: word ") ∷ Count place ∷ Words (codes ": ") ∷ []

abbrev pub refusal_line : Refusal → List ℕ
refusal_line r = text_of (word_parts r.word) ++ (text_of (inner_parts r.inner) ++ (text_of (cause_parts r.cause) ++ codes "\n"))

-- a file that the word at a place names can't be read
abbrev pub source_line : ℕ → List ℕ
source_line place = text_of (word_parts place) ++ codes "cannot read\n"

abbrev pub port_text : Port → List ℕ
port_text Video = codes "video"
port_text Audio = codes "audio"
port_text Script = codes "script"
port_text Text = codes "text"

abbrev pub sink_line : Port → List ℕ
sink_line port = codes "melt: cannot write " ++ (port_text port ++ codes "\n")

-- whether a failed port is told: the answer of a text job can't be followed by a line, nor can a script's
abbrev pub has_line : Port → Bool
has_line Video = true
has_line Audio = true
has_line Script = false
has_line Text = false

abbrev pub memory_line : List ℕ
memory_line = codes "melt: out of memory\n"
