-- A spelled name is a text.
use Rattle.std.proofs.Common.{◌<◌, length, IsTrue, nat_lt}
use Rattle.std.specs.Str.{IsUtf8}
use Rattle.std.proofs.lemmas.Bool.{and_parts, ltb-true}
use Rattle.std.proofs.lemmas.List.Sums.{AllPass-from_list_all}
use Rattle.std.proofs.lemmas.Str.{IsUtf8-from_ascii}
use Rattle.std.proofs.lemmas.Str.Ascii.{IsAscii-from_all}
use Rattle.mlt_base.specs.Name.{name_of, is_ascii, is_spelled}
use Rattle.mlt_base.specs.declared.name.Name.{Name}

pub some : (name : Name) → IsTrue (is_spelled name) → 0 < length (name_of name)
some name h = ltb-true 0 (length (name_of name)) (and_parts (nat_lt 0 (length (name_of name))) _ h).0

pub text : (name : Name) → IsTrue (is_spelled name) → IsUtf8 (name_of name)
text name h =
    let ascii = AllPass-from_list_all is_ascii (name_of name) (and_parts (nat_lt 0 (length (name_of name))) _ h).1 in
    IsUtf8-from_ascii (name_of name) (IsAscii-from_all (name_of name) (λ k d lt. ltb-true _ 128 (ascii k d lt)))
