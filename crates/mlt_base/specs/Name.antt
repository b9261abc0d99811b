-- Names of tables, which blanks fill up.
use Rattle.std.specs.Prelude.{ℕ, ◌==◌, ◌&&◌, Bool, nat_lt, List, length}
use Rattle.std.specs.List.{before_first, list_all}
use Rattle.mlt_base.specs.declared.name.Name.{Name}

abbrev pub is_blank : ℕ → Bool
is_blank c = c == 32

-- what stands before the blanks
abbrev pub name_of : Name → List ℕ
name_of name = before_first is_blank name.0

abbrev pub is_ascii : ℕ → Bool
is_ascii c = nat_lt c 128

-- a letter at least, and all of them ASCII
abbrev pub is_spelled : Name → Bool
is_spelled name = nat_lt 0 (length (name_of name)) && list_all is_ascii (name_of name)
