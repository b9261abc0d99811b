-- The numbers of a header in the code, as the definitions see them: a number is held to the most that 64 bits hold.
use Rattle.std.specs.Prelude.{ℕ, ◌-◌, ◌^◌, Bool, min, Result, Ok, Err}
use Rattle.mlt_base.specs.declared.fault.PpmFault.{PpmFault}
use Rattle.mlt_base.specs.Ppm.{Numbers, is_side, is_depth}
use Rattle.mlt_ppm.specs.declared.header.Field.{Field}
use Rattle.mlt_ppm.specs.declared.header.Field.TheVariants.{Side, Depth}
use Rattle.mlt_ppm.specs.declared.header.Numbers.{Numbers as Read}

-- the most that 64 bits hold, for each number that is at least that
abbrev pub held : ℕ → ℕ
held n = min n (2 ^ 64 - 1)

-- which numbers a field of a header may have
abbrev pub allowed : Field → ℕ → Bool
allowed Side = is_side
allowed Depth = is_depth

-- a number and the place behind it
abbrev pub held_field : Result (ℕ × ℕ) PpmFault → Result (ℕ × ℕ) PpmFault
held_field (Ok field) = Ok (held field.0, field.1)
held_field (Err fault) = Err fault

abbrev pub numbers_of : Read → Numbers
numbers_of n = record { width = n.width; height = n.height; maxval = n.maxval; end = n.end }

abbrev pub held_numbers : Numbers → Numbers
held_numbers n = record { width = held n.width; height = held n.height; maxval = n.maxval; end = n.end }

abbrev pub held_header : Result Numbers PpmFault → Result Numbers PpmFault
held_header (Ok numbers) = Ok (held_numbers numbers)
held_header (Err fault) = Err fault
