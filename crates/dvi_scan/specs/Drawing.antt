-- One instruction of a body in an open page, where the width of its character is known (DVItype, 15).
use Rattle.std.specs.Prelude.{◌&&◌, if◌then◌else◌, ℤ, Option, Some, None}
use Rattle.dvi_ops.specs.Body.{Position, Widths, in_range}

-- A place, where h and v are in signed 32 bits.
abbrev pub reached_position : Position → Option Position
reached_position p = if in_range p.h && in_range p.v then Some p else None

-- The same width for every character.
abbrev pub constant_width : Option ℤ → Widths
constant_width width font code = width
