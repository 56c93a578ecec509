-- What an instruction in the body of a page does: the marks that it makes, and the place and the font after it (DVItype, 14 and 15).
use Rattle.std.specs.Prelude.{◌+ℤ◌, ◌^◌, ◌&&◌, if◌then◌else◌, [], ◌∷◌, List, ℤ, pos, negsuc, Bool, nat_lt, int_lt, Option, Some, None}
use Rattle.dvi_ops.specs.Instruction.{Axis, Across, Downward, MoveRegister, First, Second, Movement, By, Set, Again, BodyLeaf, SetChar, PutChar}
use Rattle.dvi_ops.specs.Instruction.{SetRule, PutRule, Nop, Move, FontNum, FontDef, Xxx}
use Rattle.scaled_core.specs.Mark.{Mark, Glyph, Rule, Special}

-- The values of the two registers of a direction: w and x, or y and z (DVItype, 14).
pub record Pair : Type 0 where
  pub first : ℤ
  pub second : ℤ

-- The registers: w and x across, y and z downward (DVItype, 14).
pub record MoveRegisters : Type 0 where
  pub across : Pair
  pub down : Pair

-- The values h, v, w, x, y and z, which push saves and pop restores (DVItype, 14).
pub record Position : Type 0 where
  pub h : ℤ
  pub v : ℤ
  pub held : MoveRegisters

-- The place and the current font, if one was selected (DVItype, 14).
pub record DviState : Type 0 where
  pub place : Position
  pub font : Option ℤ

-- The width of a character, from the font's number and the code, where that font is known and has the character.
abbrev pub Widths : Type 0
Widths = ℤ → ℤ → Option ℤ

-- The marks that were made, and the state after them; None where the standard gives no meaning.
abbrev pub Meaning : Type 0
Meaning = Option (List Mark × DviState)

-- The effect of each instruction of a body.
abbrev pub Acts : Type 0
Acts = BodyLeaf → DviState → Meaning

-- The state after bop: six zeros and no font (DVItype, 15).
abbrev pub start : DviState
start =
    record {
      place = record {
        h = pos 0;
        v = pos 0;
        held = record { across = record { first = pos 0; second = pos 0 }; down = record { first = pos 0; second = pos 0 } };
      };
      font = None;
    }

-- The meaning of an instruction that makes no mark and leaves this state.
abbrev pub state_without_mark : DviState → Meaning
state_without_mark s = Some ([], s)

-- A state with an amount added to h.
abbrev pub right : DviState → ℤ → DviState
right s z = record s { place = record (s.place) { h = s.place.h +ℤ z } }

-- The value of a register.
abbrev pub register_value : MoveRegister → Pair → ℤ
register_value First held = held.first
register_value Second held = held.second

-- The registers after one of them was set.
abbrev pub put_in : MoveRegister → ℤ → Pair → Pair
put_in First z held = record held { first = z }
put_in Second z held = record held { second = z }

-- The distance of a movement (DVItype, 15).
abbrev pub movement_amount : Pair → Movement → ℤ
movement_amount held (By z) = z
movement_amount held (Set register z) = z
movement_amount held (Again register) = register_value register held

-- The registers of the direction after a movement (DVItype, 15).
abbrev pub held_after : Pair → Movement → Pair
held_after held (By z) = held
held_after held (Set register z) = put_in register z held
held_after held (Again register) = held

-- The place after a movement: across it adds to h, downward to v (DVItype, 15).
abbrev pub place_after : Axis → Movement → Position → Position
place_after Across step p =
    record { h = p.h +ℤ movement_amount p.held.across step; v = p.v; held = record { across = held_after p.held.across step; down = p.held.down } }
place_after Downward step p =
    record { h = p.h; v = p.v +ℤ movement_amount p.held.down step; held = record { across = p.held.across; down = held_after p.held.down step } }

-- A rule at a place, as a list of one mark. It makes no mark where its height or its width is not positive (DVItype, 15).
abbrev pub rule_at : (height width : ℤ) → Position → List Mark
rule_at height width p = if int_lt (pos 0) height && int_lt (pos 0) width then Rule p.h p.v height width ∷ [] else []

-- A glyph of the font at a place, with its width, where the font has the character.
abbrev pub glyph_of : (font code : ℤ) → Position → Option ℤ → Option (Mark × ℤ)
glyph_of font code p None = None
glyph_of font code p (Some width) = Some (Glyph font code p.h p.v, width)

-- A glyph of the current font at a place, with its width; None where no font is selected.
abbrev pub glyph : Widths → (code : ℤ) → Position → Option ℤ → Option (Mark × ℤ)
glyph widths code p None = None
glyph widths code p (Some font) = glyph_of font code p (widths font code)

-- The effect of putting a glyph: one mark. Without a glyph there is no meaning (DVItype, 15: put).
abbrev pub put_glyph : Option (Mark × ℤ) → DviState → Meaning
put_glyph None s = None
put_glyph (Some (mark, width)) s = Some (mark ∷ [], s)

-- The effect of setting a glyph: one mark, and h grows by the width. Without a glyph there is no meaning (DVItype, 15: set).
abbrev pub set_glyph : Option (Mark × ℤ) → DviState → Meaning
set_glyph None s = None
set_glyph (Some (mark, width)) s = Some (mark ∷ [], right s width)

-- The effect of an instruction, with these widths (DVItype, 15). The instruction set_rule adds its width to h even where it makes no mark. A special
-- is a mark at its place, whatever its text. A font definition changes nothing here.
abbrev pub instruction_acts : Widths → Acts
instruction_acts widths (SetChar c) s = set_glyph (glyph widths c s.place s.font) s
instruction_acts widths (PutChar c) s = put_glyph (glyph widths c s.place s.font) s
instruction_acts widths (SetRule height width) s = Some (rule_at height width s.place, right s width)
instruction_acts widths (PutRule height width) s = Some (rule_at height width s.place, s)
instruction_acts widths Nop s = state_without_mark s
instruction_acts widths (Move axis step) s = state_without_mark (record s { place = place_after axis step s.place })
instruction_acts widths (FontNum f) s = state_without_mark (record s { font = Some f })
instruction_acts widths (FontDef d) s = state_without_mark s
instruction_acts widths (Xxx text) s = Some (Special s.place.h s.place.v text ∷ [], s)

-- Whether a number fits into 32 bits with a sign (own).
abbrev pub in_range : ℤ → Bool
in_range (pos a) = nat_lt a (2 ^ 31)
in_range (negsuc a) = nat_lt a (2 ^ 31)

-- A meaning restricted to h and v in signed 32 bits after it; None elsewhere (own).
abbrev pub kept_in : Meaning → Meaning
kept_in None = None
kept_in (Some (marks, s)) = if in_range s.place.h && in_range s.place.v then Some (marks, s) else None

-- The effects of instructions, with h and v restricted to signed 32 bits (own: the standard leaves the range to the reader).
abbrev pub bounded_acts : Acts → Acts
bounded_acts does i s = kept_in (does i s)
