-- The instruction at the start of some bytes, as a function (own). The contract of `next` connects it with the table.
use Rattle.std.specs.Prelude.{◌-◌, ◌∷◌, [], List, length, take, drop, ℕ, zero, suc, ℤ, pos, nat_lt, nat_le, if◌then◌else◌, Option, Some, None}
use Rattle.byteorder.specs.Endian.{big_number}
use Rattle.dvi_ops.specs.Instruction.{Axis, Across, Downward, First, Second, By, Set, Again, Definition, SetChar, PutChar, SetRule, PutRule, Nop}
use Rattle.dvi_ops.specs.Instruction.{Move, FontNum, FontDef, Xxx, Instruction, Do, Push, Pop, Bop, Eop, Pre, Post, PostPost}
use Rattle.dvi_ops.specs.Table.{signed, code}

-- A value at the start of some bytes, and the rest of the bytes; None where the bytes are too few.
abbrev pub Front : Type 0 → Type 0
Front A = Option (A × List ℕ)

-- The image of a value that was read; the rest of the bytes is the same.
abbrev pub front_image : {A B : Type 0} → (A → B) → Front A → Front B
front_image f None = None
front_image f (Some (value, rest)) = Some (f value, rest)

-- A second value that is read after a first one and may depend on it.
abbrev pub front_then : {A B : Type 0} → Front A → (A → List ℕ → Front B) → Front B
front_then None next = None
front_then (Some (value, rest)) next = next value rest

-- The first n bytes, and the rest.
abbrev pub first_bytes : ℕ → List ℕ → Front (List ℕ)
first_bytes n bytes = if nat_le n (length bytes) then Some (take n bytes, drop n bytes) else None

-- A signed number of n bytes.
unfoldable pub signed_at : ℕ → List ℕ → Front ℤ
signed_at n bytes = front_image (signed n) (first_bytes n bytes)

-- The number of a character or of a font, in n bytes.
unfoldable pub code_at : ℕ → List ℕ → Front ℤ
code_at n bytes = front_image (code n) (first_bytes n bytes)

-- A number of two bytes.
unfoldable pub half_at : List ℕ → Front ℕ
half_at bytes = front_image (big_number 2) (first_bytes 2 bytes)

-- A list of n numbers of four bytes each.
unfoldable pub words : ℕ → List ℕ → List ℤ
words zero bytes = []
words (suc n) bytes = signed 4 bytes ∷ words n (drop 4 bytes)

-- A character: set_char and set1 to set4, codes 0 to 131.
unfoldable pub char_at : ℕ → List ℕ → Front Instruction
char_at operation rest =
    if nat_lt operation 128 then Some (Do (SetChar (pos operation)), rest) else front_image (λ c. Do (SetChar c)) (code_at (operation - 127) rest)

-- One byte.
abbrev pub byte_at : List ℕ → Front ℕ
byte_at [] = None
byte_at (byte ∷ rest) = Some (byte, rest)

-- Two numbers of four bytes.
unfoldable pub two_at : List ℕ → Front (ℤ × ℤ)
two_at bytes = front_then (signed_at 4 bytes) (λ a rest. front_image (λ b. (a, b)) (signed_at 4 rest))

-- Three numbers of four bytes.
unfoldable pub three_at : List ℕ → Front (ℤ × ℤ × ℤ)
three_at bytes = front_then (signed_at 4 bytes) (λ a rest. front_image (λ bc. (a, bc.0, bc.1)) (two_at rest))

-- Two numbers of two bytes.
unfoldable pub halves_at : List ℕ → Front (ℕ × ℕ)
halves_at bytes = front_then (half_at bytes) (λ a rest. front_image (λ b. (a, b)) (half_at rest))

-- The operands of bop.
unfoldable pub bop_at : List ℕ → Front Instruction
bop_at bytes = front_then (first_bytes 40 bytes) (λ counts rest. front_image (λ pointer. Bop (words 10 counts) pointer) (signed_at 4 rest))

-- Rules, put1 to put4, nop, bop, eop, push and pop: codes 132 to 142.
unfoldable pub plain_at : ℕ → List ℕ → Front Instruction
plain_at operation rest =
    if nat_lt operation 133 then front_image (λ r. Do (SetRule r.0 r.1)) (two_at rest)
    else if nat_lt operation 137 then front_image (λ c. Do (PutChar c)) (code_at (operation - 132) rest)
    else if nat_lt operation 138 then front_image (λ r. Do (PutRule r.0 r.1)) (two_at rest)
    else if nat_lt operation 139 then Some (Do Nop, rest)
    else if nat_lt operation 140 then bop_at rest
    else if nat_lt operation 141 then Some (Eop, rest)
    else if nat_lt operation 142 then Some (Push, rest)
    else Some (Pop, rest)

-- The movements of an axis, by the difference of their code and the code before right1 or down1: 1 to 14.
unfoldable pub movement_at : Axis → ℕ → List ℕ → Front Instruction
movement_at axis offset rest =
    if nat_lt offset 5 then front_image (λ z. Do (Move axis (By z))) (signed_at offset rest)
    else if nat_lt offset 6 then Some (Do (Move axis (Again First)), rest)
    else if nat_lt offset 10 then front_image (λ z. Do (Move axis (Set First z))) (signed_at (offset - 5) rest)
    else if nat_lt offset 11 then Some (Do (Move axis (Again Second)), rest)
    else front_image (λ z. Do (Move axis (Set Second z))) (signed_at (offset - 10) rest)

-- A font selection: fnt_num and fnt1 to fnt4, codes 171 to 238.
unfoldable pub font_at : ℕ → List ℕ → Front Instruction
font_at operation rest =
    if nat_lt operation 235 then Some (Do (FontNum (pos (operation - 171))), rest)
    else front_image (λ f. Do (FontNum f)) (code_at (operation - 234) rest)

-- A special whose length has n bytes.
unfoldable pub text_at : ℕ → List ℕ → Front Instruction
text_at n bytes = front_then (first_bytes n bytes) (λ count rest. front_image (λ text. Do (Xxx text)) (first_bytes (big_number n count) rest))

-- Two lengths, and two texts of these lengths.
unfoldable pub names_at : List ℕ → Front (List ℕ × List ℕ)
names_at bytes =
    front_then (byte_at bytes)
    (λ a rest. front_then (byte_at rest) (λ l rest. front_then (first_bytes a rest)
    (λ area rest. front_image (λ name. (area, name)) (first_bytes l rest))))

-- A font definition whose number has n bytes.
unfoldable pub definition_at : ℕ → List ℕ → Front Definition
definition_at n bytes =
    front_then
    (code_at n bytes)
    (λ number rest. front_then (three_at rest) (λ sizes rest. front_image (λ names. record {
      number = number;
      check_sum = sizes.0;
      size = sizes.1;
      design_size = sizes.2;
      area = names.0;
      name = names.1;
    }) (names_at rest)))

-- A special or a font definition: xxx1 to xxx4 and fnt_def1 to fnt_def4, codes 239 to 246.
unfoldable pub long_at : ℕ → List ℕ → Front Instruction
long_at operation rest =
    if nat_lt operation 243 then text_at (operation - 238) rest else front_image (λ d. Do (FontDef d)) (definition_at (operation - 242) rest)

-- A length of one byte, and a text of that length.
unfoldable pub comment_at : List ℕ → Front (List ℕ)
comment_at bytes = front_then (byte_at bytes) (λ k rest. first_bytes k rest)

-- The operands of pre.
unfoldable pub pre_at : List ℕ → Front Instruction
pre_at bytes =
    front_then (byte_at bytes)
    (λ id rest. front_then (three_at rest)
    (λ u rest. front_image (λ comment. Pre id (record { num = u.0; den = u.1; mag = u.2 }) comment) (comment_at rest)))

-- The operands of post.
unfoldable pub post_at : List ℕ → Front Instruction
post_at bytes =
    front_then
    (signed_at 4 bytes)
    (λ last rest. front_then (three_at rest) (λ u rest. front_then (two_at rest) (λ sizes rest. front_image (λ counts. Post (record {
      last_bop = last;
      units = record { num = u.0; den = u.1; mag = u.2 };
      height_plus_depth = sizes.0;
      width = sizes.1;
      stack_depth = counts.0;
      pages = counts.1;
    })) (halves_at rest))))

-- The operands of post_post.
unfoldable pub post_post_at : List ℕ → Front Instruction
post_post_at bytes = front_then (signed_at 4 bytes) (λ place rest. front_image (λ id. PostPost place id) (byte_at rest))

-- The instructions pre, post and post_post: codes 247 to 249. No other code from 247 begins an instruction.
unfoldable pub frame_at : ℕ → List ℕ → Front Instruction
frame_at operation rest =
    if nat_lt operation 248 then pre_at rest
    else if nat_lt operation 249 then post_at rest
    else if nat_lt operation 250 then post_post_at rest
    else None

-- The instruction at the start of some bytes, by its code.
unfoldable pub read : List ℕ → Front Instruction
read [] = None
read (operation ∷ rest) =
    if nat_lt operation 132 then char_at operation rest
    else if nat_lt operation 143 then plain_at operation rest
    else if nat_lt operation 157 then movement_at Across (operation - 142) rest
    else if nat_lt operation 171 then movement_at Downward (operation - 156) rest
    else if nat_lt operation 239 then font_at operation rest
    else if nat_lt operation 247 then long_at operation rest
    else frame_at operation rest
