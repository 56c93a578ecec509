-- The instructions of a DVI file, without the lengths of their operands (DVItype, 13 to 20).
use Rattle.std.specs.Prelude.{ℕ, ℤ, List}

-- The two directions: h moves across with the registers w and x, v moves downward with y and z (DVItype, 14).
pub data Axis : Type 0 where
  Across : Axis
  Downward : Axis

-- The registers of a direction: w or y is the first, x or z the second (DVItype, 14).
pub data MoveRegister : Type 0 where
  First : MoveRegister
  Second : MoveRegister

-- A movement: by an amount (right, down), by an amount that is stored in a register (w1, x1, y1, z1), or by the value of a register (w0, x0, y0, z0).
pub data Movement : Type 0 where
  By : ℤ → Movement
  Set : MoveRegister → ℤ → Movement
  Again : MoveRegister → Movement

-- A font definition (DVItype, 18). Sizes are in DVI units, and the name is in two parts.
pub record Definition : Type 0 where
  pub number : ℤ
  pub check_sum : ℤ
  pub size : ℤ
  pub design_size : ℤ
  pub area : List ℕ
  pub name : List ℕ

-- How DVI units are measured: num / den times 10^-7 metres, enlarged by mag / 1000 (DVItype, 17).
pub record Units : Type 0 where
  pub num : ℤ
  pub den : ℤ
  pub mag : ℤ

-- The operands of post, which describe the whole file (DVItype, 19).
pub record Postamble : Type 0 where
  pub last_bop : ℤ
  pub units : Units
  pub height_plus_depth : ℤ
  pub width : ℤ
  pub stack_depth : ℕ
  pub pages : ℕ

-- An instruction of a page body, except push and pop.
pub data BodyLeaf : Type 0 where
  SetChar : ℤ → BodyLeaf
  PutChar : ℤ → BodyLeaf
  SetRule : (height width : ℤ) → BodyLeaf
  PutRule : (height width : ℤ) → BodyLeaf
  Nop : BodyLeaf
  Move : Axis → Movement → BodyLeaf
  FontNum : ℤ → BodyLeaf
  FontDef : Definition → BodyLeaf
  Xxx : List ℕ → BodyLeaf

-- An instruction: a leaf, or one that opens or closes a group or a page, or is outside of pages.
pub data Instruction : Type 0 where
  Do : BodyLeaf → Instruction
  Push : Instruction
  Pop : Instruction
  Bop : (counts : List ℤ) (pointer : ℤ) → Instruction
  Eop : Instruction
  Pre : (id : ℕ) (units : Units) (comment : List ℕ) → Instruction
  Post : Postamble → Instruction
  PostPost : (place : ℤ) (id : ℕ) → Instruction
