-- Instructions without empty groups, which are left unchanged.
use Rattle.std.proofs.Common.{◌≡◌, ◌∙◌, ◌++◌, [], ◌∷◌, List, Bool, true, false, ◌||◌, refl, ap, sym, reverse, append-nil, append_assoc}
use Rattle.std.proofs.lemmas.List.{reverse-append}
use Rattle.dvi_ops.specs.Instruction.{Instruction, Push, Pop}
use Rattle.move_core.specs.Private.Passes.{trimmed_instructions, is_push, ends_empty_group, has_empty_group}

first_true : (a b c : Bool) → a ≡ true → (a || b) ≡ c → true ≡ c
first_true true b c is all = all
first_true false b c is all = absurd (cc)

first_false : (a b c : Bool) → a ≡ false → (a || b) ≡ c → b ≡ c
first_false false b c is all = all
first_false true b c is all = absurd (cc)

neither : (a b : Bool) → (a || b) ≡ false → a ≡ false
neither false b none = refl
neither true b none = none

-- An empty group ends at an instruction, or after it.
pub ends_here : (pushed : Bool) (i : Instruction) (rest : List Instruction) (all : Bool) → ends_empty_group pushed i ≡ true → has_empty_group pushed (i ∷ rest) ≡ all → true ≡ all
ends_here pushed i rest all here is = first_true (ends_empty_group pushed i) (has_empty_group (is_push i) rest) all here is

pub ends_later : (pushed : Bool) (i : Instruction) (rest : List Instruction) (all : Bool) → ends_empty_group pushed i ≡ false → has_empty_group pushed (i ∷ rest) ≡ all
    → has_empty_group (is_push i) rest ≡ all
ends_later pushed i rest all here is = first_false (ends_empty_group pushed i) (has_empty_group (is_push i) rest) all here is

-- Whether the last instruction is a push.
abbrev is_after_push : (out : List Instruction) → Bool
is_after_push [] = false
is_after_push (i ∷ out) = is_push i

trimmed_more : (i : Instruction) (rest out : List Instruction) → ends_empty_group (is_after_push out) i ≡ false → trimmed_instructions (i ∷ rest) out ≡ trimmed_instructions rest (i ∷ out)
trimmed_more Pop rest (Push ∷ out) none = absurd (cc)
trimmed_more Pop rest [] none = refl
trimmed_more Pop rest (last ∷ out) none = refl
trimmed_more i rest out none = refl

trimmed_all : (is out : List Instruction) → has_empty_group (is_after_push out) is ≡ false → trimmed_instructions is out ≡ reverse out ++ is
trimmed_all [] out none = sym (append-nil (reverse out))
trimmed_all (i ∷ rest) out none =
    let here = neither (ends_empty_group (is_after_push out) i) (has_empty_group (is_push i) rest) none in
    trimmed_more i rest out here
    ∙ (trimmed_all rest (i ∷ out) (ends_later (is_after_push out) i rest false here none)
    ∙ (ap (λ (front : List Instruction). front ++ rest) (reverse-append (i ∷ []) out) ∙ append_assoc (reverse out) (i ∷ []) rest))

-- The instructions are unchanged where there is no empty group.
pub trimmed_whole : (is : List Instruction) → has_empty_group false is ≡ false → trimmed_instructions is [] ≡ is
trimmed_whole is none = trimmed_all is [] none
