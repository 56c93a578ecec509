-- Flags that are made from the last movement to the first, and consumed from the first to the last; and one step of the pass that writes in place.
use Rattle.std.proofs.Common.{◌≡◌, ◌<◌, ◌+◌, ◌-◌, ◌∷◌, [], ◌++◌, List, ℕ, Bool, true, false, Option, Some, None, refl, sym, ◌∙◌, ap, ap₂, reverse, length, get_or, set, take, drop, map, unwrap_or, arith}
use Rattle.std.specs.Prelude.{option_to_list, MatchOption}
use Rattle.std.proofs.lemmas.List.{append_assoc, drop_more, map-append, nil_from_length, reverse-append, take_more, take_more_set}
use Rattle.dvi_ops.specs.Instruction.{Across, Downward, By, Set, Again, Move, Instruction, Do}
use Rattle.dvi_ops.specs.View.{body_view}
use Rattle.dvi_ops.specs.declared.body_op.BodyOp.{BodyOp}
use Rattle.move_core.specs.Registers.{KnownRegisters}
use Rattle.move_core.specs.Private.Passes.{Groups, again_in, groups_entered, flags_of, is_move, amounts_after, op_written, rewritten_instructions}

-- The instructions from the one before i on.
pub in_front : (ops : List BodyOp) (i : ℕ) (d : BodyOp) → 0 < i → i - 1 < length ops →
    map body_view (drop (i - 1) ops) ≡ body_view (get_or ops (i - 1) d) ∷ map body_view (drop i ops)
in_front ops i d some within =
    let back : i - 1 + 1 ≡ i = omega arith in
    ap (λ (ops : List BodyOp). map body_view ops) (drop_more ops (i - 1) d within ∙ ap (λ (j : ℕ). get_or ops (i - 1) d ∷ drop j ops) back)

-- The instructions from the one at i on.
pub from_here : (ops : List BodyOp) (i : ℕ) (d : BodyOp) → i < length ops → map body_view (drop i ops) ≡ body_view (get_or ops i d) ∷ map body_view (drop (i + 1) ops)
from_here ops i d within = ap (λ (ops : List BodyOp). map body_view ops) (drop_more ops i d within)

-- The flags from a movement on, and from any other instruction on.
pub flags_at_move : (i : Instruction) (rest : List Instruction) → is_move i ≡ true → flags_of (i ∷ rest) ≡ again_in i rest ∷ flags_of rest
flags_at_move i rest e = rw e refl

pub flags_at_other : (i : Instruction) (rest : List Instruction) → is_move i ≡ false → flags_of (i ∷ rest) ≡ flags_of rest
flags_at_other i rest e = rw e refl

-- One more flag.
pub pushed_flag : (flags flags' : List Bool) (again : Bool) (i : Instruction) (rest : List Instruction) → is_move i ≡ true → flags' ≡ flags ++ again ∷ [] →
    again ≡ again_in i rest → reverse flags ≡ flags_of rest → reverse flags' ≡ flags_of (i ∷ rest)
pushed_flag flags flags' again i rest move e here after =
    ap reverse e ∙ (reverse-append flags (again ∷ []) ∙ (ap₂ ◌∷◌ here after ∙ sym (flags_at_move i rest move)))

-- One flag less.
pub popped_flag : (flags flags' : List Bool) (popped : Option Bool) (i : Instruction) (rest : List Instruction) (n n' : ℕ) → is_move i ≡ true →
    flags ≡ flags' ++ option_to_list popped → length flags ≡ n → MatchOption popped ((n ≡ 0) × (n' ≡ 0)) (λ _. n' + 1 ≡ n) →
    reverse flags ≡ flags_of (i ∷ rest) → (unwrap_or popped false ≡ again_in i rest) × (reverse flags' ≡ flags_of rest)
popped_flag flags flags' None i rest n n' move e l none all =
    let empty : [] ≡ again_in i rest ∷ flags_of rest = sym (ap reverse (nil_from_length flags (l ∙ none.0))) ∙ (all ∙ flags_at_move i rest move) in absurd cc
popped_flag flags flags' (Some again) i rest n n' move e l some all =
    let whole : again ∷ reverse flags' ≡ again_in i rest ∷ flags_of rest =
    sym (ap reverse e ∙ reverse-append flags' (again ∷ [])) ∙ (all ∙ flags_at_move i rest move) in
    (cc, cc)

-- A movement is written by the known values, and enters and leaves no group.
pub written_move : (known known' : KnownRegisters) (outer : List KnownRegisters) (i written : Instruction) (again : Bool) (rest : List Instruction) → is_move i ≡ true →
    again ≡ again_in i rest → written ≡ op_written known i again → known' ≡ amounts_after known i again →
    rewritten_instructions (i ∷ rest) (record { known = known; outer = outer }) ≡ written ∷ rewritten_instructions rest (record { known = known'; outer = outer })
written_move known known' outer (Do (Move axis (By n))) written again rest move e w k = rw (w, k, e) refl
written_move known known' outer (Do (Move axis (Set register n))) written again rest move e w k = absurd (cc)
written_move known known' outer (Do (Move axis (Again register))) written again rest move e w k = absurd (cc)
written_move known known' outer i written again rest move e w k = absurd (cc)

-- Any other instruction is unchanged, and changes the known values only where it enters or leaves a group.
pub written_other : (g g' : Groups) (i : Instruction) (rest : List Instruction) → is_move i ≡ false → g' ≡ groups_entered i g →
    rewritten_instructions (i ∷ rest) g ≡ i ∷ rewritten_instructions rest g'
written_other g g' (Do (Move axis (By n))) rest other e = absurd (cc)
written_other g g' (Do (Move Across (Set register n))) rest other e = rw e refl
written_other g g' (Do (Move Downward (Set register n))) rest other e = rw e refl
written_other g g' (Do (Move Across (Again register))) rest other e = rw e refl
written_other g g' (Do (Move Downward (Again register))) rest other e = rw e refl
written_other g g' (Do leaf) rest other e = rw e refl
written_other g g' i rest other e = rw e refl

-- The instructions before the next one, where the one at i was rewritten in place.
front_more : (front : List Instruction) (i : Instruction) (rest made : List Instruction) → made ≡ i ∷ rest → (front ++ i ∷ []) ++ rest ≡ front ++ made
front_more front i rest made e = append_assoc front (i ∷ []) rest ∙ ap (λ (is : List Instruction). front ++ is) (sym e)

pub made_at : (ops : List BodyOp) (i : ℕ) (op : BodyOp) (rest made : List Instruction) → i < length ops → made ≡ body_view op ∷ rest →
    map body_view (take (i + 1) (set ops i op)) ++ rest ≡ map body_view (take i ops) ++ made
made_at ops i op rest made within e =
    ap (λ (front : List BodyOp). map body_view front ++ rest) (take_more_set ops i op within)
    ∙ (ap (λ (front : List Instruction). front ++ rest) (map-append body_view (take i ops) (op ∷ []))
    ∙ front_more (map body_view (take i ops)) (body_view op) rest made e)

pub made_past : (ops : List BodyOp) (i : ℕ) (d : BodyOp) (rest made : List Instruction) → i < length ops → made ≡ body_view (get_or ops i d) ∷ rest →
    map body_view (take (i + 1) ops) ++ rest ≡ map body_view (take i ops) ++ made
made_past ops i d rest made within e =
    ap (λ (front : List BodyOp). map body_view front ++ rest) (take_more ops i d within)
    ∙ (ap (λ (front : List Instruction). front ++ rest) (map-append body_view (take i ops) (get_or ops i d ∷ []))
    ∙ front_more (map body_view (take i ops)) (body_view (get_or ops i d)) rest made e)
