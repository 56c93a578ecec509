-- The fonts that a page defines, slot by slot.
use Rattle.std.proofs.Common.{◌≡◌, ◌≢◌, ℕ, zero, suc, ◌+◌, ◌-◌, ◌<◌, ◌≤◌, List, [], ◌∷◌, ◌++◌, length, set, take, drop, refl, ap, ap₂, sym, ◌∙◌, add-one, append-nil, get_or, arith}
use Rattle.std.specs.Prelude.{ℤ, pos, negsuc, nat_lt, Option, Some, None, Bool, true, false, not, is_some, filter, if◌then◌else◌, ◌&&◌, ◌||◌}
use Rattle.std.specs.List.{list_any}
use Rattle.std.specs.Ordering.{int_eq}
use Rattle.std.proofs.Math.Bool.{or-false, or-true}
use Rattle.std.proofs.lemmas.Bool.{ltb-false}
use Rattle.std.proofs.lemmas.Bool.Decides.{Decides-int_eq}
use Rattle.std.proofs.lemmas.Int.{ints}
use Rattle.std.proofs.lemmas.List.{get_or-set_other}
use Rattle.std.proofs.lemmas.Grind.{get_or-set_at}
use Rattle.std.proofs.lemmas.List.Elements.{filter-append}
use Rattle.std.proofs.lemmas.List.Folds.{list_any-append}
use Rattle.tfm_core.specs.Slots.{Slots, font_in}
use Rattle.dvi_ops.specs.Instruction.{FontNum, Instruction, Do}
use Rattle.dvi_ops.specs.Runs.{characters, woven_instructions}
use Rattle.dvi_write.specs.FilePages.{numbers_below, selects, is_among, is_fresh, fresh_slots, in_rising_order}
use Rattle.dvi_write.specs.Private.FilePages.{slot_of, is_marked_fresh}

-- One more number passes a test, or does not.
pub filtered_more : (p : ℕ → Bool) (n : ℕ) → p n ≡ true → filter p (numbers_below (n + 1)) ≡ filter p (numbers_below n) ++ n ∷ []
filtered_more p n passes = rw add-one (filter-append p (numbers_below n) (n ∷ []) ∙ ap (λ b. filter p (numbers_below n) ++ (if b then n ∷ [] else [])) passes)

pub filtered_same : (p : ℕ → Bool) (n : ℕ) → p n ≡ false → filter p (numbers_below (n + 1)) ≡ filter p (numbers_below n)
filtered_same p n fails = rw add-one (filter-append p (numbers_below n) (n ∷ []) ∙ (ap (λ b. filter p (numbers_below n) ++ (if b then n ∷ [] else [])) fails ∙ append-nil (filter p (numbers_below n))))

-- What an instruction selects.
abbrev is_slot : ℕ → Option ℕ → Bool
is_slot slot None = false
is_slot slot (Some other) = int_eq (pos other) (pos slot)

-- A number of 256 or more is no slot.
beyond : (number slot : ℕ) → slot < 256 → nat_lt number 256 ≡ false → int_eq (pos number) (pos slot) ≡ false
beyond number slot within out = by_test (int_eq (pos number) (pos slot)) refl
  where
    by_test : (same : Bool) → int_eq (pos number) (pos slot) ≡ same → int_eq (pos number) (pos slot) ≡ false
    by_test true same = absurd (omega (arith, ints, (Decides-int_eq (pos number) (pos slot)).0 same, ltb-false number 256 out, within))
    by_test false other = other

selects-by : (slot : ℕ) (i : Instruction) → slot < 256 → selects slot i ≡ is_slot slot (slot_of i)
selects-by slot (Do (FontNum (pos number))) within = by_test (nat_lt number 256) refl
  where
    by_test : (few : Bool) → nat_lt number 256 ≡ few → int_eq (pos number) (pos slot) ≡ is_slot slot (if few then Some number else None)
    by_test true few = refl
    by_test false out = beyond number slot within out
selects-by slot (Do (FontNum (negsuc number))) within = refl
selects-by slot (Do leaf) within = refl
selects-by slot i within = refl

-- One more instruction selects a font, or does not.
selected_more : (is : List Instruction) (i : Instruction) (slot : ℕ) → list_any (selects slot) (is ++ i ∷ []) ≡ (list_any (selects slot) is || selects slot i)
selected_more is i slot =
    list_any-append (selects slot) is (i ∷ []) ∙ ap (λ (b : Bool). list_any (selects slot) is || b) (or-false (selects slot i))

pub marked_more : (before after : List Bool) (is : List Instruction) (i : Instruction) (other slot : ℕ) → slot < 256 → slot_of i ≡ Some other
    → get_or after slot false ≡ (get_or before slot false || int_eq (pos other) (pos slot)) → get_or before slot false ≡ list_any (selects slot) is
    → get_or after slot false ≡ list_any (selects slot) (is ++ i ∷ [])
marked_more before after is i other slot within other_is marks marked =
    marks
    ∙ (ap (λ (b : Bool). b || int_eq (pos other) (pos slot)) marked
    ∙ (ap (λ (b : Bool). list_any (selects slot) is || b) (sym (selects-by slot i within ∙ ap (is_slot slot) other_is))
    ∙ sym (selected_more is i slot)))

pub marked_same : (before : List Bool) (is : List Instruction) (i : Instruction) (slot : ℕ) → slot < 256 → slot_of i ≡ None → get_or before slot false ≡ list_any (selects slot) is
    → get_or before slot false ≡ list_any (selects slot) (is ++ i ∷ [])
marked_same before is i slot within none marked =
    marked
    ∙ (sym (or-false (list_any (selects slot) is))
    ∙ (ap (λ (b : Bool). list_any (selects slot) is || b) (sym (selects-by slot i within ∙ ap (is_slot slot) none))
    ∙ sym (selected_more is i slot)))

differ : true ≡ false → ⊥
differ is = cc

-- The slot of a font is marked, if it is a slot.
pub marked_at : (marked : List Bool) (font : ℤ) (n slot : ℕ) → font ≡ pos n → n < length marked
    → get_or (set marked n true) slot false ≡ (get_or marked slot false || int_eq font (pos slot))
marked_at marked font n slot is within = by_test (int_eq font (pos slot)) refl
  where
    by_test : (same : Bool) → int_eq font (pos slot) ≡ same → get_or (set marked n true) slot false ≡ (get_or marked slot false || same)
    by_test true same =
        let here : slot ≡ n = omega (arith, ints, is, (Decides-int_eq font (pos slot)).0 same) in
        get_or-set_at marked n slot true false here within ∙ sym (or-true (get_or marked slot false))
    by_test false other =
        let apart : slot ≢ n = λ e. differ (sym ((Decides-int_eq font (pos slot)).1 (is ∙ ap pos (sym e))) ∙ other) in
        get_or-set_other marked n slot true false apart ∙ sym (or-false (get_or marked slot false))

-- Another slot than the one that is marked keeps its mark.
pub unmarked : (before : Bool) (slot other : ℕ) → before ≡ false → slot ≢ other → (before || int_eq (pos slot) (pos other)) ≡ false
unmarked before slot other none differs = by_test (int_eq (pos slot) (pos other)) refl
  where
    by_test : (same : Bool) → int_eq (pos slot) (pos other) ≡ same → (before || same) ≡ false
    by_test true same = absurd (differs (omega (arith, ints, (Decides-int_eq (pos slot) (pos other)).0 same)))
    by_test false apart = or-false before ∙ none

-- Where no slot from a number on is marked, the slots below it are enough.
not_fresh : (fonts : Slots) (defined : List ℕ) (marked : List Bool) (slot : ℕ) → get_or marked slot false ≡ false → is_marked_fresh fonts defined marked slot ≡ false
unfolding is_marked_fresh
not_fresh fonts defined marked slot none = ap (λ (b : Bool). b && (is_some (font_in fonts slot) && not (is_among slot defined))) none

marked_up :
    (fonts : Slots) (defined : List ℕ) (marked : List Bool) (limit more : ℕ)
    → ((slot : ℕ) → slot < limit + more → limit ≤ slot → get_or marked slot false ≡ false)
    → filter (is_marked_fresh fonts defined marked) (numbers_below limit) ≡ filter (is_marked_fresh fonts defined marked) (numbers_below (limit + more))
marked_up fonts defined marked limit zero none =
    let same : limit ≡ limit + zero = omega arith in ap (λ (n : ℕ). filter (is_marked_fresh fonts defined marked) (numbers_below n)) same
marked_up fonts defined marked limit (suc more) none =
    let next : limit + more + 1 ≡ limit + suc more = omega arith in
    marked_up fonts defined marked limit more (λ slot below. none slot (omega (arith, below)))
    ∙ (sym (filtered_same (is_marked_fresh fonts defined marked) (limit + more)
    (not_fresh fonts defined marked (limit + more) (none (limit + more) (omega arith) (omega arith))))
    ∙ ap (λ (n : ℕ). filter (is_marked_fresh fonts defined marked) (numbers_below n)) next)

pub marked_below :
    (fonts : Slots) (defined : List ℕ) (marked : List Bool) (limit : ℕ) → limit ≤ 256
    → ((slot : ℕ) → slot < 256 → limit ≤ slot → get_or marked slot false ≡ false)
    → filter (is_marked_fresh fonts defined marked) (numbers_below limit) ≡ filter (is_marked_fresh fonts defined marked) (numbers_below 256)
marked_below fonts defined marked limit within none =
    let whole : limit + (256 - limit) ≡ 256 = omega (arith, within) in
    marked_up fonts defined marked limit (256 - limit) (λ slot below. none slot (omega (arith, within, below)))
    ∙ ap (λ (n : ℕ). filter (is_marked_fresh fonts defined marked) (numbers_below n)) whole

-- Where no slot below a number is marked, none of them is fresh.
pub none_below :
    (fonts : Slots) (defined : List ℕ) (marked : List Bool) (first : ℕ) → ((slot : ℕ) → slot < first → get_or marked slot false ≡ false)
    → [] ≡ filter (is_marked_fresh fonts defined marked) (numbers_below first)
none_below fonts defined marked first none =
    let all : 0 + first ≡ first = omega arith in
    marked_up fonts defined marked 0 first (λ slot below from. none slot (omega (arith, below)))
    ∙ ap (λ (n : ℕ). filter (is_marked_fresh fonts defined marked) (numbers_below n)) all

pub marked_none : (marked : List Bool) (font : ℤ) (slot : ℕ) → slot < 256 → ((n : ℕ) → n < 256 → font ≢ pos n)
    → get_or marked slot false ≡ (get_or marked slot false || int_eq font (pos slot))
marked_none marked font slot within none = by_test (int_eq font (pos slot)) refl
  where
    by_test : (same : Bool) → int_eq font (pos slot) ≡ same → get_or marked slot false ≡ (get_or marked slot false || same)
    by_test true same = absurd (none slot within ((Decides-int_eq font (pos slot)).0 same))
    by_test false other = sym (or-false (get_or marked slot false))

-- The three conditions of a fresh font in another order.
turned : (a b c : Bool) → (a && (b && c)) ≡ (b && (c && a))
turned true true true = refl
turned true true false = refl
turned true false c = refl
turned false true true = refl
turned false true false = refl
turned false false c = refl

pub marked-is : (fonts : Slots) (defined : List ℕ) (marked : List Bool) (is : List Instruction) (slot : ℕ) → get_or marked slot false ≡ list_any (selects slot) is
    → is_marked_fresh fonts defined marked slot ≡ is_fresh fonts defined is slot
unfolding is_marked_fresh is_fresh
marked-is fonts defined marked is slot same =
    ap (λ (b : Bool). b && (is_some (font_in fonts slot) && not (is_among slot defined))) same
    ∙ turned (list_any (selects slot) is) (is_some (font_in fonts slot)) (not (is_among slot defined))

filter-same : (p q : ℕ → Bool) (n : ℕ) → ((i : ℕ) → i < n → p i ≡ q i) → filter p (numbers_below n) ≡ filter q (numbers_below n)
filter-same p q zero same = refl
filter-same p q (suc n) same =
    filter-append p (numbers_below n) (n ∷ [])
    ∙ (ap₂ (λ (front last : List ℕ). front ++ last) (filter-same p q n (λ i within. same i (omega (arith, within))))
    (ap (λ (b : Bool). if b then n ∷ [] else []) (same n (omega arith)))
    ∙ sym (filter-append q (numbers_below n) (n ∷ [])))

-- All 256 slots were tested.
pub fresh-is : (fonts : Slots) (defined : List ℕ) (marked : List Bool) (is : List Instruction) (n : ℕ) → n ≡ 256
    → ((slot : ℕ) → slot < 256 → get_or marked slot false ≡ list_any (selects slot) is)
    → filter (is_marked_fresh fonts defined marked) (numbers_below n) ≡ fresh_slots fonts defined is
unfolding fresh_slots
fresh-is fonts defined marked is n all same =
    ap (λ k. filter (is_marked_fresh fonts defined marked) (numbers_below k)) all
    ∙ filter-same (is_marked_fresh fonts defined marked) (is_fresh fonts defined is) 256 (λ i within. marked-is fonts defined marked is i (same i within))

pub in_rising_order-is : (defined : List ℕ) (n : ℕ) → n ≡ 256 → filter (λ slot. is_among slot defined) (numbers_below n) ≡ in_rising_order defined
unfolding in_rising_order
in_rising_order-is defined n all = ap (λ k. filter (λ slot. is_among slot defined) (numbers_below k)) all

-- Characters select no font.
selects-characters : (slot : ℕ) (codes : List ℕ) (rest : List Instruction) → list_any (selects slot) (characters codes ++ rest) ≡ list_any (selects slot) rest
selects-characters slot [] rest = refl
selects-characters slot (c ∷ codes) rest = selects-characters slot codes rest

-- So the fonts of a body are those that its other instructions select.
pub selects-woven :
    (slot from : ℕ) (codes places : List ℕ) (is : List Instruction) → length places ≡ length is
    → list_any (selects slot) (woven_instructions from codes places is) ≡ list_any (selects slot) is
selects-woven slot from codes [] [] paired =
    ap (list_any (selects slot)) (sym (append-nil (characters codes))) ∙ selects-characters slot codes []
selects-woven slot from codes [] (i ∷ is) paired = absurd (omega (arith, paired))
selects-woven slot from codes (place ∷ places) [] paired = absurd (omega (arith, paired))
selects-woven slot from codes (place ∷ places) (i ∷ is) paired =
    selects-characters slot (take (place - from) codes) (i ∷ woven_instructions place (drop (place - from) codes) places is)
    ∙ ap (λ (b : Bool). selects slot i || b) (selects-woven slot place (drop (place - from) codes) places is (omega (arith, paired)))
