-- The highest order whose total is not 0.
use Rattle.std.proofs.Common.{◌≡◌, ◌≢◌, ◌↔◌, ℤ, pos, ◌<◌, Bool, true, false, refl, arith}
use Rattle.std.specs.Prelude.{Option, Some, None, if◌then◌else◌}
use Rattle.node_core.specs.declared.tree.Order.{Order}
use Rattle.node_core.specs.declared.tree.Order.TheVariants.{Normal, Fil, Fill, Filll}
use Rattle.pack_core.specs.Glue.{is_zero, rank, IsHighest, highest}
use Rattle.pack_core.proofs.Edge.{is_zero-true, is_zero-false}

at-filll : (totals : Order → ℤ) → totals Filll ≢ pos 0 → IsHighest totals Filll
at-filll totals h = record {
  not_zero = h;
  alone = λ (other : Order). elim other as (λ (o : Order). rank Filll < rank o → totals o ≡ pos 0) [
    | Normal ↦ λ (lt : 3 < 0). absurd (omega arith)
    | Fil ↦ λ (lt : 3 < 1). absurd (omega arith)
    | Fill ↦ λ (lt : 3 < 2). absurd (omega arith)
    | Filll ↦ λ (lt : 3 < 3). absurd (omega arith)
  ];
}

at-fill : (totals : Order → ℤ) → totals Filll ≡ pos 0 → totals Fill ≢ pos 0 → IsHighest totals Fill
at-fill totals filll h = record {
  not_zero = h;
  alone = λ (other : Order). elim other as (λ (o : Order). rank Fill < rank o → totals o ≡ pos 0) [
    | Normal ↦ λ (lt : 2 < 0). absurd (omega arith)
    | Fil ↦ λ (lt : 2 < 1). absurd (omega arith)
    | Fill ↦ λ (lt : 2 < 2). absurd (omega arith)
    | Filll ↦ λ _. filll
  ];
}

at-fil : (totals : Order → ℤ) → totals Filll ≡ pos 0 → totals Fill ≡ pos 0 → totals Fil ≢ pos 0 → IsHighest totals Fil
at-fil totals filll fill h = record {
  not_zero = h;
  alone = λ (other : Order). elim other as (λ (o : Order). rank Fil < rank o → totals o ≡ pos 0) [
    | Normal ↦ λ (lt : 1 < 0). absurd (omega arith)
    | Fil ↦ λ (lt : 1 < 1). absurd (omega arith)
    | Fill ↦ λ _. fill
    | Filll ↦ λ _. filll
  ];
}

at-normal : (totals : Order → ℤ) → totals Filll ≡ pos 0 → totals Fill ≡ pos 0 → totals Fil ≡ pos 0 → totals Normal ≢ pos 0 → IsHighest totals Normal
at-normal totals filll fill fil h = record {
  not_zero = h;
  alone = λ (other : Order). elim other as (λ (o : Order). rank Normal < rank o → totals o ≡ pos 0) [
    | Normal ↦ λ (lt : 0 < 0). absurd (omega arith)
    | Fil ↦ λ _. fil
    | Fill ↦ λ _. fill
    | Filll ↦ λ _. filll
  ];
}

pick : Bool → Bool → Bool → Bool → Option Order
pick a b c d = if a then (if b then (if c then (if d then None else Some Normal) else Some Fil) else Some Fill) else Some Filll

-- The order that the four tests select is the highest with a total that is not 0.
picked :
    (totals : Order → ℤ) (order : Order) (a b c d : Bool)
    → is_zero (totals Filll) ≡ a → is_zero (totals Fill) ≡ b → is_zero (totals Fil) ≡ c → is_zero (totals Normal) ≡ d
    → pick a b c d ≡ Some order → IsHighest totals order
unfolding pick
picked totals order false b c d filll fill fil normal e = let same : Filll ≡ order = cc in rw (← same) (at-filll totals (is_zero-false (totals Filll) filll))
picked totals order true false c d filll fill fil normal e =
    let same : Fill ≡ order = cc in rw (← same) (at-fill totals (is_zero-true (totals Filll) filll) (is_zero-false (totals Fill) fill))
picked totals order true true false d filll fill fil normal e =
    let same : Fil ≡ order = cc in
    rw (← same) (at-fil totals (is_zero-true (totals Filll) filll) (is_zero-true (totals Fill) fill) (is_zero-false (totals Fil) fil))
picked totals order true true true false filll fill fil normal e =
    let same : Normal ≡ order = cc in
    rw (← same) (at-normal totals (is_zero-true (totals Filll) filll) (is_zero-true (totals Fill) fill) (is_zero-true (totals Fil) fil) (is_zero-false (totals Normal) normal))
picked totals order true true true true filll fill fil normal e = absurd (cc)

not-zero : (z : ℤ) → z ≢ pos 0 → is_zero z ≡ false
not-zero z h = elim (is_zero z) as (λ (b : Bool). is_zero z ≡ b → is_zero z ≡ false) [ true ↦ λ e. absurd (h (is_zero-true z e)) | false ↦ λ e. e ] refl

zero-is : (z : ℤ) → z ≡ pos 0 → is_zero z ≡ true
zero-is z h = rw h refl

-- The four tests select the highest order with a total that is not 0.
found-at : (totals : Order → ℤ) (order : Order) → IsHighest totals order → highest totals ≡ Some order
unfolding highest
found-at totals Filll h = rw (not-zero (totals Filll) h.not_zero) refl
found-at totals Fill h = rw (zero-is (totals Filll) (h.alone Filll (omega arith)), not-zero (totals Fill) h.not_zero) refl
found-at totals Fil h =
    rw (zero-is (totals Filll) (h.alone Filll (omega arith)), zero-is (totals Fill) (h.alone Fill (omega arith)), not-zero (totals Fil) h.not_zero) refl
found-at totals Normal h =
    rw (zero-is (totals Filll) (h.alone Filll (omega arith)), zero-is (totals Fill) (h.alone Fill (omega arith)), zero-is (totals Fil) (h.alone Fil (omega arith)), not-zero (totals Normal) h.not_zero) refl

pub highest-is : (totals : Order → ℤ) (order : Order) → (highest totals ≡ Some order) ↔ IsHighest totals order
unfolding highest pick
highest-is totals order = (
  λ e. picked totals order (is_zero (totals Filll)) (is_zero (totals Fill)) (is_zero (totals Fil)) (is_zero (totals Normal)) refl refl refl refl e,
  found-at totals order,
)

none-picked :
    (totals : Order → ℤ) (a b c d : Bool)
    → is_zero (totals Filll) ≡ a → is_zero (totals Fill) ≡ b → is_zero (totals Fil) ≡ c → is_zero (totals Normal) ≡ d
    → pick a b c d ≡ None → (order : Order) → totals order ≡ pos 0
unfolding pick
none-picked totals false b c d filll fill fil normal e order = absurd (cc)
none-picked totals true false c d filll fill fil normal e order = absurd (cc)
none-picked totals true true false d filll fill fil normal e order = absurd (cc)
none-picked totals true true true false filll fill fil normal e order = absurd (cc)
none-picked totals true true true true filll fill fil normal e Filll = is_zero-true (totals Filll) filll
none-picked totals true true true true filll fill fil normal e Fill = is_zero-true (totals Fill) fill
none-picked totals true true true true filll fill fil normal e Fil = is_zero-true (totals Fil) fil
none-picked totals true true true true filll fill fil normal e Normal = is_zero-true (totals Normal) normal

none-found : (totals : Order → ℤ) → ((order : Order) → totals order ≡ pos 0) → highest totals ≡ None
unfolding highest
none-found totals h = rw (zero-is (totals Filll) (h Filll), zero-is (totals Fill) (h Fill), zero-is (totals Fil) (h Fil), zero-is (totals Normal) (h Normal)) refl

pub highest-none : (totals : Order → ℤ) → (highest totals ≡ None) ↔ ((order : Order) → totals order ≡ pos 0)
unfolding highest pick
highest-none totals = (
  λ e. none-picked totals (is_zero (totals Filll)) (is_zero (totals Fill)) (is_zero (totals Fil)) (is_zero (totals Normal)) refl refl refl refl e,
  none-found totals,
)
