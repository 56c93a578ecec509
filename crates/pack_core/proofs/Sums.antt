-- Sums and greatest sizes over a list with one more node.
use Rattle.std.proofs.Common.{◌≡◌, ◌∙◌, ℕ, ◌+◌, ◌<◌, ◌&&◌, List, [], ◌∷◌, ◌++◌, length, take, get_or, ap, arith, sym, refl}
use Rattle.std.specs.Prelude.{ℤ, pos, ◌+ℤ◌, ◌≤ℤ◌, Bool, true, false, if◌then◌else◌}
use Rattle.std.specs.Int.{int_max}
use Rattle.std.proofs.lemmas.Int.{ints, clamps}
use Rattle.std.proofs.lemmas.List.{take_more}
use Rattle.std.proofs.lemmas.List.Folds.{list_all-append}
use Rattle.std.specs.List.{list_all}
use Rattle.pack_core.specs.Items.{is_sizeless, last_below}
use Rattle.pack_core.specs.ListTotals.{pending_after}
use Rattle.node_core.specs.declared.tree.Node.{Node}
use Rattle.node_core.specs.declared.tree.Node.TheVariants as nodes
use Rattle.std.proofs.Math.Bool.{and-true, and-false}
use Rattle.pack_core.specs.Totals.{total, greatest_of, pending_depth}

pub total-append : (size : Node → ℤ) (xs ys : List Node) → total size (xs ++ ys) ≡ total size xs +ℤ total size ys
total-append size [] ys = omega (arith, ints)
total-append size (x ∷ xs) ys = omega (arith, ints, total-append size xs ys)

pub total_more :
    (size : Node → ℤ) (xs : List Node) (i : ℕ) (x : Node) → i < length xs → x ≡ get_or xs i x
    → total size (take (i + 1) xs) ≡ total size (take i xs) +ℤ size x
total_more size xs i x within is =
    let all : total size (take (i + 1) xs) ≡ total size (take i xs ++ get_or xs i x ∷ []) = ap (total size) (take_more xs i x within) in
    let parts = total-append size (take i xs) (get_or xs i x ∷ []) in
    let same : size (get_or xs i x) ≡ size x = ap size (sym is) in
    omega (arith, ints, all, parts, same)

pub greatest_positive : (size : Node → ℤ) (xs : List Node) → pos 0 ≤ℤ greatest_of size xs
greatest_positive size [] = omega (arith, ints)
greatest_positive size (x ∷ xs) = omega (arith, ints, clamps, greatest_positive size xs)

pub greatest-append : (size : Node → ℤ) (xs ys : List Node) → greatest_of size (xs ++ ys) ≡ int_max (greatest_of size xs) (greatest_of size ys)
greatest-append size [] ys = omega (arith, ints, clamps, greatest_positive size ys)
greatest-append size (x ∷ xs) ys = omega (arith, ints, clamps, greatest-append size xs ys)

pub greatest_more :
    (size : Node → ℤ) (xs : List Node) (i : ℕ) (x : Node) → i < length xs → x ≡ get_or xs i x
    → greatest_of size (take (i + 1) xs) ≡ int_max (greatest_of size (take i xs)) (size x)
greatest_more size xs i x within is =
    let all : greatest_of size (take (i + 1) xs) ≡ greatest_of size (take i xs ++ get_or xs i x ∷ []) = ap (greatest_of size) (take_more xs i x within) in
    let parts = greatest-append size (take i xs) (get_or xs i x ∷ []) in
    let same : size (get_or xs i x) ≡ size x = ap size (sym is) in
    let low = greatest_positive size (take i xs) in
    omega (arith, ints, clamps, all, parts, same, low)

-- Penalties and one more item.
penalties-append : (xs : List Node) (x : Node) → list_all is_sizeless (xs ++ x ∷ []) ≡ (list_all is_sizeless xs && is_sizeless x)
penalties-append xs x = list_all-append is_sizeless xs (x ∷ []) ∙ ap (λ b. list_all is_sizeless xs && b) (and-true (is_sizeless x))

choice : (a b : Bool) (p q r : ℤ) → (if (a && b) then p else (if b then q else r)) ≡ (if b then (if a then p else q) else r)
choice true true p q r = refl
choice true false p q r = refl
choice false true p q r = refl
choice false false p q r = refl

pub pending-append : (xs : List Node) (x : Node) → pending_depth (xs ++ x ∷ []) ≡ pending_after (pending_depth xs) x
pending-append [] (nodes.Glyph g) = refl
pending-append [] (nodes.FontKern width) = refl
pending-append [] (nodes.Kern width) = refl
pending-append [] (nodes.Glue g) = refl
pending-append [] (nodes.Penalty p) = refl
pending-append [] (nodes.Special text) = refl
pending-append [] (nodes.Rule sizes) = refl
pending-append [] (nodes.Box shift b) = refl
pending-append (y ∷ ys) x =
    rw (penalties-append ys x, pending-append ys x) (choice (list_all is_sizeless ys) (is_sizeless x) (last_below y) (pending_depth ys) (last_below x))

-- If only penalties and specials come after an item that is neither, the pending depth is that of the item.
pub pending-last :
    (front : List Node) (item : Node) (penalties : List Node)
    → is_sizeless item ≡ false → list_all is_sizeless penalties ≡ true → pending_depth (front ++ item ∷ penalties) ≡ last_below item
pending-last [] item penalties last all = rw all refl
pending-last (y ∷ ys) item penalties last all =
    let some : list_all is_sizeless (ys ++ item ∷ penalties) ≡ false = list_all-append is_sizeless ys (item ∷ penalties) ∙ rw last (and-false (list_all is_sizeless ys)) in
    rw some (pending-last ys item penalties last all)

pub pending-none : (penalties : List Node) → list_all is_sizeless penalties ≡ true → pending_depth penalties ≡ pos 0
pending-none [] all = refl
pending-none ((nodes.Penalty p) ∷ xs) all = rw all refl
pending-none ((nodes.Special text) ∷ xs) all = rw all refl
pending-none ((nodes.Glyph g) ∷ xs) all = absurd (cc)
pending-none ((nodes.FontKern width) ∷ xs) all = absurd (cc)
pending-none ((nodes.Kern width) ∷ xs) all = absurd (cc)
pending-none ((nodes.Glue g) ∷ xs) all = absurd (cc)
pending-none ((nodes.Rule sizes) ∷ xs) all = absurd (cc)
pending-none ((nodes.Box shift b) ∷ xs) all = absurd (cc)

-- The pending depth of two lists together.
pub pending-joined : (xs ys : List Node) → pending_depth (xs ++ ys) ≡ (if list_all is_sizeless ys then pending_depth xs else pending_depth ys)
pending-joined [] ys = here (list_all is_sizeless ys) refl
  where
    here : (all : Bool) → list_all is_sizeless ys ≡ all → pending_depth ys ≡ (if list_all is_sizeless ys then pos 0 else pending_depth ys)
    here true e = rw e (pending-none ys e)
    here false e = rw e refl
pending-joined (x ∷ xs) ys =
    rw (list_all-append is_sizeless xs ys, pending-joined xs ys)
    (choice (list_all is_sizeless xs) (list_all is_sizeless ys) (last_below x) (pending_depth xs) (pending_depth ys))
