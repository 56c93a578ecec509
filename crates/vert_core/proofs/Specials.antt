-- Specials above a box or a rule: finding them, moving them, and that they have no size.
use Rattle.std.proofs.Common.{◌≡◌, ◌∙◌, ℕ, zero, suc, ◌+◌, ◌-◌, ◌<◌, ◌≤◌, List, [], ◌∷◌, ◌++◌, length, take, drop, set, get_or, Bool, true, false, refl, ap, sym, arith}
use Rattle.std.specs.List.{list_all, filter, swap}
use Rattle.std.proofs.lemmas.List.{append-nil, drop_more, drop-set-lt, get_or-drop, length-drop, take_more, take_more_set, take-set-le}
use Rattle.std.proofs.lemmas.List.Edits.{swap_is}
use Rattle.std.proofs.lemmas.List.Elements.{filter-append}
use Rattle.node_core.specs.declared.tree.Node.{Node}
use Rattle.node_core.specs.declared.tree.Node.TheVariants as nodes
use Rattle.pack_core.specs.Items.{is_sizeless}
use Rattle.vert_core.specs.Places.{is_box_or_rule, precedes_break}
use Rattle.vert_core.specs.Split.{from_box_or_rule, is_special, specials_above}

-- An item that does not precede a break is no box, no rule and no special.
pub dropped-weak : (x : Node) → precedes_break x ≡ false → is_box_or_rule x ≡ false
dropped-weak (nodes.Glyph g) e = refl
dropped-weak (nodes.FontKern width) e = refl
dropped-weak (nodes.Kern width) e = refl
dropped-weak (nodes.Glue g) e = refl
dropped-weak (nodes.Penalty p) e = refl
dropped-weak (nodes.Special text) e = refl
dropped-weak (nodes.Rule sizes) e = absurd (cc)
dropped-weak (nodes.Box shift b) e = absurd (cc)

pub dropped-plain : (x : Node) → precedes_break x ≡ false → is_special x ≡ false
dropped-plain (nodes.Glyph g) e = refl
dropped-plain (nodes.FontKern width) e = refl
dropped-plain (nodes.Kern width) e = refl
dropped-plain (nodes.Glue g) e = refl
dropped-plain (nodes.Penalty p) e = refl
dropped-plain (nodes.Special text) e = absurd (cc)
dropped-plain (nodes.Rule sizes) e = refl
dropped-plain (nodes.Box shift b) e = refl

pub specials-more :
    (items : List Node) (i : ℕ) (x : Node) → i < length items → x ≡ get_or items i x → precedes_break x ≡ false
    → specials_above (drop i items) ≡ specials_above (drop (i + 1) items)
specials-more items i x within is dropped = rw (drop_more items i x within, ← is, dropped-weak x dropped, dropped-plain x dropped) refl

rest-shorter : (items : List Node) → length (from_box_or_rule items) ≤ length items
rest-shorter [] = omega arith
rest-shorter (x ∷ xs) = here (is_box_or_rule x) refl (rest-shorter xs)
  where
    here : (solid : Bool) → is_box_or_rule x ≡ solid → length (from_box_or_rule xs) ≤ length xs → length (from_box_or_rule (x ∷ xs)) ≤ length (x ∷ xs)
    here true e less = rw e (omega arith)
    here false e less = rw e (omega arith)

-- The specials above the first box or rule are those among the items before it.
pub above-filtered : (items : List Node) (n : ℕ) → n ≤ length items → drop n items ≡ from_box_or_rule items → filter is_special (take n items) ≡ specials_above items
above-filtered [] zero within at = refl
above-filtered [] (suc n) within at = refl
above-filtered (x ∷ xs) zero within at = here (is_box_or_rule x) refl at
  where
    here : (solid : Bool) → is_box_or_rule x ≡ solid → x ∷ xs ≡ from_box_or_rule (x ∷ xs) → [] ≡ specials_above (x ∷ xs)
    here true e at = rw e refl
    here false e at = let more : x ∷ xs ≡ from_box_or_rule xs = rw e at at in absurd (omega (arith, ap length more, rest-shorter xs))
above-filtered (x ∷ xs) (suc n) within at = here (is_box_or_rule x) (is_special x) refl refl at (above-filtered xs n (omega (arith, within)))
  where
    here :
        (solid special : Bool) → is_box_or_rule x ≡ solid → is_special x ≡ special → drop n xs ≡ from_box_or_rule (x ∷ xs)
        → (drop n xs ≡ from_box_or_rule xs → filter is_special (take n xs) ≡ specials_above xs) → filter is_special (take (suc n) (x ∷ xs)) ≡ specials_above (x ∷ xs)
    here true special e s at later = let all : drop n xs ≡ x ∷ xs = rw e at at in absurd (omega (arith, ap length all, length-drop n xs))
    here false true e s at later = rw (e, s) (ap (λ (ys : List Node). x ∷ ys) (later (rw e at at)))
    here false false e s at later = rw (e, s) (later (rw e at at))

-- An item is swapped with an earlier one.
pub swapped-front :
    (xs : List Node) (kept i : ℕ) (x : Node) → kept < i → i < length xs → x ≡ get_or xs i x → take (kept + 1) (swap xs kept i) ≡ take kept xs ++ x ∷ []
swapped-front xs kept i x before within is =
    ap (take (kept + 1)) (sym (swap_is xs kept i x (omega arith) within))
    ∙ take-set-le (kept + 1) (set xs kept (get_or xs i x)) i (get_or xs kept x) (omega arith)
    ∙ take_more_set xs kept (get_or xs i x) (omega arith)
    ∙ ap (λ (y : Node). take kept xs ++ y ∷ []) (sym is)

pub swapped-back :
    (xs : List Node) (kept i : ℕ) (x : Node) → kept < i → i < length xs → drop (i + 1) (swap xs kept i) ≡ drop (i + 1) xs
swapped-back xs kept i x before within =
    ap (drop (i + 1)) (sym (swap_is xs kept i x (omega arith) within))
    ∙ drop-set-lt (i + 1) (set xs kept (get_or xs i x)) i (get_or xs kept x) (omega arith)
    ∙ drop-set-lt (i + 1) xs kept (get_or xs i x) (omega arith)

-- An item of the part that has not changed.
pub same-item : (old now : List Node) (i : ℕ) (x : Node) → drop i now ≡ drop i old → x ≡ get_or now i x → x ≡ get_or old i x
same-item old now i x same is =
    let at : i + 0 ≡ i = omega arith in
    is ∙ sym (ap (λ (n : ℕ). get_or now n x) at) ∙ sym (get_or-drop i now 0 x) ∙ ap (λ (ys : List Node). get_or ys 0 x) same ∙ get_or-drop i old 0 x ∙ ap (λ (n : ℕ). get_or old n x) at

pub same-below : (old now : List Node) (i : ℕ) (x : Node) → i < length old → i < length now → drop i now ≡ drop i old → drop (i + 1) now ≡ drop (i + 1) old
same-below old now i x within within' same =
    let more = sym (drop_more now i x within') ∙ same ∙ drop_more old i x within in cc

-- The specials among the items from the second on, with one more item.
gathered : (old : List Node) (i : ℕ) (x : Node) → 0 < i → i < length old → x ≡ get_or old i x → take (i + 1 - 1) (drop 1 old) ≡ take (i - 1) (drop 1 old) ++ x ∷ []
gathered old i x some within is =
    let at : i + 1 - 1 ≡ (i - 1) + 1 = omega arith in
    let from : 1 + (i - 1) ≡ i = omega arith in
    ap (λ (n : ℕ). take n (drop 1 old)) at
    ∙ take_more (drop 1 old) (i - 1) x (omega (arith, length-drop 1 old))
    ∙ ap (λ (y : Node). take (i - 1) (drop 1 old) ++ y ∷ []) (get_or-drop 1 old (i - 1) x ∙ ap (λ (n : ℕ). get_or old n x) from ∙ sym is)

pub gathered-special :
    (old : List Node) (i : ℕ) (x : Node) → 0 < i → i < length old → x ≡ get_or old i x → is_special x ≡ true
    → filter is_special (take (i + 1 - 1) (drop 1 old)) ≡ filter is_special (take (i - 1) (drop 1 old)) ++ x ∷ []
gathered-special old i x some within is special =
    ap (filter is_special) (gathered old i x some within is) ∙ filter-append is_special (take (i - 1) (drop 1 old)) (x ∷ []) ∙ rw special refl

pub gathered-other :
    (old : List Node) (i : ℕ) (x : Node) → 0 < i → i < length old → x ≡ get_or old i x → is_special x ≡ false
    → filter is_special (take (i + 1 - 1) (drop 1 old)) ≡ filter is_special (take (i - 1) (drop 1 old))
gathered-other old i x some within is other =
    ap (filter is_special) (gathered old i x some within is) ∙ filter-append is_special (take (i - 1) (drop 1 old)) (x ∷ [])
    ∙ ap (λ (ys : List Node). filter is_special (take (i - 1) (drop 1 old)) ++ ys) (rw other refl)
    ∙ append-nil (filter is_special (take (i - 1) (drop 1 old)))

-- Specials have no size.
pub above-sizeless : (items : List Node) → list_all is_sizeless (specials_above items) ≡ true
above-sizeless [] = refl
above-sizeless ((nodes.Special text) ∷ items) = above-sizeless items
above-sizeless ((nodes.Glyph g) ∷ items) = above-sizeless items
above-sizeless ((nodes.FontKern width) ∷ items) = above-sizeless items
above-sizeless ((nodes.Kern width) ∷ items) = above-sizeless items
above-sizeless ((nodes.Glue g) ∷ items) = above-sizeless items
above-sizeless ((nodes.Penalty p) ∷ items) = above-sizeless items
above-sizeless ((nodes.Rule sizes) ∷ items) = refl
above-sizeless ((nodes.Box shift b) ∷ items) = refl
