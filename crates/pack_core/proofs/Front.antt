-- Penalties and specials at the front of a vertical list change only the items of its vbox.
use Rattle.std.proofs.Common.{◌≡◌, ◌∙◌, ℕ, ◌&&◌, List, [], ◌∷◌, ◌++◌, Bool, true, false, refl, sym, ap, arith}
use Rattle.std.specs.Prelude.{ℤ, pos, negsuc, zero, suc, if◌then◌else◌}
use Rattle.std.specs.List.{list_all}
use Rattle.std.proofs.Math.Path.{fun_ext}
use Rattle.std.proofs.lemmas.Int.{ints, clamps}
use Rattle.node_core.specs.Items.{BoxFrame}
use Rattle.node_core.specs.declared.tree.Node.{Node}
use Rattle.node_core.specs.declared.tree.Node.TheVariants as nodes
use Rattle.node_core.specs.declared.tree.Order.{Order}
use Rattle.node_core.specs.declared.tree.Order.TheVariants.{Normal, Fil, Fill, Filll}
use Rattle.pack_core.specs.declared.pack.Target.{Target}
use Rattle.pack_core.specs.declared.pack.Target.TheVariants.{Natural}
use Rattle.pack_core.specs.declared.pack.Shell.{Shell}
use Rattle.pack_core.specs.Items.{is_sizeless, downward, breadth, last_below, stretch_in, shrink_in}
use Rattle.pack_core.specs.Totals.{total, greatest_of, pending_depth}
use Rattle.pack_core.specs.Glue.{highest, stretched_setting, shrunk_setting, setting_of, setting_badness, stretch_totals, shrink_totals, stretch_badness, shrink_badness}
use Rattle.pack_core.specs.Boxes.{glue_totals, natural_height, vbox_excess, vbox_frame, vbox_badness, vbox_numbers, vbox_shell}
use Rattle.pack_core.proofs.Sums.{greatest_positive, pending-none}

-- An item that has no size.
record HasNoSize (x : Node) : Type 0 where
  pub move : downward x ≡ pos 0
  pub wide : breadth x ≡ pos 0
  pub deep : last_below x ≡ pos 0
  pub stretch : (order : Order) → stretch_in order x ≡ pos 0
  pub shrink : (order : Order) → shrink_in order x ≡ pos 0

sizeless : (x : Node) → is_sizeless x ≡ true → HasNoSize x
sizeless (nodes.Penalty p) is = record { move = refl; wide = refl; deep = refl; stretch = λ order. refl; shrink = λ order. refl }
sizeless (nodes.Special text) is = record { move = refl; wide = refl; deep = refl; stretch = λ order. refl; shrink = λ order. refl }
sizeless (nodes.Glyph g) is = absurd (cc)
sizeless (nodes.FontKern width) is = absurd (cc)
sizeless (nodes.Kern width) is = absurd (cc)
sizeless (nodes.Glue g) is = absurd (cc)
sizeless (nodes.Rule sizes) is = absurd (cc)
sizeless (nodes.Box shift b) is = absurd (cc)

both : (a b : Bool) → (a && b) ≡ true → (a ≡ true) × (b ≡ true)
both true b e = (refl, e)
both false b e = absurd (cc)

total-front :
    (size : Node → ℤ) → ((x : Node) → is_sizeless x ≡ true → size x ≡ pos 0)
    → (front xs : List Node) → list_all is_sizeless front ≡ true → total size (front ++ xs) ≡ total size xs
total-front size none [] xs all = refl
total-front size none (x ∷ front) xs all =
    let parts = both (is_sizeless x) (list_all is_sizeless front) all in
    omega (arith, ints, none x parts.0, total-front size none front xs parts.1)

breadth-front : (front xs : List Node) → list_all is_sizeless front ≡ true → greatest_of breadth (front ++ xs) ≡ greatest_of breadth xs
breadth-front [] xs all = refl
breadth-front (x ∷ front) xs all =
    let parts = both (is_sizeless x) (list_all is_sizeless front) all in
    omega (arith, ints, clamps, (sizeless x parts.0).wide, greatest_positive breadth (front ++ xs), breadth-front front xs parts.1)

either : (b : Bool) (p q : ℤ) → (b ≡ true → p ≡ q) → (if b then p else q) ≡ q
either true p q same = same refl
either false p q same = refl

pending-front : (front xs : List Node) → list_all is_sizeless front ≡ true → pending_depth (front ++ xs) ≡ pending_depth xs
pending-front [] xs all = refl
pending-front (x ∷ front) xs all =
    let parts = both (is_sizeless x) (list_all is_sizeless front) all in
    either (list_all is_sizeless (front ++ xs)) (last_below x) (pending_depth (front ++ xs)) (λ none. (sizeless x parts.0).deep ∙ sym (pending-none (front ++ xs) none))
    ∙ pending-front front xs parts.1

stretch-front : (front xs : List Node) → list_all is_sizeless front ≡ true → stretch_totals (front ++ xs) ≡ stretch_totals xs
stretch-front front xs all = fun_ext (λ order. total-front (stretch_in order) (λ x is. (sizeless x is).stretch order) front xs all)

shrink-front : (front xs : List Node) → list_all is_sizeless front ≡ true → shrink_totals (front ++ xs) ≡ shrink_totals xs
shrink-front front xs all = fun_ext (λ order. total-front (shrink_in order) (λ x is. (sizeless x is).shrink order) front xs all)

pub natural-front : (limit : ℤ) (front xs : List Node) → list_all is_sizeless front ≡ true → natural_height limit (front ++ xs) ≡ natural_height limit xs
natural-front limit front xs all =
    let moves : total downward (front ++ xs) ≡ total downward xs = total-front downward (λ x is. (sizeless x is).move) front xs all in
    rw (moves, pending-front front xs all) refl

excess-front : (target : Target) (limit : ℤ) (front xs : List Node) → list_all is_sizeless front ≡ true → vbox_excess target limit (front ++ xs) ≡ vbox_excess target limit xs
excess-front target limit front xs all = rw (natural-front limit front xs all) refl

glue-front : (front xs : List Node) → list_all is_sizeless front ≡ true → glue_totals (front ++ xs) ≡ glue_totals xs
glue-front front xs all =
    let by : (Order → ℤ) → (Order → ℤ) → List ℤ = λ s t. s Normal ∷ s Fil ∷ s Fill ∷ s Filll ∷ t Normal ∷ t Fil ∷ t Fill ∷ t Filll ∷ [] in
    ap (λ (s : Order → ℤ). by s (shrink_totals (front ++ xs))) (stretch-front front xs all) ∙ ap (by (stretch_totals xs)) (shrink-front front xs all)

-- They do not change the numbers that have to fit.
pub numbers-front : (target : Target) (limit : ℤ) (front xs : List Node) → list_all is_sizeless front ≡ true → vbox_numbers target limit (front ++ xs) ≡ vbox_numbers target limit xs
numbers-front target limit front xs all =
    rw (natural-front limit front xs all, pending-front front xs all, breadth-front front xs all, glue-front front xs all) refl

setting-front : (excess : ℤ) (front xs : List Node) → list_all is_sizeless front ≡ true → setting_of excess (front ++ xs) ≡ setting_of excess xs
unfolding setting_of
setting-front (pos zero) front xs all = refl
setting-front (pos (suc n)) front xs all = ap (λ (totals : Order → ℤ). stretched_setting (pos (suc n)) totals (highest totals)) (stretch-front front xs all)
setting-front (negsuc n) front xs all = ap (λ (totals : Order → ℤ). shrunk_setting (pos (suc n)) totals (highest totals)) (shrink-front front xs all)

-- They do not change the frame.
pub frame-front : (target : Target) (limit : ℤ) (front xs : List Node) → list_all is_sizeless front ≡ true → vbox_frame target limit (front ++ xs) ≡ vbox_frame target limit xs
frame-front target limit front xs all =
    let set : setting_of (vbox_excess target limit (front ++ xs)) (front ++ xs) ≡ setting_of (vbox_excess target limit xs) xs =
    ap (λ (e : ℤ). setting_of e (front ++ xs)) (excess-front target limit front xs all) ∙ setting-front (vbox_excess target limit xs) front xs all in
    rw (set, natural-front limit front xs all, pending-front front xs all, breadth-front front xs all) refl

-- They do not change the badness, if the list has items; without items it is 0.
setting_badness-front :
    (excess : ℤ) (front : List Node) (x : Node) (xs : List Node) → list_all is_sizeless front ≡ true → setting_badness excess (front ++ x ∷ xs) ≡ setting_badness excess (x ∷ xs)
unfolding setting_badness
setting_badness-front excess [] x xs all = refl
setting_badness-front (pos zero) (y ∷ front) x xs all = refl
setting_badness-front (pos (suc n)) (y ∷ front) x xs all = ap (λ (totals : Order → ℤ). stretch_badness (pos (suc n)) totals) (stretch-front (y ∷ front) (x ∷ xs) all)
setting_badness-front (negsuc n) (y ∷ front) x xs all = ap (λ (totals : Order → ℤ). shrink_badness (pos (suc n)) totals) (shrink-front (y ∷ front) (x ∷ xs) all)

pub badness-front :
    (target : Target) (limit : ℤ) (front : List Node) (x : Node) (xs : List Node) → list_all is_sizeless front ≡ true
    → vbox_badness target limit (front ++ x ∷ xs) ≡ vbox_badness target limit (x ∷ xs)
badness-front target limit front x xs all =
    ap (λ (e : ℤ). setting_badness e (front ++ x ∷ xs)) (excess-front target limit front (x ∷ xs) all) ∙ setting_badness-front (vbox_excess target limit (x ∷ xs)) front x xs all

-- A vbox of its natural height has badness 0.
setting_badness-zero : (xs : List Node) → setting_badness (pos zero) xs ≡ 0
unfolding setting_badness
setting_badness-zero [] = refl
setting_badness-zero (x ∷ xs) = refl

pub badness-natural : (limit : ℤ) (xs : List Node) → vbox_badness Natural limit xs ≡ 0
badness-natural limit xs =
    let zero-is : vbox_excess Natural limit xs ≡ pos zero = omega (arith, ints) in
    ap (λ (e : ℤ). setting_badness e xs) zero-is ∙ setting_badness-zero xs

-- They do not change the shell.
shell-by : (target : Target) (limit : ℤ) (xs ys : List Node) → vbox_frame target limit xs ≡ vbox_frame target limit ys → vbox_badness target limit xs ≡ vbox_badness target limit ys
    → vbox_shell target limit xs ≡ vbox_shell target limit ys
unfolding vbox_shell
shell-by target limit xs ys frame bad =
    let by : BoxFrame → ℕ → Shell = λ f b. record { kind = f.kind; width = f.width; height = f.height; depth = f.depth; setting = f.setting; badness = b } in
    ap (λ (f : BoxFrame). by f (vbox_badness target limit xs)) frame ∙ ap (by (vbox_frame target limit ys)) bad

pub shell-front :
    (target : Target) (limit : ℤ) (front : List Node) (x : Node) (xs : List Node) → list_all is_sizeless front ≡ true
    → vbox_shell target limit (front ++ x ∷ xs) ≡ vbox_shell target limit (x ∷ xs)
shell-front target limit front x xs all =
    shell-by target limit (front ++ x ∷ xs) (x ∷ xs) (frame-front target limit front (x ∷ xs) all) (badness-front target limit front x xs all)

pub shell-natural :
    (limit : ℤ) (front xs : List Node) → list_all is_sizeless front ≡ true → vbox_shell Natural limit (front ++ xs) ≡ vbox_shell Natural limit xs
shell-natural limit front xs all =
    shell-by Natural limit (front ++ xs) xs (frame-front Natural limit front xs all) (badness-natural limit (front ++ xs) ∙ sym (badness-natural limit xs))
