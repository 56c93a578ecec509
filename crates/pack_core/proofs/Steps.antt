-- The steps from the totals of a list to its box agree with the definitions.
use Rattle.std.proofs.Common.{◌≡◌, ◌∙◌, ℕ, ◌==◌, ◌&&◌, length, List, [], ◌∷◌, Bool, true, false, refl, sym, ap, arith}
use Rattle.std.specs.Prelude.{◌-ℤ◌, ℤ, Option, Some, None, if◌then◌else◌}
use Rattle.std.specs.List.{list_all}
use Rattle.std.specs.Option.{is_some, IfSome}
use Rattle.std.proofs.Math.Path.{fun_ext}
use Rattle.std.proofs.lemmas.Bool.Decides.{nat_tests}
use Rattle.node_core.specs.declared.tree.Kind.TheVariants.{Horizontal, Vertical}
use Rattle.node_core.specs.declared.tree.Node.{Node}
use Rattle.node_core.specs.declared.tree.Order.{Order}
use Rattle.node_core.specs.declared.tree.Order.TheVariants.{Normal, Fil, Fill, Filll}
use Rattle.node_core.specs.declared.tree.Setting.{Setting}
use Rattle.pack_core.specs.declared.orders.OrderAmounts.{OrderAmounts}
use Rattle.pack_core.specs.declared.orders.OrderDimens.{OrderDimens}
use Rattle.pack_core.specs.Items.{advance, item_width, height_above_baseline, depth_below_baseline, downward, breadth}
use Rattle.scaled_core.specs.Dimensions.{fits, Within, dimension_of}
use Rattle.pack_core.specs.Totals.{total, greatest_of, first_height}
use Rattle.pack_core.specs.Glue.{glue_badness, glue_setting, setting_of, setting_badness, stretch_totals, shrink_totals}
use Rattle.pack_core.specs.Boxes.{target_size, hbox_shell, glue_totals, hbox_width, hbox_excess, hbox_badness, hbox_numbers, natural_height, vbox_depth, vbox_height, vbox_excess, vbox_badness, vbox_numbers, vtop_depth, vtop_numbers, some_if, vbox_shell}
use Rattle.pack_core.specs.declared.setting.GlueSet.{GlueSet}
use Rattle.pack_core.specs.declared.pack.Target.{Target}
use Rattle.pack_core.specs.declared.pack.Shell.{Shell}
use Rattle.std.proofs.Math.Bool.{and-true, and-false}
use Rattle.scaled_core.proofs.Fitting.{dimension_fits, dimension_found, dimension_missing}
use Rattle.std.proofs.lemmas.List.Folds.{list_all-append}
use Rattle.pack_core.specs.Orders.{order_amounts}
use Rattle.pack_core.specs.Private.Orders.{by_order, order_dimens, each_order}
use Rattle.pack_core.specs.Private.Steps.{dimens_of, glue_set, vtop_shell}

-- A value under a test is there exactly when the test holds.
pub some_if-true : {A : Type 0} (x : A) → some_if true x ≡ Some x
unfolding some_if
some_if-true x = refl

pub some_if-false : {A : Type 0} (x : A) → some_if false x ≡ None
unfolding some_if
some_if-false x = refl

pub some_if-some : {A : Type 0} (b : Bool) (x y : A) → some_if b x ≡ Some y → (b ≡ true) × (x ≡ y)
unfolding some_if
some_if-some true x y e = (refl, cc)
some_if-some false x y e = absurd (cc)

pub some_if-none : {A : Type 0} (b : Bool) (x : A) → some_if b x ≡ None → b ≡ false
unfolding some_if
some_if-none true x e = absurd (cc)
some_if-none false x e = refl

pub some_if-is_some : {A : Type 0} (b : Bool) (x : A) → is_some (some_if b x) ≡ b
unfolding some_if
some_if-is_some true x = refl
some_if-is_some false x = refl

pub some_if-value : {A : Type 0} (b : Bool) (x : A) → IfSome (some_if b x) (λ y. y ≡ x)
unfolding some_if
some_if-value true x = refl
some_if-value false x = tt

-- The advances of a horizontal and of a vertical list.
pub total-across : (nodes : List Node) → total (advance Horizontal) nodes ≡ total item_width nodes
total-across nodes = refl

pub total-downward : (nodes : List Node) → total (advance Vertical) nodes ≡ total downward nodes
total-downward nodes = refl

-- The totals of the four orders, as dimensions.
by_order-order : (totals : Order → ℤ) (order : Order) → by_order (order_dimens totals) order ≡ totals order
by_order-order totals Normal = refl
by_order-order totals Fil = refl
by_order-order totals Fill = refl
by_order-order totals Filll = refl

pub by_order-totals : (totals : Order → ℤ) → by_order (order_dimens totals) ≡ totals
by_order-totals totals = fun_ext (by_order-order totals)

-- Four totals that fit are dimensions; if one does not fit, there are no dimensions.
pub dimens-given :
    (amounts : OrderAmounts) (normal fil fill filll : ℤ)
    → dimension_of amounts.normal ≡ Some normal → dimension_of amounts.fil ≡ Some fil → dimension_of amounts.fill ≡ Some fill → dimension_of amounts.filll ≡ Some filll
    → Some (record { normal = normal; fil = fil; fill = fill; filll = filll }) ≡ dimens_of amounts
unfolding dimens_of
dimens-given amounts normal fil fill filll n f l m =
    let n' = dimension_found amounts.normal normal n in
    let f' = dimension_found amounts.fil fil f in
    let l' = dimension_found amounts.fill fill l in
    let m' = dimension_found amounts.filll filll m in
    rw (n'.0, f'.0, l'.0, m'.0, ← n'.1, ← f'.1, ← l'.1, ← m'.1) (sym (some_if-true _))

pub dimens-refused :
    (amounts : OrderAmounts) → list_all fits (amounts.normal ∷ amounts.fil ∷ amounts.fill ∷ amounts.filll ∷ []) ≡ false → None ≡ dimens_of amounts
unfolding dimens_of
dimens-refused amounts some = rw some (sym (some_if-false _))

pub ruleset steps = (some_if-true, some_if-false, some_if-some, some_if-none, dimension_found, dimension_missing, total-across, total-downward)

-- The setting computed from the totals of the four orders is the setting of the list.
setting-is :
    (excess : ℤ) (nodes : List Node)
    → glue_setting excess (by_order (order_dimens (stretch_totals nodes))) (by_order (order_dimens (shrink_totals nodes))) ≡ setting_of excess nodes
unfolding setting_of
setting-is excess nodes =
    ap (λ (totals : Order → ℤ). glue_setting excess totals (by_order (order_dimens (shrink_totals nodes)))) (by_order-totals (stretch_totals nodes))
    ∙ ap (λ (totals : Order → ℤ). glue_setting excess (stretch_totals nodes) totals) (by_order-totals (shrink_totals nodes))

-- Whether a list has no items.
abbrev is_empty : List Node → Bool
is_empty [] = true
is_empty (x ∷ xs) = false

-- The badness computed from the totals of the four orders is that of the list.
badness-is :
    (excess : ℤ) (nodes : List Node)
    → (if is_empty nodes then 0 else glue_badness excess (by_order (order_dimens (stretch_totals nodes))) (by_order (order_dimens (shrink_totals nodes))))
    ≡ setting_badness excess nodes
unfolding setting_badness
badness-is excess [] = refl
badness-is excess (x ∷ xs) =
    ap (λ (totals : Order → ℤ). glue_badness excess totals (by_order (order_dimens (shrink_totals (x ∷ xs))))) (by_order-totals (stretch_totals (x ∷ xs)))
    ∙ ap (λ (totals : Order → ℤ). glue_badness excess (stretch_totals (x ∷ xs)) totals) (by_order-totals (shrink_totals (x ∷ xs)))

-- Equal numbers have the same dimension.
pub dimension-same : (a b : ℤ) (found : Option ℤ) → found ≡ dimension_of a → a ≡ b → found ≡ dimension_of b
dimension-same a b found e same = e ∙ ap dimension_of same

empty-length : (nodes : List Node) → (length nodes == 0) ≡ is_empty nodes
empty-length [] = refl
empty-length (x ∷ xs) = grind (arith, nat_tests)

pub glue-given :
    (excess : ℤ) (nodes : List Node) (stretch shrink : OrderDimens) (setting : Setting) (badness : ℕ)
    → dimens_of (order_amounts (stretch_totals nodes)) ≡ Some stretch
    → dimens_of (order_amounts (shrink_totals nodes)) ≡ Some shrink
    → setting ≡ glue_setting excess (by_order stretch) (by_order shrink)
    → badness ≡ (if length nodes == 0 then 0 else glue_badness excess (by_order stretch) (by_order shrink))
    → Some (record { setting = setting; badness = badness }) ≡ some_if (list_all fits (glue_totals nodes)) (glue_set excess nodes)
unfolding glue_set dimens_of
glue-given excess nodes stretch shrink setting badness can_stretch can_shrink set bad =
    let s = some_if-some (list_all fits (each_order (stretch_totals nodes))) (order_dimens (stretch_totals nodes)) stretch can_stretch in
    let t = some_if-some (list_all fits (each_order (shrink_totals nodes))) (order_dimens (shrink_totals nodes)) shrink can_shrink in
    let set-is : setting ≡ setting_of excess nodes = set ∙ (rw (← s.1, ← t.1) (setting-is excess nodes)) in
    let bad-is : badness ≡ setting_badness excess nodes = bad ∙ (rw (empty-length nodes, ← s.1, ← t.1) (badness-is excess nodes)) in
    let all : list_all fits (glue_totals nodes) ≡ true =
    list_all-append fits (each_order (stretch_totals nodes)) (each_order (shrink_totals nodes)) ∙ rw (s.0, t.0) refl in
    rw (all, set-is, bad-is) (sym (some_if-true _))

-- If a total of stretch or of shrink does not fit, no glue is set.
pub glue-refused-stretch : (excess : ℤ) (nodes : List Node) → dimens_of (order_amounts (stretch_totals nodes)) ≡ None → None ≡ some_if (list_all fits (glue_totals nodes)) (glue_set excess nodes)
unfolding dimens_of
glue-refused-stretch excess nodes refused =
    let some : list_all fits (each_order (stretch_totals nodes)) ≡ false = some_if-none _ (order_dimens (stretch_totals nodes)) refused in
    let all : list_all fits (glue_totals nodes) ≡ false = list_all-append fits (each_order (stretch_totals nodes)) (each_order (shrink_totals nodes)) ∙ rw some refl in
    rw all (sym (some_if-false _))

pub glue-refused-shrink : (excess : ℤ) (nodes : List Node) → dimens_of (order_amounts (shrink_totals nodes)) ≡ None → None ≡ some_if (list_all fits (glue_totals nodes)) (glue_set excess nodes)
unfolding dimens_of
glue-refused-shrink excess nodes refused =
    let some : list_all fits (each_order (shrink_totals nodes)) ≡ false = some_if-none _ (order_dimens (shrink_totals nodes)) refused in
    let all : list_all fits (glue_totals nodes) ≡ false =
    list_all-append fits (each_order (stretch_totals nodes)) (each_order (shrink_totals nodes)) ∙ rw some (and-false (list_all fits (each_order (stretch_totals nodes)))) in
    rw all (sym (some_if-false _))

-- If one number does not fit, not all numbers fit.
unfit-first : (a b : Bool) → a ≡ false → (a && b) ≡ false
unfit-first a b unfit = ap (λ (x : Bool). x && b) unfit

false-second : (a b : Bool) → (a && (b && false)) ≡ false
false-second a b = ap (λ (x : Bool). a && x) (and-false b) ∙ and-false a

false-third : (a b c : Bool) → (a && (b && (c && false))) ≡ false
false-third a b c = ap (λ (x : Bool). a && (b && x)) (and-false c) ∙ false-second a b

false-fourth : (a b c d : Bool) → (a && (b && (c && (d && false)))) ≡ false
false-fourth a b c d = ap (λ (x : Bool). a && (b && (c && x))) (and-false d) ∙ false-third a b c

unfit-third : (a b c d : Bool) → c ≡ false → (a && (b && (c && d))) ≡ false
unfit-third a b c d unfit = ap (λ (x : Bool). a && (b && (x && d))) unfit ∙ false-second a b

unfit-fourth : (a b c d e : Bool) → d ≡ false → (a && (b && (c && (d && e)))) ≡ false
unfit-fourth a b c d e unfit = ap (λ (x : Bool). a && (b && (c && (x && e)))) unfit ∙ false-third a b c

unfit-last : (a b c d e : Bool) → e ≡ false → (a && (b && (c && (d && e)))) ≡ false
unfit-last a b c d e unfit = ap (λ (x : Bool). a && (b && (c && (d && x)))) unfit ∙ false-fourth a b c d

some_if-all : {A : Type 0} (b : Bool) (x : A) → b ≡ true → Some x ≡ some_if b x
some_if-all b x e = rw e (sym (some_if-true x))

pub hbox-given :
    (target : Target) (nodes : List Node) (natural width height depth : ℤ) (set : GlueSet)
    → dimension_of (total item_width nodes) ≡ Some natural
    → dimension_of (target_size target natural) ≡ Some width
    → dimension_of (greatest_of height_above_baseline nodes) ≡ Some height
    → dimension_of (greatest_of depth_below_baseline nodes) ≡ Some depth
    → some_if (list_all fits (glue_totals nodes)) (glue_set (width -ℤ natural) nodes) ≡ Some set
    → Some (record { kind = Horizontal; width = width; height = height; depth = depth; setting = set.setting; badness = set.badness })
    ≡ some_if (list_all fits (hbox_numbers target nodes)) (hbox_shell target nodes)
unfolding hbox_shell glue_set
hbox-given target nodes natural width height depth set n w h d s =
    let n' = dimension_found (total item_width nodes) natural n in
    let w' = dimension_found (target_size target natural) width w in
    let h' = dimension_found (greatest_of height_above_baseline nodes) height h in
    let d' = dimension_found (greatest_of depth_below_baseline nodes) depth d in
    let s' = some_if-some (list_all fits (glue_totals nodes)) (glue_set (width -ℤ natural) nodes) set s in
    let width-fits : fits (hbox_width target nodes) ≡ true = rw n'.1 w'.0 in
    let width-is : hbox_width target nodes ≡ width = rw n'.1 w'.1 in
    let set-is : glue_set (hbox_excess target nodes) nodes ≡ set = rw (width-is, n'.1) s'.1 in
    let all : list_all fits (hbox_numbers target nodes) ≡ true = rw (n'.0, width-fits, h'.0, d'.0) s'.0 in
    let setting-is : setting_of (hbox_excess target nodes) nodes ≡ set.setting = ap (λ (g : GlueSet). g.setting) set-is in
    let badness-is : hbox_badness target nodes ≡ set.badness = ap (λ (g : GlueSet). g.badness) set-is in
    rw (← h'.1, ← d'.1, ← width-is, ← setting-is, ← badness-is) (some_if-all _ _ all)

-- If one of its numbers does not fit, there is no box.
some_if-none-of : {A : Type 0} (b : Bool) (x : A) → b ≡ false → None ≡ some_if b x
some_if-none-of b x unfit = rw unfit (sym (some_if-false x))

pub hbox-unfit-width :
    (target : Target) (nodes : List Node)
    → dimension_of (total item_width nodes) ≡ None
    → None ≡ some_if (list_all fits (hbox_numbers target nodes)) (hbox_shell target nodes)
hbox-unfit-width target nodes n = some_if-none-of _ _ (unfit-first _ _ (dimension_missing (total item_width nodes) n))

pub hbox-unfit-height :
    (target : Target) (nodes : List Node)
    → dimension_of (greatest_of height_above_baseline nodes) ≡ None
    → None ≡ some_if (list_all fits (hbox_numbers target nodes)) (hbox_shell target nodes)
hbox-unfit-height target nodes h = some_if-none-of _ _ (unfit-third _ _ _ _ (dimension_missing (greatest_of height_above_baseline nodes) h))

pub hbox-unfit-depth :
    (target : Target) (nodes : List Node)
    → dimension_of (greatest_of depth_below_baseline nodes) ≡ None
    → None ≡ some_if (list_all fits (hbox_numbers target nodes)) (hbox_shell target nodes)
hbox-unfit-depth target nodes d =
    let unfit = unfit-fourth (fits (total item_width nodes)) (fits (hbox_width target nodes)) (fits (greatest_of height_above_baseline nodes)) (fits (greatest_of depth_below_baseline nodes)) (list_all fits (glue_totals nodes))
    (dimension_missing (greatest_of depth_below_baseline nodes) d) in
    some_if-none-of (list_all fits (hbox_numbers target nodes)) (hbox_shell target nodes) unfit

pub hbox-unfit-glue :
    (target : Target) (nodes : List Node) (set : GlueSet)
    → some_if (list_all fits (glue_totals nodes)) set ≡ None
    → None ≡ some_if (list_all fits (hbox_numbers target nodes)) (hbox_shell target nodes)
hbox-unfit-glue target nodes set s =
    let unfit = unfit-last (fits (total item_width nodes)) (fits (hbox_width target nodes)) (fits (greatest_of height_above_baseline nodes)) (fits (greatest_of depth_below_baseline nodes)) (list_all fits (glue_totals nodes))
    (some_if-none _ set s) in
    some_if-none-of (list_all fits (hbox_numbers target nodes)) (hbox_shell target nodes) unfit

pub hbox-refused :
    (target : Target) (nodes : List Node) (natural : ℤ)
    → dimension_of (total item_width nodes) ≡ Some natural
    → dimension_of (target_size target natural) ≡ None
    → None ≡ some_if (list_all fits (hbox_numbers target nodes)) (hbox_shell target nodes)
hbox-refused target nodes natural n w =
    let n' = dimension_found (total item_width nodes) natural n in
    let width-unfit : fits (hbox_width target nodes) ≡ false = rw n'.1 (dimension_missing (target_size target natural) w) in
    let some : list_all fits (hbox_numbers target nodes) ≡ false = rw (n'.0, width-unfit) refl in
    rw some (sym (some_if-false _))

pub vbox-given :
    (target : Target) (limit : ℤ) (nodes : List Node) (natural width height depth : ℤ) (set : GlueSet)
    → depth ≡ vbox_depth limit nodes
    → dimension_of (total downward nodes -ℤ depth) ≡ Some natural
    → dimension_of (target_size target natural) ≡ Some height
    → dimension_of (greatest_of breadth nodes) ≡ Some width
    → some_if (list_all fits (glue_totals nodes)) (glue_set (height -ℤ natural) nodes) ≡ Some set
    → Within 1073741823 depth
    → Some (record { kind = Vertical; width = width; height = height; depth = depth; setting = set.setting; badness = set.badness })
    ≡ some_if (list_all fits (vbox_numbers target limit nodes)) (vbox_shell target limit nodes)
unfolding vbox_shell glue_set
vbox-given target limit nodes natural width height depth set d n h w s deep =
    let n' = dimension_found (total downward nodes -ℤ depth) natural n in
    let h' = dimension_found (target_size target natural) height h in
    let w' = dimension_found (greatest_of breadth nodes) width w in
    let s' = some_if-some (list_all fits (glue_totals nodes)) (glue_set (height -ℤ natural) nodes) set s in
    let natural-is : natural_height limit nodes ≡ natural = rw (← d) n'.1 in
    let natural-fits : fits (natural_height limit nodes) ≡ true = rw (← d) n'.0 in
    let height-fits : fits (vbox_height target limit nodes) ≡ true = rw natural-is h'.0 in
    let height-is : vbox_height target limit nodes ≡ height = rw natural-is h'.1 in
    let set-is : glue_set (vbox_excess target limit nodes) nodes ≡ set = rw (height-is, natural-is) s'.1 in
    let deep-fits : fits (vbox_depth limit nodes) ≡ true = rw (← d) (dimension_fits depth deep) in
    let all : list_all fits (vbox_numbers target limit nodes) ≡ true = rw (natural-fits, height-fits, deep-fits, w'.0) s'.0 in
    let setting-is : setting_of (vbox_excess target limit nodes) nodes ≡ set.setting = ap (λ (g : GlueSet). g.setting) set-is in
    let badness-is : vbox_badness target limit nodes ≡ set.badness = ap (λ (g : GlueSet). g.badness) set-is in
    rw (← w'.1, d, ← height-is, ← setting-is, ← badness-is) (some_if-all _ _ all)

pub vbox-unfit-natural :
    (target : Target) (limit : ℤ) (nodes : List Node) (depth : ℤ)
    → depth ≡ vbox_depth limit nodes
    → dimension_of (total downward nodes -ℤ depth) ≡ None
    → None ≡ some_if (list_all fits (vbox_numbers target limit nodes)) (vbox_shell target limit nodes)
vbox-unfit-natural target limit nodes depth d n =
    let unfit : fits (natural_height limit nodes) ≡ false = ap (λ (z : ℤ). fits (total downward nodes -ℤ z)) (sym d) ∙ dimension_missing _ n in
    some_if-none-of _ _ (unfit-first _ _ unfit)

pub vbox-unfit-width :
    (target : Target) (limit : ℤ) (nodes : List Node)
    → dimension_of (greatest_of breadth nodes) ≡ None
    → None ≡ some_if (list_all fits (vbox_numbers target limit nodes)) (vbox_shell target limit nodes)
vbox-unfit-width target limit nodes w =
    let unfit = unfit-fourth (fits (natural_height limit nodes)) (fits (vbox_height target limit nodes)) (fits (vbox_depth limit nodes)) (fits (greatest_of breadth nodes)) (list_all fits (glue_totals nodes))
    (dimension_missing (greatest_of breadth nodes) w) in
    some_if-none-of (list_all fits (vbox_numbers target limit nodes)) (vbox_shell target limit nodes) unfit

pub vbox-unfit-glue :
    (target : Target) (limit : ℤ) (nodes : List Node) (set : GlueSet)
    → some_if (list_all fits (glue_totals nodes)) set ≡ None
    → None ≡ some_if (list_all fits (vbox_numbers target limit nodes)) (vbox_shell target limit nodes)
vbox-unfit-glue target limit nodes set s =
    let unfit = unfit-last (fits (natural_height limit nodes)) (fits (vbox_height target limit nodes)) (fits (vbox_depth limit nodes)) (fits (greatest_of breadth nodes)) (list_all fits (glue_totals nodes))
    (some_if-none _ set s) in
    some_if-none-of (list_all fits (vbox_numbers target limit nodes)) (vbox_shell target limit nodes) unfit

pub some_if-refused : {A : Type 0} (z : ℤ) (y : A) → dimension_of z ≡ None → None ≡ some_if (fits z) y
some_if-refused z y e = rw (dimension_missing z e) (sym (some_if-false y))

pub vbox-refused :
    (target : Target) (limit : ℤ) (nodes : List Node) (natural depth : ℤ)
    → depth ≡ vbox_depth limit nodes
    → dimension_of (total downward nodes -ℤ depth) ≡ Some natural
    → dimension_of (target_size target natural) ≡ None
    → None ≡ some_if (list_all fits (vbox_numbers target limit nodes)) (vbox_shell target limit nodes)
vbox-refused target limit nodes natural depth d n h =
    let n' = dimension_found (total downward nodes -ℤ depth) natural n in
    let natural-is : natural_height limit nodes ≡ natural = rw (← d) n'.1 in
    let natural-fits : fits (natural_height limit nodes) ≡ true = rw (← d) n'.0 in
    let height-unfit : fits (vbox_height target limit nodes) ≡ false = rw natural-is (dimension_missing (target_size target natural) h) in
    let some : list_all fits (vbox_numbers target limit nodes) ≡ false = rw (natural-fits, height-unfit) refl in
    rw some (sym (some_if-false _))

pub vtop-given :
    (shell : Shell) (height depth : ℤ)
    → dimension_of ((vtop_shell shell height).depth) ≡ Some depth
    → Some (record { kind = shell.kind; width = shell.width; height = height; depth = depth; setting = shell.setting; badness = shell.badness })
    ≡ some_if (fits ((vtop_shell shell height).depth)) (vtop_shell shell height)
unfolding vtop_shell
vtop-given shell height depth d =
    let d' = dimension_found ((vtop_shell shell height).depth) depth d in
    rw (← d'.1) (some_if-all _ _ d'.0)

vtop-depth-is :
    (target : Target) (limit : ℤ) (nodes : List Node)
    → (vtop_shell (vbox_shell target limit nodes) (first_height nodes)).depth ≡ vtop_depth target limit nodes
unfolding vtop_shell vbox_shell
vtop-depth-is target limit nodes = refl

pub vtop-found :
    (target : Target) (limit : ℤ) (nodes : List Node) (shell : Shell) (height : ℤ) (result : Option Shell)
    → some_if (list_all fits (vbox_numbers target limit nodes)) (vbox_shell target limit nodes) ≡ Some shell
    → height ≡ first_height nodes
    → Within 1073741823 height
    → result ≡ some_if (fits ((vtop_shell shell height).depth)) (vtop_shell shell height)
    → result ≡ some_if (list_all fits (vtop_numbers target limit nodes)) (vtop_shell (vbox_shell target limit nodes) (first_height nodes))
vtop-found target limit nodes shell height result s h high r =
    let s' = some_if-some (list_all fits (vbox_numbers target limit nodes)) (vbox_shell target limit nodes) shell s in
    let high-fits : fits (first_height nodes) ≡ true = rw (← h) (dimension_fits height high) in
    let deep : ℤ = vtop_depth target limit nodes in
    let all : list_all fits (vtop_numbers target limit nodes) ≡ fits deep =
    list_all-append fits (vbox_numbers target limit nodes) (first_height nodes ∷ deep ∷ []) ∙ rw (s'.0, high-fits) (and-true (fits deep)) in
    let all-fit : list_all fits (vtop_numbers target limit nodes) ≡ fits ((vtop_shell (vbox_shell target limit nodes) (first_height nodes)).depth) =
    all ∙ ap fits (sym (vtop-depth-is target limit nodes)) in
    r ∙ rw (all-fit, s'.1, h) refl

-- The same where the vbox may be missing: then there is no vtop.
pub vtop-of :
    (target : Target) (limit : ℤ) (nodes : List Node) (given : Option Shell) (height : ℤ) (result : Option Shell)
    → given ≡ some_if (list_all fits (vbox_numbers target limit nodes)) (vbox_shell target limit nodes)
    → height ≡ first_height nodes
    → Within 1073741823 height
    → (given ≡ None → result ≡ None)
    → IfSome given (λ shell. result ≡ some_if (fits ((vtop_shell shell height).depth)) (vtop_shell shell height))
    → result ≡ some_if (list_all fits (vtop_numbers target limit nodes)) (vtop_shell (vbox_shell target limit nodes) (first_height nodes))
vtop-of target limit nodes None height result g h high none value =
    let unfit : list_all fits (vbox_numbers target limit nodes) ≡ false = some_if-none _ (vbox_shell target limit nodes) (sym g) in
    let all : list_all fits (vtop_numbers target limit nodes) ≡ false =
    list_all-append fits (vbox_numbers target limit nodes) (first_height nodes ∷ vtop_depth target limit nodes ∷ []) ∙ rw unfit refl in
    none refl ∙ some_if-none-of _ _ all
vtop-of target limit nodes (Some shell) height result g h high none value = vtop-found target limit nodes shell height result (sym g) h high value
