-- The items of a box between two places of its list.
use Rattle.std.proofs.Common.{◌≡◌, ◌∙◌, ◌+◌, ℕ, List, [], ◌∷◌, refl, ap, ap₂, sym, subst, arith}
use Rattle.std.specs.Prelude.{ℤ, pos, ◌+ℤ◌, Bool, true, false, ◌&&◌, if◌then◌else◌, Option, Some, None}
use Rattle.std.specs.List.{list_all}
use Rattle.std.proofs.lemmas.Int.{ints}
use Rattle.node_core.specs.declared.tree.Kind.{Kind}
use Rattle.node_core.specs.declared.tree.Kind.TheVariants.{Horizontal, Vertical}
use Rattle.node_core.specs.declared.tree.Node.{Node}
use Rattle.node_core.specs.declared.tree.Glyph.{Glyph}
use Rattle.node_core.specs.declared.tree.Rule.{Rule}
use Rattle.node_core.specs.declared.tree.Node.TheVariants as nodes
use Rattle.node_core.specs.declared.tree.BoxNode.{BoxNode}
use Rattle.node_core.specs.declared.tree.Setting.{Setting}
use Rattle.node_core.specs.declared.tree.Setting.TheVariants as settings
use Rattle.pack_core.specs.Items.{advance, own_size}
use Rattle.scaled_core.specs.Dimensions.{fits, dimension_of}
use Rattle.pack_core.specs.Places.{share, set_by}
use Rattle.pack_core.specs.Cursors.{WalkSums, one_more, moved_on, place_at}
use Rattle.page_core.specs.declared.placing.Point.{Point}
use Rattle.scaled_core.specs.Mark as body
use Rattle.page_core.specs.Marks.{right_at, down_at, rule_below, rule_tall, rule_wide, glyph_mark, box_h, box_v, points_and_sizes}
use Rattle.page_core.specs.DrawnPages.{DrawnPage, marked, in_front}
use Rattle.page_core.specs.declared.placing.PlacedItem.{PlacedItem}
use Rattle.std.specs.Option.{IfSome, OnSome, option_map}
use Rattle.page_core.specs.Placing.{marked_of, fitting_point, Reaches, reference_h, reference_v}
use Rattle.page_core.specs.Private.Placing.{level_with, point_in, numbers_between, marked_at, is_rigid, is_blank}

-- A point is at its numbers.
pub point-is : (h v : ℤ) (p : Point ℤ) → fitting_point h v ≡ Some p → (p.h ≡ h) × (p.v ≡ v)
point-is h v p is = by_test (fits h && fits v) is
  where
    by_test : (b : Bool) → (if b then Some (record { h = h; v = v }) else None) ≡ Some p → (p.h ≡ h) × (p.v ≡ v)
    by_test true is = (cc, cc)
    by_test false is = absurd (cc)

pub level-at : (h v : ℤ) (p : Point ℤ) → fitting_point h v ≡ Some p → fitting_point h v ≡ Some (level_with p.v p.h)
level-at h v p is = by_test (fits h && fits v) (point-is h v p is) is
  where
    by_test :
        (b : Bool) → (p.h ≡ h) × (p.v ≡ v) → (if b then Some (record { h = h; v = v }) else None) ≡ Some p
        → (if b then Some (level_with v h) else None) ≡ Some (level_with p.v p.h)
    by_test true (right, below) there = ap₂ (λ (a b : ℤ). Some (level_with b a)) (sym right) (sym below)
    by_test false both there = absurd (cc)

-- Where there is no point, one of the numbers does not fit.
no_point : (h v : ℤ) → fitting_point h v ≡ None → (fits h && fits v) ≡ false
no_point h v is = by_test (record { h = h; v = v }) (fits h && fits v) is
  where
    by_test : (p : Point ℤ) (b : Bool) → (if b then Some p else None) ≡ None → b ≡ false
    by_test p true is = absurd (cc)
    by_test p false is = refl

third_and : (a b c d e : Bool) → (c && d) ≡ false → (a && (b && (c && (d && e)))) ≡ false
third_and false b c d e none = refl
third_and true false c d e none = refl
third_and true true false d e none = refl
third_and true true true false e none = refl
third_and true true true true e none = absurd (cc)

third_fits : (a b c d : ℤ) (rest : List ℤ) → (fits c && fits d) ≡ false → list_all fits (a ∷ b ∷ c ∷ d ∷ rest) ≡ false
third_fits a b c d rest none = third_and (fits a) (fits b) (fits c) (fits d) (list_all fits rest) none

-- An item whose next place does not fit.
pub between-none : (b : BoxNode) (h v place next : ℤ) (x : Node) → point_in b h v next ≡ None → list_all fits (numbers_between b h v place next x) ≡ false
between-none b h v place next x is = by_node x
  where
    x0 : ℤ
    x0 = right_at b.kind h place

    y0 : ℤ
    y0 = down_at b.kind v place

    x1 : ℤ
    x1 = right_at b.kind h next

    y1 : ℤ
    y1 = down_at b.kind v next

    by_node : (x : Node) → list_all fits (points_and_sizes b x0 y0 x1 y1 x) ≡ false
    by_node (nodes.Glyph g) = third_fits x0 y0 x1 y1 [] (no_point x1 y1 is)
    by_node (nodes.FontKern w) = third_fits x0 y0 x1 y1 [] (no_point x1 y1 is)
    by_node (nodes.Kern w) = third_fits x0 y0 x1 y1 [] (no_point x1 y1 is)
    by_node (nodes.Glue g) = third_fits x0 y0 x1 y1 [] (no_point x1 y1 is)
    by_node (nodes.Penalty p) = third_fits x0 y0 x1 y1 [] (no_point x1 y1 is)
    by_node (nodes.Special text) = third_fits x0 y0 x1 y1 [] (no_point x1 y1 is)
    by_node (nodes.Rule r) = third_fits x0 y0 x1 y1 ((y0 +ℤ rule_below b.kind b r) ∷ rule_tall b.kind b r ∷ rule_wide b.kind b r ∷ []) (no_point x1 y1 is)
    by_node (nodes.Box shift inner) = third_fits x0 y0 x1 y1 (box_h b.kind x0 shift ∷ box_v b.kind y0 shift inner.height ∷ []) (no_point x1 y1 is)

-- An item whose two places fit.
pub between-points :
    (b : BoxNode) (h v place next : ℤ) (at after : Point ℤ) (x : Node) → point_in b h v place ≡ Some at → point_in b h v next ≡ Some after
    → numbers_between b h v place next x ≡ points_and_sizes b at.h at.v after.h after.v x
between-points b h v place next at after x here there =
    let p = point-is (right_at b.kind h place) (down_at b.kind v place) at here in
    let q = point-is (right_at b.kind h next) (down_at b.kind v next) after there in
    cc (p.0, p.1, q.0, q.1)

pub marks-point :
    (b : BoxNode) (h v place : ℤ) (at : Point ℤ) (x : Node) (rest : DrawnPage) → point_in b h v place ≡ Some at
    → marked_at b h v place x rest ≡ marked_of b at.h at.v x rest
marks-point b h v place at x rest here = let p = point-is (right_at b.kind h place) (down_at b.kind v place) at here in cc (p.0, p.1)

-- The drawn marks of a glyph of a horizontal list at a position.
pub marks-glyph :
    (b : BoxNode) (h v place : ℤ) (at : Point ℤ) (g : Glyph) (rest : DrawnPage) → b.kind ≡ Horizontal → point_in b h v place ≡ Some at
    → marked_at b h v place (nodes.Glyph g) rest ≡ marked (body.Glyph (pos g.slot) (pos g.code) at.h at.v) g.width rest
marks-glyph b h v place at g rest across here =
    marks-point b h v place at (nodes.Glyph g) rest here
    ∙ ap (λ (kind : Kind). in_front (glyph_mark kind at.h at.v g) g.width rest) across

-- A point whose height fits is one where the value of h fits.
pub level-point : (h v : ℤ) → fits v ≡ true → fitting_point h v ≡ option_map (level_with v) (dimension_of h)
unfolding dimension_of
level-point h v is = by_test (fits h) (fits v) is
  where
    by_test :
        (a b : Bool) → b ≡ true
        → (if a && b then Some (level_with v h) else None) ≡ option_map (level_with v) (if a then Some h else None)
    by_test true true is = refl
    by_test false true is = refl
    by_test a false is = absurd (cc)

-- Where there is a point, both numbers fit.
some_point : (h v : ℤ) (p : Point ℤ) → fitting_point h v ≡ Some p → (fits h && fits v) ≡ true
some_point h v p is = by_test (fits h && fits v) is
  where
    by_test : (b : Bool) → (if b then Some (record { h = h; v = v }) else None) ≡ Some p → b ≡ true
    by_test true is = refl
    by_test false is = absurd (cc)

all_four : (a b c d : Bool) → (a && b) ≡ true → (c && d) ≡ true → (a && (b && (c && (d && true)))) ≡ true
all_four true true true true here there = refl
all_four false b c d here there = absurd (cc)
all_four true false c d here there = absurd (cc)
all_four true true false d here there = absurd (cc)
all_four true true true false here there = absurd (cc)

four_fit :
    (b : BoxNode) (h v place next : ℤ) (at after : Point ℤ) → point_in b h v place ≡ Some at → point_in b h v next ≡ Some after
    → list_all fits (right_at b.kind h place ∷ down_at b.kind v place ∷ right_at b.kind h next ∷ down_at b.kind v next ∷ []) ≡ true
four_fit b h v place next at after here there =
    let x0 = right_at b.kind h place in
    let y0 = down_at b.kind v place in
    let x1 = right_at b.kind h next in
    let y1 = down_at b.kind v next in
    all_four (fits x0) (fits y0) (fits x1) (fits y1) (some_point x0 y0 at here) (some_point x1 y1 after there)

-- The numbers of a glyph fit where its places do.
pub glyph-fits :
    (b : BoxNode) (h v place next : ℤ) (at after : Point ℤ) (g : Glyph) → point_in b h v place ≡ Some at → point_in b h v next ≡ Some after
    → list_all fits (numbers_between b h v place next (nodes.Glyph g)) ≡ true
glyph-fits b h v place next at after g here there = four_fit b h v place next at after here there

-- The same for an item without a mark.
pub blank-fits :
    (b : BoxNode) (h v place next : ℤ) (at after : Point ℤ) (x : Node) → is_blank x ≡ true → point_in b h v place ≡ Some at → point_in b h v next ≡ Some after
    → list_all fits (numbers_between b h v place next x) ≡ true
blank-fits b h v place next at after (nodes.FontKern w) is here there = four_fit b h v place next at after here there
blank-fits b h v place next at after (nodes.Kern w) is here there = four_fit b h v place next at after here there
blank-fits b h v place next at after (nodes.Glue g) is here there = four_fit b h v place next at after here there
blank-fits b h v place next at after (nodes.Penalty p) is here there = four_fit b h v place next at after here there
blank-fits b h v place next at after (nodes.Glyph g) is here there = absurd (cc)
blank-fits b h v place next at after (nodes.Special text) is here there = absurd (cc)
blank-fits b h v place next at after (nodes.Rule r) is here there = absurd (cc)
blank-fits b h v place next at after (nodes.Box shift inner) is here there = absurd (cc)

-- Such an item has no drawn marks, and its reference point is its place.
pub blank-marks : (b : BoxNode) (h v : ℤ) (x : Node) (rest : DrawnPage) → is_blank x ≡ true → marked_of b h v x rest ≡ rest
blank-marks b h v (nodes.FontKern w) rest is = refl
blank-marks b h v (nodes.Kern w) rest is = refl
blank-marks b h v (nodes.Glue g) rest is = refl
blank-marks b h v (nodes.Penalty p) rest is = refl
blank-marks b h v (nodes.Glyph g) rest is = absurd (cc)
blank-marks b h v (nodes.Special text) rest is = absurd (cc)
blank-marks b h v (nodes.Rule r) rest is = absurd (cc)
blank-marks b h v (nodes.Box shift inner) rest is = absurd (cc)

pub blank-place : (kind : Kind) (h v : ℤ) (x : Node) → is_blank x ≡ true → (reference_h kind h x ≡ h) × (reference_v kind v x ≡ v)
blank-place kind h v (nodes.FontKern w) is = (refl, refl)
blank-place kind h v (nodes.Kern w) is = (refl, refl)
blank-place kind h v (nodes.Glue g) is = (refl, refl)
blank-place kind h v (nodes.Penalty p) is = (refl, refl)
blank-place kind h v (nodes.Glyph g) is = absurd (cc)
blank-place kind h v (nodes.Special text) is = absurd (cc)
blank-place kind h v (nodes.Rule r) is = absurd (cc)
blank-place kind h v (nodes.Box shift inner) is = absurd (cc)

-- A glyph or a rule is independent of the glue setting.
share_glyph : (setting : Setting) (g : Glyph) → share setting (nodes.Glyph g) ≡ pos 0
share_glyph settings.Natural g = refl
share_glyph (settings.Stretch order ratio) g = refl
share_glyph (settings.Shrink order ratio) g = refl

share_rule : (setting : Setting) (r : Rule) → share setting (nodes.Rule r) ≡ pos 0
share_rule settings.Natural r = refl
share_rule (settings.Stretch order ratio) r = refl
share_rule (settings.Shrink order ratio) r = refl

no_share : (setting : Setting) (shares part : ℤ) → part ≡ pos 0 → set_by setting (shares +ℤ part) ≡ set_by setting shares
no_share setting shares part none = ap (set_by setting) (omega (arith, ints, none))

right_more :
    (setting : Setting) (from : WalkSums) (h by part : ℤ) → part ≡ pos 0
    → h +ℤ ((from.natural +ℤ by) +ℤ set_by setting (from.shares +ℤ part)) ≡ (h +ℤ (from.natural +ℤ set_by setting from.shares)) +ℤ by
right_more setting from h by part none = omega (arith, ints, no_share setting from.shares part none)

right_by :
    (setting : Setting) (from : WalkSums) (h by part : ℤ) → part ≡ pos 0 → (x y : ℤ)
    → x ≡ h +ℤ place_at setting from → y ≡ h +ℤ ((from.natural +ℤ by) +ℤ set_by setting (from.shares +ℤ part)) → y ≡ x +ℤ by
right_by setting from h by part none x y here there = there ∙ (right_more setting from h by part none ∙ sym (ap (λ z. z +ℤ by) here))

-- The item after it is therefore where h is after it.
pub reach_by :
    (kind : Kind) (setting : Setting) (from : WalkSums) (h at after : ℤ) (x : Node) → at ≡ right_at kind h (place_at setting from)
    → after ≡ right_at kind h (place_at setting (one_more kind setting from x)) → Reaches kind at after x
reach_by Horizontal setting from h at after (nodes.Glyph g) first next = right_by setting from h g.width (share setting (nodes.Glyph g)) (share_glyph setting g) at after first next
reach_by Vertical setting from h at after (nodes.Glyph g) first next = next ∙ sym first
reach_by kind setting from h at after (nodes.FontKern w) first next = tt
reach_by kind setting from h at after (nodes.Kern w) first next = tt
reach_by kind setting from h at after (nodes.Glue g) first next = tt
reach_by kind setting from h at after (nodes.Penalty n) first next = tt
reach_by kind setting from h at after (nodes.Special text) first next = tt
reach_by Horizontal setting from h at after (nodes.Rule r) first next = right_by setting from h (own_size r.width) (share setting (nodes.Rule r)) (share_rule setting r) at after first next
reach_by Vertical setting from h at after (nodes.Rule r) first next = next ∙ sym first
reach_by kind setting from h at after (nodes.Box shift inner) first next = tt

pub reaches :
    (b : BoxNode) (h v : ℤ) (from : WalkSums) (at after : Point ℤ) (x : Node) → point_in b h v (place_at b.setting from) ≡ Some at
    → point_in b h v (place_at b.setting (one_more b.kind b.setting from x)) ≡ Some after → Reaches b.kind at.h after.h x
reaches b h v from at after x here there =
    let p = point-is (right_at b.kind h (place_at b.setting from)) (down_at b.kind v (place_at b.setting from)) at here in
    let next = place_at b.setting (one_more b.kind b.setting from x) in
    let q = point-is (right_at b.kind h next) (down_at b.kind v next) after there in
    reach_by b.kind b.setting from h at.h after.h x p.0 q.0

-- An item other than glue is independent of the glue setting.
share_rigid : (setting : Setting) (x : Node) → is_rigid x ≡ true → share setting x ≡ pos 0
share_rigid setting (nodes.Glue g) is = absurd (cc)
share_rigid settings.Natural (nodes.Glyph g) is = refl
share_rigid settings.Natural (nodes.FontKern w) is = refl
share_rigid settings.Natural (nodes.Kern w) is = refl
share_rigid settings.Natural (nodes.Penalty n) is = refl
share_rigid settings.Natural (nodes.Special text) is = refl
share_rigid settings.Natural (nodes.Rule r) is = refl
share_rigid settings.Natural (nodes.Box shift b) is = refl
share_rigid (settings.Stretch order ratio) (nodes.Glyph g) is = refl
share_rigid (settings.Stretch order ratio) (nodes.FontKern w) is = refl
share_rigid (settings.Stretch order ratio) (nodes.Kern w) is = refl
share_rigid (settings.Stretch order ratio) (nodes.Penalty n) is = refl
share_rigid (settings.Stretch order ratio) (nodes.Special text) is = refl
share_rigid (settings.Stretch order ratio) (nodes.Rule r) is = refl
share_rigid (settings.Stretch order ratio) (nodes.Box shift b) is = refl
share_rigid (settings.Shrink order ratio) (nodes.Glyph g) is = refl
share_rigid (settings.Shrink order ratio) (nodes.FontKern w) is = refl
share_rigid (settings.Shrink order ratio) (nodes.Kern w) is = refl
share_rigid (settings.Shrink order ratio) (nodes.Penalty n) is = refl
share_rigid (settings.Shrink order ratio) (nodes.Special text) is = refl
share_rigid (settings.Shrink order ratio) (nodes.Rule r) is = refl
share_rigid (settings.Shrink order ratio) (nodes.Box shift b) is = refl

abbrev reaching : (natural shares : ℤ) (passed : ℕ) → WalkSums
reaching natural shares passed = record { natural = natural; shares = shares; passed = passed }

-- After such an item only the distance of the walk and the number of passed items change.
pub rigid_more :
    (kind : Kind) (setting : Setting) (from : WalkSums) (x : Node) (distance : ℤ) → is_rigid x ≡ true → distance ≡ advance kind x
    → moved_on from distance ≡ one_more kind setting from x
rigid_more kind setting from x distance rigid same =
    ap₂ (λ (natural shares : ℤ). reaching natural shares (from.passed + 1)) (ap (λ (n : ℤ). from.natural +ℤ n) same) (omega (arith, ints, share_rigid setting x rigid))

step_after :
    (kind : Kind) (setting : Setting) (from : WalkSums) (h v x y by part : ℤ) → part ≡ pos 0
    → x ≡ right_at kind h (place_at setting from) → y ≡ down_at kind v (place_at setting from)
    → fitting_point (right_at kind x by) (down_at kind y by)
    ≡ fitting_point (right_at kind h ((from.natural +ℤ by) +ℤ set_by setting (from.shares +ℤ part))) (down_at kind v ((from.natural +ℤ by) +ℤ set_by setting (from.shares +ℤ part)))
step_after Horizontal setting from h v x y by part none across down =
    let next = (from.natural +ℤ by) +ℤ set_by setting (from.shares +ℤ part) in
    ap (λ z. fitting_point z y) (sym (right_by setting from h by part none x (h +ℤ next) across refl)) ∙ ap (λ z. fitting_point (h +ℤ next) z) down
step_after Vertical setting from h v x y by part none across down =
    let next = (from.natural +ℤ by) +ℤ set_by setting (from.shares +ℤ part) in
    ap (λ z. fitting_point x z) (sym (right_by setting from v by part none y (v +ℤ next) down refl)) ∙ ap (λ z. fitting_point z (v +ℤ next)) across

-- The position after an item that is independent of the setting is its own plus the advance of the item.
pub rigid_after :
    (b : BoxNode) (h v : ℤ) (from : WalkSums) (at : Point ℤ) (x : Node) → is_rigid x ≡ true → point_in b h v (place_at b.setting from) ≡ Some at
    → fitting_point (right_at b.kind at.h (advance b.kind x)) (down_at b.kind at.v (advance b.kind x))
    ≡ point_in b h v (place_at b.setting (one_more b.kind b.setting from x))
rigid_after b h v from at x rigid here =
    let p = point-is (right_at b.kind h (place_at b.setting from)) (down_at b.kind v (place_at b.setting from)) at here in
    step_after b.kind b.setting from h v at.h at.v (advance b.kind x) (share b.setting x) (share_rigid b.setting x rigid) p.0 p.1

-- The facts about an item that was found, stated in another way.
pub found_so : (P Q : PlacedItem → Type 0) → ((s : PlacedItem) → P s → Q s) → (result : Option PlacedItem) → IfSome result P → IfSome result Q
found_so P Q so None is = tt
found_so P Q so (Some s) is = so s is

-- The facts about a place that was found.
pub told : (P : Point ℤ → Type 0) (found : Option (Point ℤ)) (at : Point ℤ) → found ≡ Some at → IfSome found P → P at
told P found at is holds = subst (λ (f : Option (Point ℤ)). IfSome f P) is holds

pub told_on : (P : Type 0) (found : Option (Point ℤ)) (at : Point ℤ) → found ≡ Some at → OnSome found P → P
told_on P found at is holds = subst (λ (f : Option (Point ℤ)). OnSome f P) is holds

-- The facts about an index that was found.
pub told_index : (P : ℕ → Type 0) (found : Option ℕ) (n : ℕ) → found ≡ Some n → IfSome found P → P n
told_index P found n is holds = subst (λ (f : Option ℕ). IfSome f P) is holds

pub told_so : (P : Type 0) (found : Option ℕ) (n : ℕ) → found ≡ Some n → OnSome found P → P
told_so P found n is holds = subst (λ (f : Option ℕ). OnSome f P) is holds

-- The item after a glyph of a horizontal list is where h is after it.
pub ends :
    (b : BoxNode) (h v : ℤ) (from : WalkSums) (at after : Point ℤ) (g : Glyph) → b.kind ≡ Horizontal → point_in b h v (place_at b.setting from) ≡ Some at
    → point_in b h v (place_at b.setting (one_more b.kind b.setting from (nodes.Glyph g))) ≡ Some after → after.h ≡ at.h +ℤ g.width
ends b h v from at after g across here there =
    reaches b h v from at after (nodes.Glyph g) here there ∙ ap (λ (kind : Kind). right_at kind at.h g.width) across

-- Where there is a point, its height fits.
height_fits : (h v : ℤ) (p : Point ℤ) → fitting_point h v ≡ Some p → fits p.v ≡ true
height_fits h v p is = ap fits (point-is h v p is).1 ∙ by_test (fits h) (fits v) (some_point h v p is)
  where
    by_test : (a b : Bool) → (a && b) ≡ true → b ≡ true
    by_test true b both = both
    by_test false b both = absurd (cc)

-- The point after an item of a horizontal list that is independent of the setting.
pub rigid-next :
    (b : BoxNode) (h v : ℤ) (from : WalkSums) (at : Point ℤ) (x : Node) → b.kind ≡ Horizontal → is_rigid x ≡ true
    → point_in b h v (place_at b.setting from) ≡ Some at
    → point_in b h v (place_at b.setting (one_more b.kind b.setting from x))
    ≡ option_map (level_with at.v) (dimension_of (at.h +ℤ advance Horizontal x))
rigid-next b h v from at x across rigid here =
    sym (rigid_after b h v from at x rigid here)
    ∙ (ap (λ (kind : Kind). fitting_point (right_at kind at.h (advance kind x)) (down_at kind at.v (advance kind x))) across
    ∙ level-point (at.h +ℤ advance Horizontal x) at.v
    (height_fits (right_at b.kind h (place_at b.setting from)) (down_at b.kind v (place_at b.setting from)) at here))

pub glyph-next :
    (b : BoxNode) (h v : ℤ) (from : WalkSums) (at : Point ℤ) (g : Glyph) → b.kind ≡ Horizontal → point_in b h v (place_at b.setting from) ≡ Some at
    → point_in b h v (place_at b.setting (one_more b.kind b.setting from (nodes.Glyph g)))
    ≡ option_map (level_with at.v) (dimension_of (at.h +ℤ g.width))
glyph-next b h v from at g across here = rigid-next b h v from at (nodes.Glyph g) across refl here

-- The point of a horizontal list after other items, at the height of a point that fits.
pub level-next :
    (b : BoxNode) (h v : ℤ) (from to : WalkSums) (at : Point ℤ) → b.kind ≡ Horizontal → point_in b h v (place_at b.setting from) ≡ Some at
    → point_in b h v (place_at b.setting to) ≡ option_map (level_with at.v) (dimension_of (h +ℤ place_at b.setting to))
level-next b h v from to at across here =
    let x = right_at b.kind h (place_at b.setting from) in
    let y = down_at b.kind v (place_at b.setting from) in
    let next = place_at b.setting to in
    let level : at.v ≡ v = (point-is x y at here).1 ∙ ap (λ (kind : Kind). down_at kind v (place_at b.setting from)) across in
    ap (λ (kind : Kind). fitting_point (right_at kind h next) (down_at kind v next)) across
    ∙ (ap (λ (z : ℤ). fitting_point (h +ℤ next) z) (sym level) ∙ level-point (h +ℤ next) at.v (height_fits x y at here))

-- The sums after a glyph of a horizontal list.
pub glyph-sums :
    (kind : Kind) (setting : Setting) (from : WalkSums) (g : Glyph) → kind ≡ Horizontal
    → ((one_more kind setting from (nodes.Glyph g)).natural ≡ from.natural +ℤ g.width) × ((one_more kind setting from (nodes.Glyph g)).shares ≡ from.shares)
glyph-sums kind setting from g across = (
  ap (λ (k : Kind). from.natural +ℤ advance k (nodes.Glyph g)) across,
  omega (arith, ints, share_glyph setting g),
)

-- What was drawn in a horizontal list, in a list of a kind that is known to be horizontal.
pub across-so :
    {D : Type 0} (from to : Kind → DrawnPage → D) (kind : Kind) (seen shown rest : DrawnPage) → kind ≡ Horizontal → seen ≡ shown
    → from Horizontal shown ≡ to Horizontal rest → from kind seen ≡ to kind rest
across-so from to kind seen shown rest across same is = rw (across, same) is
