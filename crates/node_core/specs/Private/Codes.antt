-- How the logic stores the items of a list (own; only the model of `NodeList` uses it).
use Rattle.std.proofs.Common.{◌≡◌, ◌≢◌, ◌⊎◌, ℕ, ℤ, List, refl, inl, inr, ap, arith}
use Rattle.std.specs.Coded.{Coded, code_by, coded⊎, coded×, coded_ℕ, coded_ℤ, coded_list}
use base.Stored.{Gv, gnil, gnum, gcons}
use Rattle.node_core.specs.declared.tree.Glue.{Glue}
use Rattle.node_core.specs.declared.tree.Glyph.{Glyph}
use Rattle.node_core.specs.declared.tree.Kind.{Kind}
use Rattle.node_core.specs.declared.tree.Rule.{Rule}
use Rattle.node_core.specs.declared.tree.Setting.{Setting}
use Rattle.node_core.specs.contracts.tree.Glue as a_glue
use Rattle.node_core.specs.contracts.tree.Glyph as a_glyph
use Rattle.node_core.specs.contracts.tree.Kind as a_kind
use Rattle.node_core.specs.contracts.tree.Rule as a_rule
use Rattle.node_core.specs.contracts.tree.Setting as a_setting
use Rattle.node_core.specs.Items.{Leaf, glyph, font_kern, kern, glue, penalty, rule, special, BoxFrame, Items, none, leaf, box}

-- The stored form of a leaf: a number (of a kern of either kind, or of a penalty), a glyph, glue, a rule, or the text of a special (own).
abbrev pub Cases : Type 0
Cases = (ℤ ⊎ (ℤ ⊎ ℤ)) ⊎ (Glyph ⊎ (Glue ⊎ (Rule ⊎ List ℕ)))

-- The stored case of a leaf (own).
abbrev pub cases_of : Leaf → Cases
cases_of (glyph g) = inr (inl g)
cases_of (font_kern width) = inl (inl width)
cases_of (kern width) = inl (inr (inl width))
cases_of (penalty p) = inl (inr (inr p))
cases_of (glue g) = inr (inr (inl g))
cases_of (rule sizes) = inr (inr (inr (inl sizes)))
cases_of (special text) = inr (inr (inr (inr text)))

-- The leaf of a stored case (own).
abbrev pub leaf_of : Cases → Leaf
leaf_of (inl (inl width)) = font_kern width
leaf_of (inl (inr (inl width))) = kern width
leaf_of (inl (inr (inr p))) = penalty p
leaf_of (inr (inl g)) = glyph g
leaf_of (inr (inr (inl g))) = glue g
leaf_of (inr (inr (inr (inl sizes)))) = rule sizes
leaf_of (inr (inr (inr (inr text)))) = special text

-- Storing a leaf and reading it back gives the same leaf (own).
pub leaf_of-cases_of : (x : Leaf) → leaf_of (cases_of x) ≡ x
leaf_of-cases_of (glyph g) = refl
leaf_of-cases_of (font_kern width) = refl
leaf_of-cases_of (kern width) = refl
leaf_of-cases_of (glue g) = refl
leaf_of-cases_of (penalty p) = refl
leaf_of-cases_of (rule sizes) = refl
leaf_of-cases_of (special text) = refl

-- How a leaf is stored (own).
abbrev pub coded_leaf : Coded Leaf
coded_leaf =
    code_by Cases (coded⊎ (coded⊎ coded_ℤ (coded⊎ coded_ℤ coded_ℤ))
    (coded⊎ a_glyph.the_row.coded (coded⊎ a_glue.the_row.coded (coded⊎ a_rule.the_row.coded (coded_list coded_ℕ)))))
    cases_of leaf_of leaf_of-cases_of

-- How a frame is stored (own).
abbrev pub coded_frame : Coded BoxFrame
coded_frame =
    code_by ((Kind × Setting) × (ℤ × (ℤ × ℤ)))
    (coded× (coded× a_kind.the_row.coded a_setting.the_row.coded) (coded× coded_ℤ (coded× coded_ℤ coded_ℤ)))
    (λ f. ((f.kind, f.setting), (f.width, (f.height, f.depth))))
    (λ p. record { kind = p.0.0; setting = p.0.1; width = p.1.0; height = p.1.1.0; depth = p.1.1.1 }) (λ _. refl)

-- The first part of a stored pair, or nothing if it is no pair (own).
abbrev pub head : Gv → Gv
head gnil = gnil
head (gnum n) = gnil
head (gcons a b) = a

-- The second part of a stored pair, or nothing if it is no pair (own).
abbrev pub tail : Gv → Gv
tail gnil = gnil
tail (gnum n) = gnil
tail (gcons a b) = b

-- How items are stored (own).
abbrev pub items_code : Items → Gv
items_code none = gcons (gnum 0) gnil
items_code (leaf x rest) = gcons (gnum 1) (gcons (coded_leaf.code x) (items_code rest))
items_code (box shift frame inner rest) =
    gcons (gnum 2) (gcons (coded_ℤ.code shift) (gcons (coded_frame.code frame) (gcons (items_code inner) (items_code rest))))

-- Two stored items whose first numbers differ are different (own).
pub apart : (m n : ℕ) {a b : Gv} → gcons (gnum m) a ≡ gcons (gnum n) b → m ≢ n → ⊥
apart m n p other = other (cc)

-- Items with the same stored form are the same (own).
pub items_inj : (x y : Items) → items_code x ≡ items_code y → x ≡ y
items_inj none none p = refl
items_inj none (leaf y rest) p = absurd (apart 0 1 p (omega arith))
items_inj none (box shift frame inner rest) p = absurd (apart 0 2 p (omega arith))
items_inj (leaf x rest) none p = absurd (apart 1 0 p (omega arith))
items_inj (leaf x rest) (leaf y more) p =
    λ i. leaf (coded_leaf.inj x y (ap (λ g. head (tail g)) p) i) (items_inj rest more (ap (λ g. tail (tail g)) p) i)
items_inj (leaf x rest) (box shift frame inner more) p = absurd (apart 1 2 p (omega arith))
items_inj (box shift frame inner rest) none p = absurd (apart 2 0 p (omega arith))
items_inj (box shift frame inner rest) (leaf y more) p = absurd (apart 2 1 p (omega arith))
items_inj (box shift frame inner rest) (box by other items more) p =
    λ i. box (coded_ℤ.inj shift by (ap (λ g. head (tail g)) p) i) (coded_frame.inj frame other (ap (λ g. head (tail (tail g))) p) i)
    (items_inj inner items (ap (λ g. head (tail (tail (tail g)))) p) i) (items_inj rest more (ap (λ g. tail (tail (tail (tail g)))) p) i)

-- Items with their stored form (own).
abbrev pub coded_items : Coded Items
coded_items = record { code = items_code; inj = items_inj }
