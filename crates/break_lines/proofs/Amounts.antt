-- What an item adds to the sums.
use Rattle.std.proofs.Common.{◌≡◌, ◌≢◌, ℕ, ◌+◌, ◌*◌, Bool, true, false, cond, arith, refl, ap, ◌∙◌}
use Rattle.std.specs.Prelude.{ℤ, pos, ◌+ℤ◌, ◌^◌}
use Rattle.std.proofs.lemmas.Int.{ints}
use Rattle.scaled_core.specs.Dimensions.{Within}
use Rattle.node_core.specs.declared.tree.Glue.{Glue}
use Rattle.node_core.specs.declared.tree.Node.{Node}
use Rattle.node_core.specs.declared.tree.Node.TheVariants as nodes
use Rattle.node_core.specs.declared.tree.Order.{Order}
use Rattle.node_core.specs.declared.tree.Order.TheVariants.{Normal, Fil, Fill, Filll}
use Rattle.pack_core.specs.Items.{item_width, stretch_in, shrink_in, is_order}
use Rattle.pack_core.proofs.Passing.{no_stretch, no_shrink}
use Rattle.break_lines.specs.declared.sums.Sums.{Sums}
use Rattle.break_lines.specs.Private.Marks.{amounts_of, plus, no_sums, stretch_alone, shrink_alone}
use Rattle.break_lines.specs.Private.SmallMarks.{IsPrefix}

-- Amounts that are added to one of the sums.
pub wider : (s : Sums) (w : ℤ) → record s { width = s.width +ℤ w } ≡ plus s (record no_sums { width = w })
wider s w =
    let stretch : s.stretch ≡ s.stretch +ℤ pos 0 = omega (arith, ints) in
    let fil : s.fil ≡ s.fil +ℤ pos 0 = omega (arith, ints) in
    let fill : s.fill ≡ s.fill +ℤ pos 0 = omega (arith, ints) in
    let filll : s.filll ≡ s.filll +ℤ pos 0 = omega (arith, ints) in
    let shrink : s.shrink ≡ s.shrink +ℤ pos 0 = omega (arith, ints) in
    cc (stretch, fil, fill, filll, shrink)

pub more_normal : (s : Sums) (a : ℤ) → record s { stretch = s.stretch +ℤ a } ≡ plus s (stretch_alone Normal a)
more_normal s a =
    let width : s.width ≡ s.width +ℤ pos 0 = omega (arith, ints) in
    let fil : s.fil ≡ s.fil +ℤ pos 0 = omega (arith, ints) in
    let fill : s.fill ≡ s.fill +ℤ pos 0 = omega (arith, ints) in
    let filll : s.filll ≡ s.filll +ℤ pos 0 = omega (arith, ints) in
    let shrink : s.shrink ≡ s.shrink +ℤ pos 0 = omega (arith, ints) in
    cc (width, fil, fill, filll, shrink)

pub more_fil : (s : Sums) (a : ℤ) → record s { fil = s.fil +ℤ a } ≡ plus s (stretch_alone Fil a)
more_fil s a =
    let width : s.width ≡ s.width +ℤ pos 0 = omega (arith, ints) in
    let stretch : s.stretch ≡ s.stretch +ℤ pos 0 = omega (arith, ints) in
    let fill : s.fill ≡ s.fill +ℤ pos 0 = omega (arith, ints) in
    let filll : s.filll ≡ s.filll +ℤ pos 0 = omega (arith, ints) in
    let shrink : s.shrink ≡ s.shrink +ℤ pos 0 = omega (arith, ints) in
    cc (width, stretch, fill, filll, shrink)

pub more_fill : (s : Sums) (a : ℤ) → record s { fill = s.fill +ℤ a } ≡ plus s (stretch_alone Fill a)
more_fill s a =
    let width : s.width ≡ s.width +ℤ pos 0 = omega (arith, ints) in
    let stretch : s.stretch ≡ s.stretch +ℤ pos 0 = omega (arith, ints) in
    let fil : s.fil ≡ s.fil +ℤ pos 0 = omega (arith, ints) in
    let filll : s.filll ≡ s.filll +ℤ pos 0 = omega (arith, ints) in
    let shrink : s.shrink ≡ s.shrink +ℤ pos 0 = omega (arith, ints) in
    cc (width, stretch, fil, filll, shrink)

pub more_filll : (s : Sums) (a : ℤ) → record s { filll = s.filll +ℤ a } ≡ plus s (stretch_alone Filll a)
more_filll s a =
    let width : s.width ≡ s.width +ℤ pos 0 = omega (arith, ints) in
    let stretch : s.stretch ≡ s.stretch +ℤ pos 0 = omega (arith, ints) in
    let fil : s.fil ≡ s.fil +ℤ pos 0 = omega (arith, ints) in
    let fill : s.fill ≡ s.fill +ℤ pos 0 = omega (arith, ints) in
    let shrink : s.shrink ≡ s.shrink +ℤ pos 0 = omega (arith, ints) in
    cc (width, stretch, fil, fill, shrink)

pub more_shrink : (s : Sums) (a : ℤ) → record s { shrink = s.shrink +ℤ a } ≡ plus s (shrink_alone Normal a)
more_shrink s a =
    let width : s.width ≡ s.width +ℤ pos 0 = omega (arith, ints) in
    let stretch : s.stretch ≡ s.stretch +ℤ pos 0 = omega (arith, ints) in
    let fil : s.fil ≡ s.fil +ℤ pos 0 = omega (arith, ints) in
    let fill : s.fill ≡ s.fill +ℤ pos 0 = omega (arith, ints) in
    let filll : s.filll ≡ s.filll +ℤ pos 0 = omega (arith, ints) in
    cc (width, stretch, fil, fill, filll)

same : (s : Sums) → s ≡ plus s no_sums
same s =
    let width : s.width ≡ s.width +ℤ pos 0 = omega (arith, ints) in
    ap (λ z. record s { width = z }) width ∙ wider s (pos 0)

pub no_shrink_more : (s : Sums) (a : ℤ) (order : Order) → order ≢ Normal → s ≡ plus s (shrink_alone order a)
no_shrink_more s a Normal other = absurd (other refl)
no_shrink_more s a Fil other = same s
no_shrink_more s a Fill other = same s
no_shrink_more s a Filll other = same s

-- The amounts of glue are those of its stretch and of its shrink, and its width.
pub glue_amounts :
    (s : Sums) (g : Glue)
    → plus (plus (record s { width = s.width +ℤ g.width }) (stretch_alone g.stretch_order g.stretch)) (shrink_alone g.shrink_order g.shrink)
    ≡ plus s (amounts_of (nodes.Glue g))
glue_amounts s g =
    let width : (s.width +ℤ g.width +ℤ pos 0) +ℤ pos 0 ≡ s.width +ℤ g.width = omega (arith, ints) in
    let stretch : (s.stretch +ℤ stretch_in Normal (nodes.Glue g)) +ℤ pos 0 ≡ s.stretch +ℤ stretch_in Normal (nodes.Glue g) = omega (arith, ints) in
    let fil : (s.fil +ℤ stretch_in Fil (nodes.Glue g)) +ℤ pos 0 ≡ s.fil +ℤ stretch_in Fil (nodes.Glue g) = omega (arith, ints) in
    let fill : (s.fill +ℤ stretch_in Fill (nodes.Glue g)) +ℤ pos 0 ≡ s.fill +ℤ stretch_in Fill (nodes.Glue g) = omega (arith, ints) in
    let filll : (s.filll +ℤ stretch_in Filll (nodes.Glue g)) +ℤ pos 0 ≡ s.filll +ℤ stretch_in Filll (nodes.Glue g) = omega (arith, ints) in
    let shrink : (s.shrink +ℤ pos 0) +ℤ shrink_in Normal (nodes.Glue g) ≡ s.shrink +ℤ shrink_in Normal (nodes.Glue g) = omega (arith, ints) in
    cc (width, stretch, fil, fill, filll, shrink)

-- An item that is not glue adds only its width.
pub other_sums :
    (s : Sums) (x : Node) → ((g : Glue) → x ≢ nodes.Glue g) → record s { width = s.width +ℤ item_width x } ≡ plus s (amounts_of x)
other_sums s x other =
    let stretch : s.stretch ≡ s.stretch +ℤ stretch_in Normal x = omega (arith, ints, no_stretch x other Normal) in
    let fil : s.fil ≡ s.fil +ℤ stretch_in Fil x = omega (arith, ints, no_stretch x other Fil) in
    let fill : s.fill ≡ s.fill +ℤ stretch_in Fill x = omega (arith, ints, no_stretch x other Fill) in
    let filll : s.filll ≡ s.filll +ℤ stretch_in Filll x = omega (arith, ints, no_stretch x other Filll) in
    let shrink : s.shrink ≡ s.shrink +ℤ shrink_in Normal x = omega (arith, ints, no_shrink x other Normal) in
    cc (stretch, fil, fill, filll, shrink)

chosen : (b : Bool) (x : ℤ) → Within (2 ^ 30 * 1) x → Within (2 ^ 30 * 1) (cond b x (pos 0))
chosen true x is = is
chosen false x is = record { low = omega (arith, ints); high = omega (arith, ints) }

-- The amounts of glue are small.
pub glue_small :
    (g : Glue) → Within (2 ^ 31 * 1) g.width → Within (2 ^ 30 * 1) g.stretch → Within (2 ^ 30 * 1) g.shrink → IsPrefix 1 (amounts_of (nodes.Glue g))
glue_small g width stretch shrink = record {
  width = width;
  stretch = chosen (is_order Normal g.stretch_order) g.stretch stretch;
  fil = chosen (is_order Fil g.stretch_order) g.stretch stretch;
  fill = chosen (is_order Fill g.stretch_order) g.stretch stretch;
  filll = chosen (is_order Filll g.stretch_order) g.stretch stretch;
  shrink = chosen (is_order Normal g.shrink_order) g.shrink shrink;
}

-- With one more item the sums stay small.
pub prefix_more : (n : ℕ) (s more : Sums) → IsPrefix n s → IsPrefix 1 more → IsPrefix (n + 1) (plus s more)
prefix_more n s more is one = record {
  width = record { low = omega (arith, ints, is.width, one.width); high = omega (arith, ints, is.width, one.width) };
  stretch = record { low = omega (arith, ints, is.stretch, one.stretch); high = omega (arith, ints, is.stretch, one.stretch) };
  fil = record { low = omega (arith, ints, is.fil, one.fil); high = omega (arith, ints, is.fil, one.fil) };
  fill = record { low = omega (arith, ints, is.fill, one.fill); high = omega (arith, ints, is.fill, one.fill) };
  filll = record { low = omega (arith, ints, is.filll, one.filll); high = omega (arith, ints, is.filll, one.filll) };
  shrink = record { low = omega (arith, ints, is.shrink, one.shrink); high = omega (arith, ints, is.shrink, one.shrink) };
}

-- So they do where only the width changes.
pub prefix_wider : (n : ℕ) (s : Sums) (w : ℤ) → IsPrefix n s → Within (2 ^ 31) w → IsPrefix (n + 1) (record s { width = s.width +ℤ w })
prefix_wider n s w is one = record {
  width = record { low = omega (arith, ints, is.width, one); high = omega (arith, ints, is.width, one) };
  stretch = record { low = omega (arith, ints, is.stretch); high = omega (arith, ints, is.stretch) };
  fil = record { low = omega (arith, ints, is.fil); high = omega (arith, ints, is.fil) };
  fill = record { low = omega (arith, ints, is.fill); high = omega (arith, ints, is.fill) };
  filll = record { low = omega (arith, ints, is.filll); high = omega (arith, ints, is.filll) };
  shrink = record { low = omega (arith, ints, is.shrink); high = omega (arith, ints, is.shrink) };
}
