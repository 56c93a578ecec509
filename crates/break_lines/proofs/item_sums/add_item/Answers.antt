use Rattle.std.proofs.Common.{◌≡◌, ◌∙◌, ◌+◌, ◌^◌, ◌+ℤ◌, to_z, of_z, w64, ap, sym, subst, arith}
use Rattle.std.proofs.lemmas.Int.{ints}
use Rattle.scaled_core.specs.Dimensions.{Within}
use Rattle.node_core.specs.declared.tree.Node.TheVariants as nodes
use Rattle.pack_core.specs.Items.{item_width}
use Rattle.break_lines.specs.Private.Marks.{amounts_of}
use Rattle.break_lines.specs.Private.SmallMarks.{IsPrefix}
use Rattle.break_lines.proofs.Amounts.{other_sums, prefix_more, prefix_wider}
use Rattle.break_lines.proofs.item_sums.add_item.Goals as goal

pub returns-in-Glue-clause-sums_bounded : goal.returns-in-Glue-clause-sums_bounded
returns-in-Glue-clause-sums_bounded c n is =
    let more = c.add_glue.ensures in
    subst (IsPrefix (n + 1)) (sym more.value) (prefix_more n c.args.sums.now (amounts_of (nodes.Glue c.in-Glue.glue)) is more.amounts_bounded)

pub returns-in_default : goal.returns-in_default
returns-in_default c =
    let s = c.args.sums.now in
    let x = c.args.node.now in
    let more = c.advance_of.ensures in
    let width : to_z w64 (of_z w64 (to_z w64 (of_z w64 s.width) +ℤ to_z w64 (of_z w64 c.advance_of.result))) ≡ s.width +ℤ item_width x = omega (arith, ints, c.requires.width, more.value, more.value_bounded) in
    record {
      value = ap (λ z. record s { width = z }) width ∙ other_sums s x c.in_default.not-Glue;
      sums_bounded = λ n is. subst (λ z. IsPrefix (n + 1) (record s { width = z })) (sym width) (prefix_wider n s (item_width x) is (subst (Within (2 ^ 31)) more.value more.value_bounded));
    }
