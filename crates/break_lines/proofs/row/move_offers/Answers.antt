use Rattle.std.proofs.Common.{◌≡◌, ◌∙◌, ◌<◌, length, set, length-set, Some, None, ap, sym, arith, vec_len, vec_capacity}
use Rattle.break_lines.proofs.Rows.{emptied_more, emptied_none}
use Rattle.break_lines.proofs.row.move_offers.Goals.{in-Some, in_default}
use Rattle.break_lines.proofs.row.move_offers.Goals as goal

pub loop-index-preserved : goal.loop-index-preserved
loop-index-preserved c =
    let inv = c.loop-index.invariant in
    let row = c.loop-index.row.items in
    let within : c.loop-index.index < length c.args.row.now.items = omega (arith, c.loop-index-test.true, c.len-index-end.ensures) in
    elim c.match-index.branch [
      | in-Some w ↦
          let made : c.match-index.row.items ≡ set row c.loop-index.index None = ap (λ v. v.items) w.row-is in
          let more = emptied_more c.loop-index.table.items c.args.table.now.items c.match-index.table.items c.args.row.now.items row
          c.loop-index.index (Some w.in-Some.entry) c.index.result.now within inv.table inv.row
          (sym c.index.ensures ∙ w.in-Some.is) (ap (λ v. v.items) w.table-is ∙ w.push_reserved.ensures.items) in
          record {
            table = more.0;
            row = made ∙ more.1;
            wide = ap length made ∙ length-set row c.loop-index.index None ∙ inv.wide;
            space =
                omega (arith, ap vec_len w.table-is, ap vec_capacity w.table-is);
          }
      | in_default w ↦
          let same = ap (λ v. v.items) w.row-is in
          let more = emptied_none c.loop-index.table.items c.args.table.now.items c.args.row.now.items row c.loop-index.index c.index.result.now
          within (omega (arith, within, inv.wide)) inv.table inv.row (sym c.index.ensures ∙ w.in_default.is) in
          record {
            table = ap (λ v. v.items) w.table-is ∙ more.0;
            row = same ∙ more.1;
            wide = ap length same ∙ inv.wide;
            space =
                omega (arith, ap vec_len w.table-is, ap vec_capacity w.table-is);
          }
    ]
