use Rattle.std.proofs.Common.{rules, ◌≡◌, ◌-◌, List, ℕ, true, false, take, drop, refl, ◌∙◌, ap, ap₂, subst₂, arith}
use Rattle.dvi_ops.specs.Instruction.{Instruction, Pre, Units}
use Rattle.dvi_ops.specs.declared.op.Op.{Op}
use Rattle.dvi_ops.specs.declared.op.Op.TheVariants as ops
use Rattle.dvi_ops.specs.declared.op.Units.{Units as Measures}
use Rattle.dvi_ops.specs.Table.{Spells}
use Rattle.dvi_ops.specs.View.{units, view}
use Rattle.dvi_scan.proofs.OpLemmas.{no_pre, same_pre}
use Rattle.dvi_scan.proofs.PlaceLemmas.{one_spelled}
use Rattle.dvi_scan.proofs.front_matter.preamble.Goals as goal

pub returns-in_default-clause-bad : goal.returns-in_default-clause-bad
returns-in_default-clause-bad c =
    record {
      place = refl;
      cause = refl;
      none =
          λ comment spelled_at positive. c.in_default.ensures.none (Pre 2 (units c.args.ending.now.postamble.units) comment) spelled_at;
    }

pub returns-in_default-op-clause-bad : goal.returns-in_default-op-clause-bad
returns-in_default-op-clause-bad c =
    record {
      place = refl;
      cause = refl;
      none = λ comment spelled_at positive.
          no_pre c.in-Ok.op c.in_default-op.not-Pre 2 (units c.args.ending.now.postamble.units) comment
          (one_spelled c.args.bytes.now 0 c.args.ending.now.post (view c.in-Ok.op) (Pre 2 (units c.args.ending.now.postamble.units) comment)
          (c.in-Ok.after - 0) c.in-Ok.ensures.found spelled_at);
    }

-- A preamble that was read.
pre_spelled : (bytes : List ℕ) (after : ℕ) (op : Op) (id : ℕ) (u : Measures) (v : Units) (comment : _) → op ≡ ops.Pre id u comment → id ≡ 2 → units u ≡ v
    → Spells (view op) (take (after - 0) (drop 0 bytes)) → Spells (Pre 2 v comment.now) (take after bytes)
pre_spelled bytes after op id u v comment is version same spelled =
    let whole : view op ≡ Pre 2 v comment.now = ap view is ∙ ap₂ (λ (n : ℕ) (w : Units). Pre n w comment.now) version same in
    let none : after - 0 ≡ after = omega arith in
    subst₂ (λ (i : Instruction) (n : ℕ). Spells i (take n bytes)) whole none spelled

pub returns-then-id-ne-FORMAT-clause-bad : goal.returns-then-id-ne-FORMAT-clause-bad
returns-then-id-ne-FORMAT-clause-bad c =
    record {
      place = refl;
      cause = refl;
      none = λ comment spelled_at positive. (
          let wanted = units c.args.ending.now.postamble.units in
          let e = one_spelled c.args.bytes.now 0 c.args.ending.now.post (view c.in-Ok.op) (Pre 2 wanted comment) (c.in-Ok.after - 0)
          c.in-Ok.ensures.found spelled_at in
          let same = same_pre c.in-Ok.op c.in-Pre.id 2 c.in-Pre.units wanted c.in-Pre.comment comment c.in-Pre.is e in
          let two : c.in-Pre.id ≡ 2 = same.0 in
          c.if-id-ne-FORMAT.true two);
    }

pub returns-then-not-are_same-clause-bad : goal.returns-then-not-are_same-clause-bad
returns-then-not-are_same-clause-bad c =
    let no : c.are_same.result ≡ false = search rules in
    record {
      place = refl;
      cause = refl;
      none = λ comment spelled_at positive. (
          let wanted = units c.args.ending.now.postamble.units in
          let e = one_spelled c.args.bytes.now 0 c.args.ending.now.post (view c.in-Ok.op) (Pre 2 wanted comment) (c.in-Ok.after - 0)
          c.in-Ok.ensures.found spelled_at in
          let same = same_pre c.in-Ok.op c.in-Pre.id 2 c.in-Pre.units wanted c.in-Pre.comment comment c.in-Pre.is e in
          c.are_same.ensures.no no same.1);
    }

pub returns-clause-ok : goal.returns-clause-ok
returns-clause-ok c =
    let version : c.in-Pre.id ≡ 2 = c.if-id-ne-FORMAT.false in
    let yes : c.are_same.result ≡ true = search rules in
    let positive : c.are_positive.result ≡ true = search rules in
    record {
      comment = c.in-Pre.comment.now;
      spelled = pre_spelled c.args.bytes.now c.in-Ok.after c.in-Ok.op c.in-Pre.id c.in-Pre.units (units c.args.ending.now.postamble.units)
          c.in-Pre.comment c.in-Pre.is version (c.are_same.ensures.yes yes) c.in-Ok.ensures.found;
      within = c.in-Ok.ensures.end_bounded;
      units = c.are_positive.ensures.yes positive;
    }
