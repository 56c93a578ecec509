use Rattle.std.proofs.Common.{rules, ◌≡◌, ◌-◌, false, true, refl, take, drop, ap, subst}
use Rattle.std.specs.BTreeSet.{Updates, contains}
use Rattle.std.specs.Ordering.{int_cmp}
use Rattle.dvi_ops.specs.File.{IsIdle}
use Rattle.dvi_ops.specs.Instruction.{FontDef, Instruction, Do}
use Rattle.dvi_ops.specs.Table.{Spells}
use Rattle.dvi_ops.specs.View.{definition, view}
use Rattle.dvi_scan.specs.Private.AfterPost.{MeetsNumber}
use Rattle.dvi_scan.proofs.AfterPostLemmas.{none_idle, number_put, on_any}
use Rattle.dvi_scan.proofs.ClosingLemmas.{read_found}
use Rattle.dvi_scan.proofs.after_post.look_one.Goals as goal

pub returns-in-Err-clause-none : goal.returns-in-Err-clause-none
returns-in-Err-clause-none c = (λ i spelled_at idle. c.in-Err.ensures.none i spelled_at, refl)

pub returns-in_ok-insert-in-FontDef-clause-definition_found : goal.returns-in_ok-insert-in-FontDef-clause-definition_found
returns-in_ok-insert-in-FontDef-clause-definition_found c =
    let updates : Updates int_cmp c.args.numbers.now c.insert.new.self c.in-FontDef.font.number true = search rules in
    record {
      forward = c.in-Ok.ensures.after;
      within = c.in-Ok.ensures.end_bounded;
      here = Do (FontDef (definition c.in-FontDef.font));
      spelled = subst (λ (i : Instruction). Spells i (take (c.in-Ok.found.1 - c.args.at) (drop c.args.at c.args.bytes.now))) (ap view c.in-FontDef.is) c.in-Ok.ensures.found;
      idle = tt;
      numbers = number_put (definition c.in-FontDef.font) c.args.numbers.now c.insert.new.self updates;
    }

pub returns-in_err-insert-in-FontDef-clause-memory : goal.returns-in_err-insert-in-FontDef-clause-memory
returns-in_err-insert-in-FontDef-clause-memory c =
    let absent : contains int_cmp c.args.numbers.now c.in-FontDef.font.number ≡ false = search rules in
    let spelled_at = read_found c.args.bytes.now c.args.at c.in-Ok.found.1 c.args.to (view c.in-Ok.found.0)
    (Do (FontDef (definition c.in-FontDef.font))) c.in-Ok.ensures.after c.in-Ok.ensures.end_bounded c.in-Ok.ensures.found
    (ap view c.in-FontDef.is) in
    on_any (MeetsNumber c.args.bytes.now c.args.at c.args.to c.args.numbers.now.keys) c.from_residual.result
    (definition c.in-FontDef.font, spelled_at, absent)

pub returns-in_default : goal.returns-in_default
returns-in_default c =
    let other : IsIdle (view c.in-Ok.found.0) → ⊥ = search rules in
    let spelled_at = read_found c.args.bytes.now c.args.at c.in-Ok.found.1 c.args.to (view c.in-Ok.found.0) (view c.in-Ok.found.0)
    c.in-Ok.ensures.after c.in-Ok.ensures.end_bounded c.in-Ok.ensures.found refl in
    record {
      definition_found = tt;
      none = (none_idle c.args.bytes.now c.args.at c.args.to (view c.in-Ok.found.0) spelled_at other, refl);
      memory = tt;
    }

pub returns-in_default-2 : goal.returns-in_default-2
returns-in_default-2 c =
    let other : IsIdle (view c.in-Ok.found.0) → ⊥ = search rules in
    let spelled_at = read_found c.args.bytes.now c.args.at c.in-Ok.found.1 c.args.to (view c.in-Ok.found.0) (view c.in-Ok.found.0)
    c.in-Ok.ensures.after c.in-Ok.ensures.end_bounded c.in-Ok.ensures.found refl in
    record {
      definition_found = tt;
      none = (none_idle c.args.bytes.now c.args.at c.args.to (view c.in-Ok.found.0) spelled_at other, refl);
      memory = tt;
    }
