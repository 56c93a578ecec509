use Rattle.std.proofs.Common.{◌≡◌, ◌≢◌, ◌∙◌, ◌+◌, ◌<◌, ◌≤◌, ◌++◌, [], ◌∷◌, ℕ, List, Bool, pos, ap, sym, map, take, get_or, arith}
use Rattle.std.specs.Prelude.{false, replicate}
use Rattle.std.specs.List.{list_any}
use Rattle.std.proofs.lemmas.List.{take_all, take_more, map-append, get_or-replicate}
use Rattle.dvi_ops.specs.Instruction.{Instruction}
use Rattle.dvi_ops.specs.View.{body_view}
use Rattle.dvi_ops.specs.declared.body_op.BodyOp.{BodyOp}
use Rattle.dvi_ops.specs.declared.body_op.BodyOp.TheVariants as ops
use Rattle.ship_core.proofs.PushDepth.{seen_more, seen_all}
use Rattle.dvi_write.specs.FilePages.{selects}
use Rattle.dvi_write.proofs.FreshFonts.{marked_more, marked_same, unmarked}
use Rattle.dvi_write.proofs.layout.pass_over.Goals as goal
use Rattle.dvi_write.proofs.layout.pass_over.Goals.{in-Some, in-None}

pub loop-op-init : goal.loop-op-init
loop-op-init c = ((λ slot within. get_or-replicate _ slot false false within), (λ slot within over. get_or-replicate _ slot false false within), (λ slot within under. get_or-replicate _ slot false false within), omega arith, record { value = omega arith; seen = omega arith; few = omega arith })

pub loop-op-preserved : goal.loop-op-preserved
loop-op-preserved c =
    let all = c.args.ops.now in
    let i = c.loop-op.op-index in
    let op : BodyOp = get_or all i (ops.SetChar (pos 0)) in
    let more : map body_view (take (i + 1) all) ≡ map body_view (take i all) ++ body_view op ∷ [] =
    ap (map body_view) (take_more all i (ops.SetChar (pos 0)) c.loop-op-test.true) ∙ map-append body_view (take i all) (op ∷ []) in (
      (λ slot within.
          let marked : get_or c.match-slot_of.selected slot false ≡ list_any (selects slot) (map body_view (take i all) ++ body_view op ∷ []) = elim c.match-slot_of.branch [
            | in-Some w ↦
                ap (λ (s : List Bool). get_or s slot false) w.selected-is
                ∙ marked_more c.loop-op.selected w.mark.new.marked (map body_view (take i all)) (body_view op) w.in-Some.slot slot within (sym c.slot_of.ensures ∙ w.in-Some.is)
                (w.mark.ensures slot within) (c.loop-op.invariant.0 slot within)
            | in-None w ↦
                ap (λ (s : List Bool). get_or s slot false) w.selected-is
                ∙ marked_same c.loop-op.selected (map body_view (take i all)) (body_view op) slot within (sym c.slot_of.ensures ∙ w.in-None.is) (c.loop-op.invariant.0 slot within)
          ] in
          marked ∙ ap (λ (is : List Instruction). list_any (selects slot) is) (sym more)),
      (λ slot within over. elim c.match-slot_of.branch [
        | in-Some w ↦
            let lower : c.loop-op.limit ≤ slot = omega (arith, over, w.limit-is, w.max-limit.ensures) in
            let differs : w.in-Some.slot ≢ slot = λ same. omega (arith, over, w.limit-is, w.max-limit.ensures, same) in
            ap (λ (s : List Bool). get_or s slot false) w.selected-is
            ∙ (w.mark.ensures slot within ∙ unmarked (get_or c.loop-op.selected slot false) w.in-Some.slot slot (c.loop-op.invariant.1 slot within lower) differs)
        | in-None w ↦
            ap (λ (s : List Bool). get_or s slot false) w.selected-is ∙ c.loop-op.invariant.1 slot within (omega (arith, over, w.limit-is))
      ]),
      (λ slot within under. elim c.match-slot_of.branch [
        | in-Some w ↦
            let lower : slot < c.loop-op.first = omega (arith, under, w.first-is, w.min-first.ensures) in
            let differs : w.in-Some.slot ≢ slot = λ same. omega (arith, under, w.first-is, w.min-first.ensures, same) in
            ap (λ (s : List Bool). get_or s slot false) w.selected-is
            ∙ (w.mark.ensures slot within ∙ unmarked (get_or c.loop-op.selected slot false) w.in-Some.slot slot (c.loop-op.invariant.2 slot within lower) differs)
        | in-None w ↦
            ap (λ (s : List Bool). get_or s slot false) w.selected-is ∙ c.loop-op.invariant.2 slot within (omega (arith, under, w.first-is))
      ]),
      elim c.match-slot_of.branch [ in-Some w ↦ omega (arith, w.limit-is, w.max-limit.ensures, c.loop-op.invariant.3) | in-None w ↦ omega (arith, w.limit-is, c.loop-op.invariant.3) ],
      seen_more all i c.loop-op.pushed c.loop-op.deepest c.pushed_after-pushed.result c.max-deepest.result _ c.loop-op-test.true
          c.loop-op.invariant.4 c.pushed_after-pushed.ensures c.max-deepest.ensures,
    )

pub returns-clause-selected : goal.returns-clause-selected
returns-clause-selected c slot within =
    c.loop-op.invariant.0 slot within
    ∙ ap (λ (os : List BodyOp). list_any (selects slot) (map body_view os)) (take_all c.loop-op.op-index c.args.ops.now c.loop-op-test.false)

pub returns-clause-deepest : goal.returns-clause-deepest
returns-clause-deepest c = seen_all c.args.ops.now c.loop-op.op-index c.loop-op.pushed c.loop-op.deepest c.loop-op-test.false c.loop-op.invariant.4
