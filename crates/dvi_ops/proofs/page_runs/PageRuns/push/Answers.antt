use Rattle.std.proofs.Common.{◌≡◌, ◌+◌, ◌++◌, ◌∙◌, [], ◌∷◌, ℕ, List, length, map, ap, ap₂, sym, subst, length-append, arith}
use Rattle.std.proofs.lemmas.List.{map-append, length-map}
use Rattle.dvi_ops.specs.Instruction.{Instruction}
use Rattle.dvi_ops.specs.Private.Rising.{IsRising}
use Rattle.dvi_ops.specs.Runs.{instructions_of, woven_instructions}
use Rattle.dvi_ops.specs.View.{body_view}
use Rattle.dvi_ops.specs.declared.body_op.BodyOp.{BodyOp}
use Rattle.dvi_ops.proofs.Runs.{rising_end, woven-op}
use Rattle.dvi_ops.proofs.page_runs.PageRuns.push.Goals as goal

pub invariant_of-self-2 : goal.invariant_of-self-2
invariant_of-self-2 c =
    let runs = c.args.self.now in
    let place : c.len.result ≡ length runs.codes.items = omega (arith, c.len.ensures) in
    let places : c.push_reserved.new.self.items ≡ runs.places.items ++ length runs.codes.items ∷ [] =
    c.push_reserved.ensures.items ∙ ap₂ (λ (ns : List ℕ) (n : ℕ). ns ++ n ∷ []) c.make_space.ensures.items place in
    let ops : c.push_reserved-2.new.self.items ≡ runs.ops.items ++ c.args.op ∷ [] =
    c.push_reserved-2.ensures.items ∙ ap (λ (os : List BodyOp). os ++ c.args.op ∷ []) c.make_space-2.ensures.items in
    record {
      paired =
          ap length places
          ∙ (length-append runs.places.items (length runs.codes.items ∷ [])
          ∙ (ap (λ (n : ℕ). n + 1) runs.paired ∙ (sym (length-append runs.ops.items (c.args.op ∷ [])) ∙ sym (ap length ops))));
      rising =
          subst (λ (ns : List ℕ). IsRising 0 ns (length runs.codes.items)) (sym places) (rising_end 0 runs.places.items (length runs.codes.items) runs.rising);
    }

pub returns-clause-ok : goal.returns-clause-ok
unfolding instructions_of
returns-clause-ok c =
    let runs = c.args.self.now in
    let place : c.len.result ≡ length runs.codes.items = omega (arith, c.len.ensures) in
    let places : c.push_reserved.new.self.items ≡ runs.places.items ++ length runs.codes.items ∷ [] =
    c.push_reserved.ensures.items ∙ ap₂ (λ (ns : List ℕ) (n : ℕ). ns ++ n ∷ []) c.make_space.ensures.items place in
    let ops : map body_view c.push_reserved-2.new.self.items ≡ map body_view runs.ops.items ++ body_view c.args.op ∷ [] =
    ap (map body_view) (c.push_reserved-2.ensures.items ∙ ap (λ (os : List BodyOp). os ++ c.args.op ∷ []) c.make_space-2.ensures.items)
    ∙ map-append body_view runs.ops.items (c.args.op ∷ []) in
    ap₂ (λ (ns : List ℕ) (is : List Instruction). woven_instructions 0 runs.codes.items ns is) places ops
    ∙ woven-op 0 runs.codes.items runs.places.items (map body_view runs.ops.items) (body_view c.args.op) (length runs.codes.items) (omega arith)
    (runs.paired ∙ sym (length-map runs.ops.items body_view)) runs.rising
