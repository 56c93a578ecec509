use Rattle.std.proofs.Common.{pos, ◌≡◌, ◌+◌, ◌-◌, ◌<◌, ◌∙◌, [], ◌∷◌, ℕ, ap, sym, refl, map, drop, get_or, length, List, Bool, false, arith}
use Rattle.std.proofs.lemmas.List.{drop_all}
use Rattle.dvi_ops.specs.View.{body_view}
use Rattle.dvi_ops.specs.declared.body_op.BodyOp.{BodyOp}
use Rattle.dvi_ops.specs.declared.body_op.BodyOp.TheVariants as ops
use Rattle.move_core.specs.Private.Passes.{has_empty_group, is_push}
use Rattle.move_core.proofs.Flags.{from_here}
use Rattle.move_core.proofs.FullGroups.{ends_here, ends_later}
use Rattle.move_core.proofs.passes.has_empty_group.Goals as goal

-- The instruction at an index.
abbrev op_at : List BodyOp → ℕ → BodyOp
op_at list i = get_or list i (ops.SetChar (pos 0))

-- Where no instruction is left, none was found.
none_found : (pushed : Bool) (list : List BodyOp) (i : ℕ) → drop i list ≡ []
    → (0 < length list → has_empty_group pushed (map body_view (drop i list)) ≡ has_empty_group false (map body_view list))
    → false ≡ has_empty_group false (map body_view list)
none_found pushed [] i none found = refl
none_found pushed (op ∷ list) i none found =
    sym (ap (λ (rest : List BodyOp). has_empty_group pushed (map body_view rest)) none) ∙ found (omega arith)

pub loop-index-init : goal.loop-index-init
loop-index-init c = λ some. sym (ap (has_empty_group false) (from_here c.args.ops.now 0 (ops.SetChar (pos 0)) some))

pub loop-index-preserved : goal.loop-index-preserved
loop-index-preserved c = λ some.
    let list = c.args.ops.now in
    let i = c.loop-index.index in
    let before = is_push (body_view (op_at list (i - 1))) in
    let rest = map body_view (drop (i + 1) list) in
    let same : i + 1 - 1 ≡ i = omega arith in
    ap (λ n. has_empty_group (is_push (body_view (op_at list n))) rest) same
    ∙ ends_later before (body_view (op_at list i)) rest _ (sym c.ends_empty_group.ensures ∙ c.if-ends_empty_group.false)
    (sym (ap (has_empty_group before) (from_here list i (ops.SetChar (pos 0)) c.loop-index-test.true)) ∙ c.loop-index.invariant some)

pub returns-then-ends_empty_group : goal.returns-then-ends_empty_group
returns-then-ends_empty_group c =
    let list = c.args.ops.now in
    let i = c.loop-index.index in
    let before = is_push (body_view (op_at list (i - 1))) in
    let some : 0 < length list = omega (arith, c.loop-index-test.true) in
    ends_here before (body_view (op_at list i)) (map body_view (drop (i + 1) list)) _ (sym c.ends_empty_group.ensures ∙ c.if-ends_empty_group.true)
    (sym (ap (has_empty_group before) (from_here list i (ops.SetChar (pos 0)) c.loop-index-test.true)) ∙ c.loop-index.invariant some)

pub returns : goal.returns
returns c =
    none_found _ c.args.ops.now c.loop-index.index (drop_all c.loop-index.index c.args.ops.now c.loop-index-test.false) c.loop-index.invariant
