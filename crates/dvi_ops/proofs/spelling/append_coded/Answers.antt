-- The slice of the four bytes is the operand.
use Rattle.std.proofs.Common.{◌≡◌, ◌≤◌, ◌+◌, ◌-◌, ◌++◌, ◌∷◌, [], ◌∙◌, ℕ, ℤ, List, length, take, drop, ap, take_all, append_assoc}
use Rattle.std.proofs.lemmas.Int.{to_z-of_z}
use Rattle.std.specs.Int.{w32}
use Rattle.dvi_ops.specs.Spelling.{operand, code_and_number}
use Rattle.dvi_ops.proofs.Operands.{last_bytes}
use Rattle.dvi_ops.proofs.spelling.append_coded.Goals as goal

all_digits :
    (base size : ℕ) (value : ℤ) (before middle after digits : List ℕ) (index : ℕ) → middle ≡ before ++ (base + size) ∷ [] → after ≡ middle ++ take index digits
    → length digits ≤ index → digits ≡ operand size value → after ≡ before ++ code_and_number base size value
all_digits base size value before middle after digits index first second past is =
    second
    ∙ (ap (λ (ns : List ℕ). middle ++ ns) (take_all index digits past ∙ is)
    ∙ (ap (λ (ns : List ℕ). ns ++ operand size value) first ∙ append_assoc before ((base + size) ∷ []) (operand size value)))

pub returns-clause-ok : goal.returns-clause-ok
returns-clause-ok c =
    let low : take (4 - (4 - c.args.size)) (drop (4 - c.args.size) c.word-word.result) ≡ operand c.args.size c.args.value =
    rw (c.word-word.ensures, to_z-of_z w32 c.args.value c.ranges.value) (last_bytes c.args.size c.args.value c.requires.high) in
    all_digits (c.args.first - 1) c.args.size c.args.value c.args.out.now.items c.push_reserved.new.self.items c.loop-digit.out.items
    (take (4 - (4 - c.args.size)) (drop (4 - c.args.size) c.word-word.result)) c.loop-digit.digit-index
    (c.push_reserved.ensures.items ∙ ap (λ (ns : List ℕ). ns ++ ((c.args.first - 1) + c.args.size) ∷ []) c.reserve.ensures.items) c.loop-digit.invariant.bytes
    c.loop-digit-test.false low
