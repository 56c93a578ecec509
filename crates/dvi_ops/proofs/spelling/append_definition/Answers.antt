-- The slice of the four bytes is the operand.
use Rattle.std.proofs.Common.{append-nil, ◌≡◌, ◌-◌, take, drop, ap, ◌∙◌, rules}
use Rattle.std.proofs.lemmas.Int.{to_z-of_z}
use Rattle.std.specs.Int.{w32}
use Rattle.std.specs.Int.RustNames.{FitsSigned}
use Rattle.dvi_ops.specs.Spelling.{operand, code_size}
use Rattle.dvi_ops.proofs.Operands.{last_bytes}
use Rattle.dvi_ops.proofs.spelling.append_definition.Goals as goal

pub returns-clause-ok : goal.returns-clause-ok
returns-clause-ok c =
    let n = c.size_of_code-size.result in
    let number : FitsSigned w32 c.args.font.now.number = search rules in
    let sum : FitsSigned w32 c.args.font.now.check_sum = search rules in
    let size : FitsSigned w32 c.args.font.now.size = search rules in
    let design : FitsSigned w32 c.args.font.now.design_size = search rules in
    let low : take (4 - (4 - n)) (drop (4 - n) c.word.result) ≡ operand n c.args.font.now.number =
    rw (c.word.ensures, to_z-of_z w32 c.args.font.now.number number) (last_bytes n c.args.font.now.number c.size_of_code-size.ensures.high) in
    let e2 : c.word-2.result ≡ operand 4 c.args.font.now.check_sum = c.word-2.ensures ∙ ap (operand 4) (to_z-of_z w32 c.args.font.now.check_sum sum) in
    let e3 : c.word-3.result ≡ operand 4 c.args.font.now.size = c.word-3.ensures ∙ ap (operand 4) (to_z-of_z w32 c.args.font.now.size size) in
    let e4 : c.word-4.result ≡ operand 4 c.args.font.now.design_size = c.word-4.ensures ∙ ap (operand 4) (to_z-of_z w32 c.args.font.now.design_size design) in
    let whole = simp (low, e2, e3, e4, append-nil) at c.append.ensures.ok in
    let e : n ≡ code_size c.args.font.now.number = c.size_of_code-size.ensures.size ∙ ap code_size (to_z-of_z w32 c.args.font.now.number number) in
    simp e at whole
