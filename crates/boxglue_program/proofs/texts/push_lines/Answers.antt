use Rattle.std.proofs.Common.{◌≡◌, ◌++◌, List, ℕ, OnOk, decimal, ap, subst, ◌∙◌, append_assoc}
use Rattle.boxglue_program.specs.Texts.{lines_text}
use Rattle.boxglue_program.proofs.texts.push_lines.Goals as goal

pub returns-clause-ok : goal.returns-clause-ok
unfolding lines_text
returns-clause-ok c =
    subst (λ (x : List ℕ). OnOk c.push_number.result (c.push_number.new.out.items ≡ x))
    (ap (λ (x : List ℕ). x ++ decimal c.args.lines) c.in_ok-push_text.ensures.ok ∙ append_assoc c.args.out.now.items _ _)
    c.push_number.ensures.ok
