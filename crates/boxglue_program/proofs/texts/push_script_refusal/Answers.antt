-- The text in three pieces.
use Rattle.std.proofs.Common.{◌≡◌, ◌++◌, List, ℕ, codes, ap, ◌∙◌, append_assoc}
use Rattle.std.proofs.lemmas.Result.{on_ok_weaker}
use Rattle.boxglue_program.specs.Texts.{script_refusal_text}
use Rattle.boxglue_program.proofs.texts.push_script_refusal.Goals as goal

three_pieces : (old first second last one two three : List ℕ) → one ≡ old ++ first → two ≡ one ++ second → three ≡ two ++ last → three ≡ old ++ (first ++ (second ++ last))
three_pieces old first second last one two three e f g =
    g
    ∙ (ap (λ (text : List ℕ). text ++ last) (f ∙ ap (λ (text : List ℕ). text ++ second) e)
    ∙ (append_assoc (old ++ first) second last ∙ append_assoc old first (second ++ last)))

pub returns-clause-ok : goal.returns-clause-ok
unfolding script_refusal_text
returns-clause-ok c =
    let first = c.in_ok-push_text.ensures.ok ∙ ap (λ (text : List ℕ). text ++ codes "refused 2 BadScript ") c.in_ok-reserve.ensures.items in
    on_ok_weaker c.push_cause.result (three_pieces c.args.out.now.items _ _ _ _ _ _ first c.in_ok-push_number.ensures.ok) c.push_cause.ensures.ok
