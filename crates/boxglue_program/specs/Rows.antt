-- Known texts of answers (own).
use Rattle.std.specs.Prelude.{◌≡◌, pos, [], ◌∷◌, Ok, Err, codes}
use Rattle.job_machine.specs.declared.replies.Answer.TheVariants.{Done, Packed, Shaped, Shipped}
use Rattle.job_machine.specs.declared.replies.Refusal.TheVariants.{NoFont, BadTfm, SlotTaken, TooMuchSpecial, ListsOpen}
use Rattle.tfm_core.specs.declared.fault.TfmCause.TheVariants.{Counts}
use Rattle.boxglue_program.specs.Texts.{answers_text}

-- The known text of the answers to the script of the one-rule page.
abbrev pub OneRuleAnswers : Type 0
OneRuleAnswers =
    answers_text (1 ∷ 2 ∷ 3 ∷ 4 ∷ [])
    (Ok Done ∷ Ok Done ∷ Ok (Packed (record { width = pos 65536; height = pos 65536; depth = pos 0 }) 0) ∷ Ok (Shipped 1) ∷ [])
    (Ok (record { pages = 1; bytes = 116 }))
    ≡ codes "1: ok\n2: ok\n3: packed 1.0pt 1.0pt 0.0pt badness 0\n4: shipped 1\nend: pages 1 bytes 116\n"

-- The known text of answers and refusals of fonts, texts and specials.
abbrev pub TextAnswers : Type 0
TextAnswers =
    answers_text (1 ∷ 2 ∷ 4 ∷ 5 ∷ 6 ∷ []) (Err (BadTfm Counts) ∷ Err NoFont ∷ Ok (Shaped 2 1) ∷ Err SlotTaken ∷ Err TooMuchSpecial
    ∷ []) (Err ListsOpen)
    ≡ codes "1: refused 5 BadTfm Counts\n2: refused 4 NoFont\n4: added 2 missing 1\n5: refused 6 SlotTaken\n6: refused 22 TooMuchSpecial\nend: refused 17 ListsOpen\n"
