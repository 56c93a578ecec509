-- The tables, as they are handed over, and the buffers that suffice.
use Rattle.std.proofs.Common.{◌≡◌, inr, rules, true}
use Rattle.boxglue_calls.specs.Fonts.{are_named}
use Rattle.boxglue_calls.proofs.MarkTableLaws.{handed_loud, spaces_suffice}
use Rattle.boxglue_calls.proofs.mark_table.marks.Goals as goal

pub returns-in-Ok-clause-named : goal.returns-in-Ok-clause-named
returns-in-Ok-clause-named c =
    let named : are_named c.args.fonts.now ≡ true = search rules in
    (λ three. absurd (handed_loud _ _ _ _ _ _ c.in-Ok.ensures.handed (inr three)), λ none. absurd cc)

pub returns-in-Ok-clause-done : goal.returns-in-Ok-clause-done
returns-in-Ok-clause-done c = inr (inr c.in-Ok.ensures.handed.0)

pub returns-in-Ok-clause-enough : goal.returns-in-Ok-clause-enough
returns-in-Ok-clause-enough c = spaces_suffice _ _ _ _ _ _ c.in-Ok.ensures.handed

pub returns-in-Ok-clause-pages : goal.returns-in-Ok-clause-pages
returns-in-Ok-clause-pages c = λ silent. absurd (handed_loud _ _ _ _ _ _ c.in-Ok.ensures.handed silent)

pub returns-in-Ok-clause-marks : goal.returns-in-Ok-clause-marks
returns-in-Ok-clause-marks c = λ silent. absurd (handed_loud _ _ _ _ _ _ c.in-Ok.ensures.handed silent)

pub returns-in-Ok-clause-text : goal.returns-in-Ok-clause-text
returns-in-Ok-clause-text c = λ silent. absurd (handed_loud _ _ _ _ _ _ c.in-Ok.ensures.handed silent)

pub returns-in-Ok-clause-sizes : goal.returns-in-Ok-clause-sizes
returns-in-Ok-clause-sizes c = λ silent. absurd (handed_loud _ _ _ _ _ _ c.in-Ok.ensures.handed silent)
