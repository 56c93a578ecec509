-- What is handed over has a status that says so.
use Rattle.std.proofs.Common.{◌≡◌, inr, rules, true}
use Rattle.boxglue_calls.specs.Fonts.{are_named}
use Rattle.boxglue_calls.proofs.PageLaws.{pages_loud}
use Rattle.boxglue_calls.proofs.pages.list.Goals as goal

pub returns-in-Ok-clause-named : goal.returns-in-Ok-clause-named
returns-in-Ok-clause-named c =
    let named : are_named c.args.fonts.now ≡ true = search rules in
    (λ three. absurd (pages_loud _ _ _ _ _ c.in-Ok.ensures.handed (inr three)), λ none. absurd cc)

pub returns-in-Ok-clause-done : goal.returns-in-Ok-clause-done
returns-in-Ok-clause-done c = inr (inr c.in-Ok.ensures.handed)

pub returns-in-Ok-clause-text : goal.returns-in-Ok-clause-text
returns-in-Ok-clause-text c = λ silent. absurd (pages_loud _ _ _ _ _ c.in-Ok.ensures.handed silent)

pub returns-in-Ok-clause-size : goal.returns-in-Ok-clause-size
returns-in-Ok-clause-size c = λ silent. absurd (pages_loud _ _ _ _ _ c.in-Ok.ensures.handed silent)
