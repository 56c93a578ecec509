-- If a number is missing, there are no four numbers.
use Rattle.boxglue_words.proofs.words.options.Goals as goal

pub returns-in_err-page-clause-none : goal.returns-in_err-page-clause-none
returns-in_err-page-clause-none c = λ e options h. c.number.ensures.none c.in_err-page.was options.page h.page

pub returns-in_err-dpi-clause-none : goal.returns-in_err-dpi-clause-none
returns-in_err-dpi-clause-none c = λ e options h. c.number-2.ensures.none c.in_err-dpi.was options.dpi h.dpi

pub returns-in_err-width-clause-none : goal.returns-in_err-width-clause-none
returns-in_err-width-clause-none c = λ e options h. c.number-3.ensures.none c.in_err-width.was options.width h.width

pub returns-in_err-height-clause-none : goal.returns-in_err-height-clause-none
returns-in_err-height-clause-none c = λ e options h. c.number-4.ensures.none c.in_err-height.was options.height h.height
