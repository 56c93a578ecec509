-- The bytes of the bitmap, or the line of the refusal.
use Rattle.std.proofs.Common.{◌∙◌, refl}
use Rattle.boxglue_calls.specs.Fonts.{files_of}
use Rattle.boxglue_calls.proofs.PageLaws.{painted_bits, refused_bits}
use Rattle.boxglue_calls.proofs.page_bits.bitmap_bits.Goals as goal

pub returns-in-Refusal-clause-ok : goal.returns-in-Refusal-clause-ok
returns-in-Refusal-clause-ok c =
    refused_bits c.deref.result.now (files_of c.args.fonts.now) c.args.dvi.now c.args.options c.in_ok-painting.painting c.in-Refusal.text
    (c.deref.ensures.value ∙ c.in_ok-files.ensures.copied) c.in_ok-painting.ensures.pixels c.in-Refusal.is

pub returns-clause-ok : goal.returns-clause-ok
returns-clause-ok c =
    painted_bits c.deref.result.now (files_of c.args.fonts.now) c.args.dvi.now c.args.options c.in_ok-painting.painting c.in-Painted.bitmap _ _
    (c.deref.ensures.value ∙ c.in_ok-files.ensures.copied) c.in_ok-painting.ensures.pixels c.in-Painted.is c.in_ok-text.ensures refl
