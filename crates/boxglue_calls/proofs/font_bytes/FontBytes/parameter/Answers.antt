-- The word of a parameter that is there; 0 for another.
use Rattle.std.proofs.Common.{◌∙◌, sym}
use Rattle.boxglue_calls.proofs.MetricBytes.{no_parameter, parameter_reads}
use Rattle.boxglue_calls.proofs.MetricLaws.{same_word, word_fits}
use Rattle.boxglue_calls.proofs.font_bytes.FontBytes.parameter.Goals as goal

pub returns-then-n-self-clause-value : goal.returns-then-n-self-clause-value
returns-then-n-self-clause-value c =
    let font = c.args.self.now in
    no_parameter font.bytes.now font.places c.args.n font.read font.placed c.requires.number c.if-n-self.true

pub word-requires : goal.word-requires
word-requires c =
    let font = c.args.self.now in
    (parameter_reads font.bytes.now font.places c.args.n font.read font.placed c.requires.number c.if-n-self.false).fits

pub returns-clause-value : goal.returns-clause-value
returns-clause-value c =
    let font = c.args.self.now in
    let reads = parameter_reads font.bytes.now font.places c.args.n font.read font.placed c.requires.number c.if-n-self.false in
    same_word c.word.result _ c.word.ensures.fits (c.word.ensures.value ∙ sym reads.is)

pub returns-clause-fits : goal.returns-clause-fits
returns-clause-fits c = word_fits c.word.result c.word.ensures.fits
