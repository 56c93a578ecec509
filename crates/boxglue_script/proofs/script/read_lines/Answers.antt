-- The commands that were found are those of the text, and the lines before the one at which memory was refused are right.
use Rattle.std.proofs.Common.{◌≡◌, ◌<◌, ◌+◌, ◌∙◌, vec_len, List, [], ap, refl, sym, subst, arith, Ok, Err}
use Rattle.std.specs.Str.Lines.{lines}
use Rattle.std.proofs.lemmas.Bool.Decides.{nat_tests}
use Rattle.boxglue_script.specs.Blocks.{lines_of}
use Rattle.boxglue_script.proofs.ScriptLaws.{handed_is, read_more, read_whole, right_at_start, right_so_far, right_up_to}
use Rattle.boxglue_script.proofs.PlainTexts.{ArePrintable, plain_lines}
use Rattle.boxglue_script.specs.declared.script.Line.{Line}
use Rattle.boxglue_script.specs.Private.Reading.{LinesOrFault, lines_then, reading_from}
use Rattle.boxglue_script.proofs.script.read_lines.Goals as goal

nothing_found : (found : LinesOrFault) → lines_then [] found ≡ found
nothing_found (Err fault) = refl
nothing_found (Ok more) = refl

pub returns-clause-found : goal.returns-clause-found
returns-clause-found c =
    read_whole _ c.args.text.now c.loop-rest.rest.now (lines_of c.loop-rest.found) (grind (arith, nat_tests)) c.loop-rest.invariant.reading

pub returns-in_err-take_line-clause-memory : goal.returns-in_err-take_line-clause-memory
returns-in_err-take_line-clause-memory c = λ wants.
    let is = handed_is c.from_residual.result c.in_err-take_line.field-0.0 _ c.from_residual.ensures.1 wants in
    right_so_far c.args.text.now c.loop-rest.rest.now c.first_line.result.0.now c.first_line.result.1.now c.loop-rest.invariant.right c.first_line.ensures.lines
    (c.in_err-take_line.ensures.memory (ap Err is))

pub loop-rest-preserved : goal.loop-rest-preserved
loop-rest-preserved c =
    let lines = c.first_line.ensures.lines in
    let on = c.in_ok-take_line.ensures.ok in
    let old = lines_of c.loop-rest.found in
    let new = lines_of c.take_line.new.found in
    record {
      reading = read_more c.loop-rest.number c.args.text.now c.loop-rest.rest.now c.first_line.result.0.now c.first_line.result.1.now old new c.loop-rest.invariant.reading lines on;
      right = right_up_to (c.loop-rest.number + 1) c.args.text.now c.loop-rest.rest.now c.first_line.result.0.now c.first_line.result.1.now old new c.loop-rest.invariant.right lines on;
      counted = omega (arith, c.loop-rest.invariant.counted, c.first_line.ensures.shorter);
      printable = λ plain. (subst ArePrintable c.first_line.ensures.lines (c.loop-rest.invariant.printable plain)).1;
      one = λ fits.
          let one = c.loop-rest.invariant.one fits in
          let below : vec_len c.loop-rest.found.last < c.args.most = omega (arith, fits, one.1, c.loop-rest.invariant.counted, c.first_line.ensures.shorter) in
          (c.in_ok-take_line.ensures.full below ∙ one.0, omega (arith, one.1, c.in_ok-take_line.ensures.last below));
    }

pub loop-rest-init : goal.loop-rest-init
loop-rest-init c =
    let none : lines_of c.new-found.result ≡ [] = rw (c.new-found.ensures.full, c.new-found.ensures.last) refl in
    record {
      reading = ap (λ (found : List Line). lines_then found (reading_from 1 (lines c.args.text.now))) none ∙ nothing_found (reading_from 1 (lines c.args.text.now));
      right = right_at_start c.args.text.now;
      counted = omega arith;
      printable = λ plain. plain_lines c.args.text.now (sym c.is_plain-plain.ensures ∙ plain);
      one = λ fits. (c.new-found.ensures.full, omega (arith, c.new-found.ensures.len));
    }

pub take_line-requires : goal.take_line-requires
take_line-requires c = λ plain. (subst ArePrintable c.first_line.ensures.lines (c.loop-rest.invariant.printable plain)).0
