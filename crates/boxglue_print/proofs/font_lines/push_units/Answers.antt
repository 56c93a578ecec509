-- The five pieces.
use Rattle.std.proofs.Common.{◌≡◌, ◌++◌, rules}
use Rattle.std.proofs.lemmas.Result.{on_ok_weaker}
use Rattle.boxglue_print.specs.FontLines.{space_and_number, units_line}
use Rattle.boxglue_print.proofs.TextLemmas.{five_pieces}
use Rattle.boxglue_print.proofs.font_lines.push_units.Goals as goal

pub returns : goal.returns
unfolding units_line
returns c =
    let units = c.args.units in
    let num : c.push_spaced.new.out.items ≡ c.push_text.new.out.items ++ space_and_number units.num = search rules in
    let den : c.push_spaced-2.new.out.items ≡ c.push_spaced.new.out.items ++ space_and_number units.den = search rules in
    let mag : c.push_spaced-3.new.out.items ≡ c.push_spaced-2.new.out.items ++ space_and_number units.mag = search rules in
    on_ok_weaker c.push_text-2.result (five_pieces _ _ _ _ _ _ _ _ _ _ _ c.in_ok-push_text.ensures.ok num den mag) c.push_text-2.ensures.ok
