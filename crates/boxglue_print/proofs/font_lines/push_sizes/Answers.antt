-- The four pieces.
use Rattle.std.proofs.Common.{◌≡◌, ◌++◌, OnOk, rules}
use Rattle.std.proofs.lemmas.Result.{on_ok_weaker}
use Rattle.boxglue_print.specs.FontLines.{check_sum_text, sizes, space_and_number}
use Rattle.boxglue_print.proofs.TextLemmas.{four_pieces}
use Rattle.boxglue_print.proofs.font_lines.push_sizes.Goals as goal

pub returns : goal.returns
unfolding sizes
returns c =
    let font = c.args.font.now in
    let size : c.push_spaced.new.out.items ≡ c.args.out.now.items ++ space_and_number font.size = search rules in
    let design_size : c.push_spaced-2.new.out.items ≡ c.push_spaced.new.out.items ++ space_and_number font.design_size = search rules in
    let check_sum : OnOk c.push_check_sum.result (c.push_check_sum.new.out.items ≡ c.push_text.new.out.items ++ check_sum_text font.check_sum) = search rules in
    on_ok_weaker c.push_check_sum.result (four_pieces _ _ _ _ _ _ _ _ _ size design_size c.in_ok-push_text.ensures.ok) check_sum
