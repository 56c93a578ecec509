use Rattle.std.proofs.Common.{◌∙◌, arith}
use Rattle.std.proofs.lemmas.List.Sums.{prefix_len-le-length}
use Rattle.boxglue_script.specs.Private.Reading.{in_line}
use Rattle.boxglue_script.proofs.LineLemmas.{first_feed}
use Rattle.boxglue_script.proofs.lines.line_size.Goals as goal

pub returns-clause-size : goal.returns-clause-size
returns-clause-size c = c.unwrap_or.ensures ∙ first_feed c.args.text.now c.memchr.result c.memchr.ensures

pub returns-clause-size_bounded : goal.returns-clause-size_bounded
returns-clause-size_bounded c = omega (arith, prefix_len-le-length in_line c.args.text.now, returns-clause-size c)
