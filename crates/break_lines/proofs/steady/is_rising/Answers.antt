use Rattle.break_lines.proofs.Smalls.{small_prefix}
use Rattle.break_lines.proofs.steady.is_rising.Goals as goal

pub is_no_narrower-requires-clause-sums_bounded : goal.is_no_narrower-requires-clause-sums_bounded
is_no_narrower-requires-clause-sums_bounded c = small_prefix c.args.to.now.from_position c.requires.to.from_position

pub is_no_narrower-requires-clause-than : goal.is_no_narrower-requires-clause-than
is_no_narrower-requires-clause-than c = small_prefix c.args.next.now.from_position c.requires.next.from_position
