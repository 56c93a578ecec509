use Rattle.std.proofs.Common.{◌≤◌, ◌-◌, List}
use Rattle.dvi_ops.specs.Fonts.{definitions}
use Rattle.dvi_ops.specs.Tokens.{Token, token_instructions}
use Rattle.dvi_scan.specs.Reached.{AreNumbersOf}
use Rattle.dvi_scan.specs.AfterPost.{AreIdle}
use Rattle.dvi_scan.proofs.after_post.prescan_definitions.Given as goal

-- The instructions before the place are nops and definitions, and their numbers are kept.
abbrev pub invariant-loop-at : goal.invariant-loop-at
invariant-loop-at l = (l.from ≤ l.at) × (l.at ≤ l.to) × (tokens : List Token) × AreIdle l.bytes l.from l.at tokens × AreNumbersOf l.numbers.keys (definitions (token_instructions tokens))

abbrev pub decreases-loop-at : goal.decreases-loop-at
decreases-loop-at l = l.to - l.at
