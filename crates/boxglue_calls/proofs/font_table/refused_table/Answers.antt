-- The line of the refusal, and no rows.
use Rattle.std.proofs.Common.{refl}
use Rattle.boxglue_calls.proofs.FontTableLaws.{refuses}
use Rattle.boxglue_calls.proofs.font_table.refused_table.Goals as goal

pub returns : goal.returns
returns c = λ bytes broken. refuses bytes _ _ _ c.args.fault c.in_ok-text.ensures.other c.in_ok-text.ensures.text refl c.new.ensures.items broken
