-- The line goes into its buffer, or it does not fit.
use Rattle.std.proofs.Common.{refl}
use Rattle.boxglue_calls.proofs.MarkTableLaws.{refusal_handed}
use Rattle.boxglue_calls.proofs.mark_table.hand_over_refusal.Goals as goal

pub returns : goal.returns
returns c = λ files bytes refusal pages marks.
    refusal_handed files bytes c.args.line.now pages marks c.args.text.now c.hand_over.new.buffer _ c.hand_over.result refusal c.hand_over.ensures refl refl refl refl
