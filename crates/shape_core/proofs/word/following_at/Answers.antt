use Rattle.std.proofs.Common.{sym}
use Rattle.shape_core.proofs.FrontLemmas.{front-none, front-other, front-space}
use Rattle.shape_core.proofs.word.following_at.Goals.{else-until_space-via-then-until_space+else-following-eq32, else-until_space-via-else-until_space}
use Rattle.shape_core.proofs.word.following_at.Goals as goal

pub returns-in_default : goal.returns-in_default
returns-in_default c = sym (front-none c.args.until_space c.args.text.now c.args.index (sym c.in_default.ensures))

pub returns-then-following-eq32 : goal.returns-then-following-eq32
returns-then-following-eq32 c =
    sym (front-space c.args.until_space c.args.text.now c.args.index c.in-Some.following c.if-until_space.true (sym c.in-Some.ensures) c.if-following-eq32.true)

pub returns : goal.returns
returns c =
    sym (front-other c.args.until_space c.args.text.now c.args.index c.in-Some.following c.requires (sym c.in-Some.ensures)
    (elim c.else-until_space.branch [ else-until_space-via-then-until_space+else-following-eq32 w ↦ (λ on is. w.if-following-eq32.false is) | else-until_space-via-else-until_space w ↦ (λ on is. absurd (cc (on, w.if-until_space.false))) ]))
