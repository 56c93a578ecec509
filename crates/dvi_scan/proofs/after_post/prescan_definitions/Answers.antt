use Rattle.std.proofs.Common.{arith, subst, ◌≡◌, ℕ, Option}
use Rattle.std.specs.Prelude.{IfNone, IfSome}
use Rattle.std.specs.BTreeSet.{IsUnchanged}
use Rattle.dvi_ops.specs.Fonts.{definitions}
use Rattle.dvi_ops.specs.Tokens.{token_instructions}
use Rattle.dvi_scan.specs.AfterPost.{NothingIdle}
use Rattle.dvi_scan.specs.Private.AfterPost.{LooksOne}
use Rattle.dvi_scan.proofs.AfterPostLemmas.{idle_more, looked_there, nothing_at_bound, same_numbers}
use Rattle.dvi_scan.proofs.after_post.prescan_definitions.Goals as goal

pub returns-in-None-clause-ok : goal.returns-in-None-clause-ok
returns-in-None-clause-ok c =
    let (low, high, tokens, idle, has) = c.loop-at.invariant in
    let none =
    subst (λ (o : Option ℕ). IfNone o (NothingIdle c.args.bytes.now c.loop-at.at c.args.to × IsUnchanged c.loop-at.numbers c.look_one.new.numbers)) c.in-None.is c.in_ok-next.ensures.none in
    looked_there c.args.bytes.now c.args.from c.loop-at.at c.args.to tokens c.look_one.new.numbers.keys low high idle
    (same_numbers c.loop-at.numbers.keys c.look_one.new.numbers.keys (definitions (token_instructions tokens)) none.1 has) none.0

pub loop-at-preserved : goal.loop-at-preserved
loop-at-preserved c =
    let (low, high, tokens, idle, has) = c.loop-at.invariant in
    let one = subst (λ (o : Option ℕ). IfSome o (LooksOne c.args.bytes.now c.loop-at.at c.args.to c.loop-at.numbers.keys c.look_one.new.numbers.keys)) c.in-Some.is c.in_ok-next.ensures.definition_found in
    let forward = one.forward in
    let (more, there, kept) = idle_more c.args.bytes.now c.args.from c.loop-at.at c.args.to c.in-Some.next tokens c.loop-at.numbers.keys c.look_one.new.numbers.keys low c.requires.high idle has one in
    (omega arith, one.within, more, there, kept)

pub returns-clause-ok : goal.returns-clause-ok
returns-clause-ok c =
    let (low, high, tokens, idle, has) = c.loop-at.invariant in
    let stopped = c.loop-at-test.false in
    let same : c.args.to ≡ c.loop-at.at = omega arith in
    looked_there c.args.bytes.now c.args.from c.loop-at.at c.args.to tokens c.loop-at.numbers.keys low high idle has
    (subst (λ (n : ℕ). NothingIdle c.args.bytes.now n c.args.to) same (nothing_at_bound c.args.bytes.now c.args.to))
