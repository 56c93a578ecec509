-- What a reader has lost if a piece was not stored.
use Rattle.std.proofs.Common.{ap, Err, take, ◌+◌, arith}
use Rattle.boxglue_words.proofs.HostLemmas.{handed_is, loses_piece}
use Rattle.boxglue_words.proofs.reading.read_within.Goals as goal

pub returns-in_err-push_piece-in-Ok-clause-memory : goal.returns-in_err-push_piece-in-Ok-clause-memory
returns-in_err-push_piece-in-Ok-clause-memory g c = λ wants.
    let is = handed_is c.from_residual.result c.in_err-push_piece-in-Ok.field-0.0 _ c.from_residual.ensures.1 wants in
    let fits = c.in_err-push_piece-in-Ok.ensures.memory (ap Err is) in
    loses_piece 1 c.args.limit _ _ _ c.loop.bytes.items (take c.in-Ok.count c.read.new.buf) c.loop.invariant.all c.in-Ok.ensures.bytes.0
    (omega (arith, c.in-Ok.ensures.bound.1, c.in-Ok.count-is)) fits

pub returns-in_err-push_piece-in-Ok-clause-failed : goal.returns-in_err-push_piece-in-Ok-clause-failed
returns-in_err-push_piece-in-Ok-clause-failed g c = λ failed.
    let bound = c.in-Ok.ensures.bound in
    loses_piece 0 (c.args.limit + 16384) _ _ _ c.loop.bytes.items (take c.in-Ok.count c.read.new.buf) c.loop.invariant.all c.in-Ok.ensures.bytes.0 (omega arith)
    (omega (arith, c.loop.invariant.within, bound.0, bound.1, c.read.auto.buf))
