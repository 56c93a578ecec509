-- What a new session keeps of its invariant. The search for it unfolds the registers of the job, and does not end.
use Rattle.std.proofs.Common.{◌≡◌, ◌+◌, ◌<◌, ◌^◌, [], ℕ, List, arith, length, ap}
use Rattle.boxglue_program.proofs.SessionEnds.{no_feed}
use Rattle.boxglue_program.proofs.session.Session.new.Goals as goal

-- A limit can be counted while no byte is kept.
nothing_kept : (kept : List ℕ) → (limit : ℕ) → kept ≡ [] → limit < 2 ^ 64 → 0 + length kept + limit < 2 ^ 64
nothing_kept kept limit none fits = let empty : length kept ≡ 0 = ap length none in omega (arith, empty, fits)

pub invariant_of-result : goal.invariant_of-result
invariant_of-result g c = (
  c.in-Ok.ensures.items,
  c.in-Ok-from_elem.ensures.len,
  no_feed c.new-2.result.items c.new-2.ensures.items,
  nothing_kept c.new-2.result.items c.args.limit c.new-2.ensures.items c.ranges.limit.fits,
)
