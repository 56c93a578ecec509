use Rattle.std.proofs.Common.{◌≤◌, ◌-◌, ℕ, inl, get_or, drop, slice_index, sym, subst, take, arith}
use Rattle.dvi_ops.specs.View.{view}
use Rattle.std.proofs.lemmas.Int.{ints}
use Rattle.dvi_scan.proofs.PlaceLemmas.{first_between, nothing_spelled, one_byte, some_between, some_size, spelled_between}
use Rattle.dvi_scan.proofs.at_place.read_at.Goals as goal

pub returns-in-Ok-clause-after : goal.returns-in-Ok-clause-after
returns-in-Ok-clause-after c = let some = some_size (view c.in-Ok.op) c.in-Ok.size _ c.in-Ok.ensures.found in omega arith

pub returns-in-Err-clause-none : goal.returns-in-Err-clause-none
returns-in-Err-clause-none c = nothing_spelled c.args.bytes.now c.args.place c.args.bound c.in-Err.ensures.none

pub returns-in-Err-clause-first : goal.returns-in-Err-clause-first
returns-in-Err-clause-first c = λ e. some_between c.args.bytes.now c.args.place c.args.bound (c.in-Err.ensures.opcode.0 e)

pub returns-in-Err-clause-truncated : goal.returns-in-Err-clause-truncated
returns-in-Err-clause-truncated c = λ e below code.
    let here : 250 ≤ slice_index (take (c.args.bound - c.args.place) (drop c.args.place c.args.bytes.now)) 0 =
    subst (λ (n : ℕ). 250 ≤ n) (sym (first_between c.args.bytes.now c.args.place c.args.bound below)) code in
    let opcode = c.in-Err.ensures.opcode.1 here in
    absurd cc

pub returns-then-bytes-place-lt128-clause-found : goal.returns-then-bytes-place-lt128-clause-found
returns-then-bytes-place-lt128-clause-found c =
    let bytes = c.args.bytes.now in
    inl (
      get_or bytes c.args.place 0,
      c.if-bytes-place-lt128.true,
      omega (arith, ints, c.from.ensures),
      one_byte bytes c.args.place (omega (arith, c.if-place-bound.true, c.requires.high)),
    )

pub returns-in-Ok-clause-found : goal.returns-in-Ok-clause-found
returns-in-Ok-clause-found c = spelled_between c.args.bytes.now c.args.place c.args.bound c.in-Ok.size (view c.in-Ok.op) c.in-Ok.ensures.length c.in-Ok.ensures.found
