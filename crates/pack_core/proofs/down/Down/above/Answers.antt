use Rattle.std.proofs.Common.{◌≡◌, ◌∙◌, refl, arith, to_z, of_z}
use Rattle.std.specs.Prelude.{◌+ℤ◌}
use Rattle.std.specs.Int.{w128}
use Rattle.std.proofs.lemmas.Int.{ints, clamps}
use Rattle.pack_core.proofs.Composed.{measures-joined, joined-small}
use Rattle.pack_core.proofs.Passing.{within-more}
use Rattle.pack_core.proofs.down.Down.above.Goals as goal

pub sum_of-advance-requires-clause-small : goal.sum_of-advance-requires-clause-small
sum_of-advance-requires-clause-small c = record {
  low = omega (arith, ints, c.requires.small.advance.low);
  high = omega (arith, ints, c.requires.small.advance.high);
}

pub sum_of-advance-requires-clause-other_small : goal.sum_of-advance-requires-clause-other_small
sum_of-advance-requires-clause-other_small c = record {
  low = omega (arith, ints, c.requires.tail_small.advance.low);
  high = omega (arith, ints, c.requires.tail_small.advance.high);
}

pub sum_with-stretch-requires-clause-small : goal.sum_with-stretch-requires-clause-small
sum_with-stretch-requires-clause-small c = within-more _ _ c.args.self.stretch (omega arith) c.requires.small.stretch

pub sum_with-shrink-requires-clause-small : goal.sum_with-shrink-requires-clause-small
sum_with-shrink-requires-clause-small c = within-more _ _ c.args.self.shrink (omega arith) c.requires.small.shrink

-- The sum of the advances does not overflow.
advances : (c : goal.After-pending_below) → to_z w128 (of_z w128 c.sum_of-advance.result) ≡ c.args.self.advance +ℤ c.args.tail.now.down.advance
advances c =
    let own : to_z w128 (of_z w128 c.args.self.advance) ≡ c.args.self.advance = omega (arith, ints, c.requires.small.advance.low, c.requires.small.advance.high) in
    let below : to_z w128 (of_z w128 c.args.tail.now.down.advance) ≡ c.args.tail.now.down.advance =
    omega (arith, ints, c.requires.tail_small.advance.low, c.requires.tail_small.advance.high) in
    let value : c.sum_of-advance.result ≡ c.args.self.advance +ℤ c.args.tail.now.down.advance = c.sum_of-advance.ensures ∙ rw (own, below) refl in
    let whole : to_z w128 (of_z w128 c.sum_of-advance.result) ≡ c.sum_of-advance.result =
    omega (arith, ints, value, c.requires.small.advance.low, c.requires.small.advance.high, c.requires.tail_small.advance.low, c.requires.tail_small.advance.high) in
    whole ∙ value

pub returns-clause-value : goal.returns-clause-value
returns-clause-value c = λ before after are is.
    measures-joined before after c.args.self c.args.tail.now _ are is (advances c) (omega (arith, ints, clamps)) c.pending_below.ensures
    (record { normal = c.sum_with-stretch.ensures.normal; fil = c.sum_with-stretch.ensures.fil; fill = c.sum_with-stretch.ensures.fill; filll = c.sum_with-stretch.ensures.filll })
    (record { normal = c.sum_with-shrink.ensures.normal; fil = c.sum_with-shrink.ensures.fil; fill = c.sum_with-shrink.ensures.fill; filll = c.sum_with-shrink.ensures.filll })

pub returns-clause-bound : goal.returns-clause-bound
returns-clause-bound c = λ m n small tail.
    joined-small m n c.args.self c.args.tail.now.down _ small tail (advances c) (omega (arith, ints, clamps))
    (record { normal = c.sum_with-stretch.ensures.normal; fil = c.sum_with-stretch.ensures.fil; fill = c.sum_with-stretch.ensures.fill; filll = c.sum_with-stretch.ensures.filll })
    (record { normal = c.sum_with-shrink.ensures.normal; fil = c.sum_with-shrink.ensures.fil; fill = c.sum_with-shrink.ensures.fill; filll = c.sum_with-shrink.ensures.filll })
