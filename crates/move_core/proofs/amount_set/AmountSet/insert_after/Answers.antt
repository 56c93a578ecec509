use Rattle.std.proofs.Common.{◌≡◌, ◌∙◌, sym, ap, Bool, ℤ, to_z, of_z, w32, arith}
use Rattle.std.specs.Prelude.{◌||◌, not}
use Rattle.std.specs.Ordering.{int_cmp}
use Rattle.std.specs.BTreeSet.{contains}
use Rattle.std.proofs.lemmas.Int.{ints}
use Rattle.move_core.specs.Private.Passes.{has_amount}
use Rattle.move_core.proofs.amount_set.AmountSet.insert_after.Goals as goal

pub returns-then-self-lt16-clause-added : goal.returns-then-self-lt16-clause-added
unfolding has_amount
returns-then-self-lt16-clause-added c =
    let set = c.args.self.now.others in
    let same : to_z w32 (of_z w32 c.args.amount) ≡ c.args.amount = omega (arith, ints, c.ranges.amount.sfits) in
    let has : c.contains-is_new.result ≡ contains int_cmp set c.args.amount = c.contains-is_new.ensures ∙ ap (λ (n : ℤ). contains int_cmp set n) same in
    ap not (has ∙ sym (ap (λ (b : Bool). b || contains int_cmp set c.args.amount) c.requires))
