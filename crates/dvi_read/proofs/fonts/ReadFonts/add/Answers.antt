use Rattle.std.proofs.Common.{rules, ◌≡◌, length, ℕ, ℤ, Some, subst₂, to_z, of_z, w32}
use Rattle.std.proofs.lemmas.Int.{ints}
use Rattle.std.specs.BTreeMap.{Updates}
use Rattle.std.specs.Ordering.{int_cmp}
use Rattle.dvi_read.proofs.fonts.ReadFonts.add.Goals as goal

pub returns-clause-indices : goal.returns-clause-indices
returns-clause-indices c =
    let number : to_z w32 (of_z w32 c.args.number.value) ≡ c.args.number.value = search (rules, ints) in
    let index : c.len-index.result ≡ length c.args.self.now.all.items = search rules in
    subst₂ (λ (f : ℤ) (n : ℕ). Updates int_cmp c.args.self.now.indices c.insert.new.self f (Some n)) number index c.in_ok-insert.ensures.updates
