use Rattle.std.proofs.Common.{◌≡◌, ◌∙◌, ℕ, ap, arith}
use Rattle.std.specs.Prelude.{filter}
use Rattle.dvi_write.specs.FilePages.{numbers_below}
use Rattle.dvi_write.specs.Private.FilePages.{is_marked_fresh}
use Rattle.dvi_write.proofs.FreshFonts.{marked_below, none_below}
use Rattle.dvi_write.proofs.layout.marked_fresh.Goals as goal

pub loop-slot-init : goal.loop-slot-init
loop-slot-init c =
    c.new-slots.ensures.items ∙ none_below c.args.fonts.now c.args.defined.now c.args.passed.now.selected c.args.passed.now.first
    (λ slot below. c.requires.first slot (omega (arith, below, c.requires.first_bounded, c.requires.limit_bounded)) below)

pub returns : goal.returns
returns c =
    let all : c.loop-slot.slot ≡ c.args.passed.now.limit = omega (arith, c.loop-slot-test.false, c.loop-slot.auto.slot-end) in
    c.loop-slot.invariant
    ∙ (ap (λ (n : ℕ). filter (is_marked_fresh c.args.fonts.now c.args.defined.now c.args.passed.now.selected) (numbers_below n)) all
    ∙ marked_below c.args.fonts.now c.args.defined.now c.args.passed.now.selected c.args.passed.now.limit c.requires.limit_bounded c.requires.limit)
