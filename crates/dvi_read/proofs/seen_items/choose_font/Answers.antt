-- The font was read, so it has an index.
use Rattle.std.proofs.Common.{rules, ◌≡◌, [], ◌∷◌, ℕ, ℤ, Option, Some, None, ap, subst, sym, ◌∙◌, to_z, of_z, w32}
use Rattle.std.proofs.lemmas.Int.{ints}
use Rattle.std.specs.Prelude.{IsSome}
use Rattle.std.specs.List.{AllByRecursion}
use Rattle.dvi_ops.specs.Fonts.{selection_of}
use Rattle.dvi_ops.specs.Instruction.{Instruction, Do, FontNum}
use Rattle.dvi_ops.specs.View.{view}
use Rattle.dvi_ops.specs.declared.body_op.BodyOp.{BodyOp}
use Rattle.dvi_ops.specs.declared.op.Op.TheVariants as ops
use Rattle.dvi_read.specs.ReadFonts.{FontIsRead, font_index, with_current}
use Rattle.dvi_read.specs.Private.ReadFonts.{Chooses}
use Rattle.dvi_read.specs.Steps.{FontsAreRead}
use Rattle.dvi_read.proofs.seen_items.choose_font.Goals as goal

pub returns-in-Some : goal.returns-in-Some
returns-in-Some c =
    let fonts = c.args.fonts.now in
    let value = c.in-FontNum.value in
    let is : view c.args.op.now ≡ Do (FontNum value) = ap view (c.in-Body.is ∙ ap (λ (b : BodyOp). ops.Body b) c.in-FontNum.is) in
    let same : value ≡ to_z w32 (of_z w32 value) = search (rules, ints) in
    let there : font_index value fonts ≡ Some c.in-Some.index = ap (λ (z : ℤ). font_index z fonts) same ∙ (sym c.index_of.ensures ∙ c.in-Some.is) in
    subst (λ (i : Instruction). Chooses i (with_current fonts c.args.current.now) (with_current fonts c.in-Some.index)) (sym is) there

pub returns-in_default-index_of : goal.returns-in_default-index_of
returns-in_default-index_of c =
    let fonts = c.args.fonts.now in
    let value = c.in-FontNum.value in
    let is : view c.args.op.now ≡ Do (FontNum value) = ap view (c.in-Body.is ∙ ap (λ (b : BodyOp). ops.Body b) c.in-FontNum.is) in
    let same : value ≡ to_z w32 (of_z w32 value) = search (rules, ints) in
    let none : font_index value fonts ≡ None = ap (λ (z : ℤ). font_index z fonts) same ∙ (sym c.index_of.ensures ∙ c.in_default-index_of.is) in
    let read : AllByRecursion (λ f. FontIsRead f fonts) (value ∷ []) = subst (λ (i : Instruction). FontsAreRead fonts (selection_of i)) is c.requires in
    let nowhere : Option ℕ = None in
    let some : IsSome nowhere = subst (λ (o : Option ℕ). IsSome o) none read.0 in absurd cc
