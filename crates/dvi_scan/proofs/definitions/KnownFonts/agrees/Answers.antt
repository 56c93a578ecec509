use Rattle.std.proofs.Common.{List, map, sym, subst}
use Rattle.std.specs.List.{AllByRecursion}
use Rattle.dvi_ops.specs.Fonts.{AgreesWith}
use Rattle.dvi_ops.specs.Instruction.{Definition}
use Rattle.dvi_ops.specs.View.{definition}
use Rattle.dvi_scan.proofs.FirstDefinitionLemmas.{agrees_none, agrees_other, agrees_same}
use Rattle.dvi_scan.proofs.definitions.KnownFonts.agrees.Goals as goal

pub returns-in-Some-clause-yes : goal.returns-in-Some-clause-yes
returns-in-Some-clause-yes c = λ yes.
    subst (λ (ds : List Definition). AllByRecursion (AgreesWith (definition c.args.font.now)) ds) c.self.view_is
    (agrees_same c.self.inside.first (map definition c.self.inside.all.items) c.self.invariant (definition c.args.font.now) c.in-Some.first.now (sym c.in-Some.ensures.value) (c.is_same.ensures.yes yes))

pub returns-in-Some-clause-no : goal.returns-in-Some-clause-no
returns-in-Some-clause-no c = λ no all.
    agrees_other c.self.inside.first (map definition c.self.inside.all.items) c.self.invariant (definition c.args.font.now) c.in-Some.first.now (sym c.in-Some.ensures.value) (c.is_same.ensures.no no)
    (subst (λ (ds : List Definition). AllByRecursion (AgreesWith (definition c.args.font.now)) ds) (sym c.self.view_is) all)

pub returns-in-None-clause-yes : goal.returns-in-None-clause-yes
returns-in-None-clause-yes c = λ yes.
    subst (λ (ds : List Definition). AllByRecursion (AgreesWith (definition c.args.font.now)) ds) c.self.view_is
    (agrees_none c.self.inside.first (map definition c.self.inside.all.items) c.self.invariant (definition c.args.font.now) (sym c.in-None.ensures.value))
