use Rattle.std.proofs.Common.{rules, ◌≡◌, ◌++◌, ◌∷◌, [], List, map, sym, ◌∙◌, ap, subst}
use Rattle.std.specs.List.{AllByRecursion}
use Rattle.std.proofs.lemmas.List.{map-append}
use Rattle.dvi_ops.specs.Fonts.{AgreesWith}
use Rattle.dvi_ops.specs.Instruction.{Definition}
use Rattle.dvi_ops.specs.View.{definition}
use Rattle.dvi_ops.specs.declared.op.FontDefinition.{FontDefinition}
use Rattle.dvi_scan.specs.Private.FirstDefinitions.{HasFirstDefinitions}
use Rattle.dvi_scan.proofs.FirstDefinitionLemmas.{kept_more}
use Rattle.dvi_scan.proofs.definitions.KnownFonts.push.Goals as goal

pub invariant_of-self-in-Ok : goal.invariant_of-self-in-Ok
invariant_of-self-in-Ok c =
    let fonts = c.self.inside.all.items in
    let more : c.push.new.self.items ≡ fonts ++ c.args.font.now ∷ [] = search rules in
    subst (λ (ds : List Definition). HasFirstDefinitions c.add_first.new.first ds) (sym (ap (λ (fonts : List FontDefinition). map definition fonts) more ∙ map-append definition fonts (c.args.font.now ∷ [])))
    (kept_more c.self.inside.first c.add_first.new.first (map definition fonts) c.args.font.now c.self.invariant
    (subst (λ (ds : List Definition). AllByRecursion (AgreesWith (definition c.args.font.now)) ds) (sym c.self.view_is) c.requires) c.in-Ok.ensures.ok)
