use Rattle.std.proofs.Common.{ap, ◌∙◌}
use Rattle.tfm_core.specs.Rules.{character_at}
use Rattle.tfm_core.proofs.FontLemmas.{IsInTables-from_character}
use Rattle.tfm_core.proofs.sized_file.SizedFile.character.Goals as goal

pub returns-clause-sizes : goal.returns-clause-sizes
returns-clause-sizes c =
    rw (← c.self.view_is) (IsInTables-from_character _ c.args.code _ c.self.invariant (c.character_at.ensures ∙ ap (λ xs. character_at c.self.inside.first xs c.args.code) c.deref.ensures.value))
