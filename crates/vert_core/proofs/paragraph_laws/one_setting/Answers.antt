use Rattle.vert_core.specs.declared.paragraph.ParagraphFault.TheVariants.{OutOfMemory}
use Rattle.std.proofs.Common.{refl}
use Rattle.vert_core.proofs.Settings.{paragraph_set, paragraph_unset}
use Rattle.vert_core.proofs.SettingIs.{paragraph_is_set, paragraph_is_unset}
use Rattle.vert_core.proofs.paragraph_laws.one_setting.Goals as goal

pub returns-clause-set : goal.returns-clause-set
returns-clause-set c = paragraph_set

pub returns-clause-unset : goal.returns-clause-unset
returns-clause-unset c = paragraph_unset

pub returns-clause-breakable : goal.returns-clause-breakable
returns-clause-breakable c = λ list params previous set is. (paragraph_is_set list params previous set is).0

pub returns-clause-is_set : goal.returns-clause-is_set
returns-clause-is_set c = λ list params previous set is. (paragraph_is_set list params previous set is).1

pub returns-clause-is_unset : goal.returns-clause-is_unset
returns-clause-is_unset c = λ list params previous fault is. (paragraph_is_unset list params previous fault is).1

pub returns-clause-has_memory : goal.returns-clause-has_memory
returns-clause-has_memory c = λ list params previous is. (paragraph_is_unset list params previous OutOfMemory is).0 refl
