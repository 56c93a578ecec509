-- Fonts that were read from the font files of a job (own; the crates of the job alone).
use Rattle.std.specs.Prelude.{IfOk}
use Rattle.tfm_core.specs.NamedBytes.{IsFontName}
use Rattle.tfm_core.specs.Fonts.{HasNumbers}
use Rattle.job_machine.specs.declared.command.FontLoad.{FontLoad}
use Rattle.job_machine.specs.declared.command.Command.{Command}
use Rattle.job_machine.specs.declared.command.Command.TheVariants.{LoadFont}
use Rattle.job_machine.specs.State.{State, font_for}

-- If the files give the font that a command asks for, then a file of pages can define it.
abbrev pub GivesNumbers : State → FontLoad → Type 0
GivesNumbers s load = IsFontName load.name × IfOk (font_for s load) HasNumbers

-- If a command loads a font that the files give, then a file of pages can define this font; every other command satisfies this.
abbrev pub GivesNumbersFor : State → Command → Type 0
GivesNumbersFor s (LoadFont load) = GivesNumbers s load
GivesNumbersFor s command = Unit {0}
