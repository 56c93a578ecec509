use Rattle.dvi_write.specs.SoFar.{nothing_so_far}
use Rattle.dvi_write.proofs.NextPages.{front-append, layout-is, size-some, so_far-append}
use Rattle.dvi_write.proofs.laws.kept_numbers_are_those_of_the_file.Goals as goal

pub returns : goal.returns
returns c = record { layout = λ fonts pages. layout-is fonts nothing_so_far pages; size = size-some; kept = so_far-append; sent = front-append }
