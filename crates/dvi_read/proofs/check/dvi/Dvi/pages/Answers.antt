-- There is a place for each page.
use Rattle.std.proofs.Common.{◌≡◌, ap, length, rules, ◌∙◌}
use Rattle.dvi_read.specs.Opened.{OpenedFile}
use Rattle.dvi_read.proofs.ShownLemmas.{as_many_places}
use Rattle.dvi_read.proofs.check.dvi.Dvi.pages.Goals as goal

pub returns : goal.returns
returns c =
    let size : c.len.result ≡ length c.self.inside.file.places.items = search rules in
    size ∙ (as_many_places c.self.inside.file c.self.inside.shown.pages c.self.invariant.1 ∙ ap (λ (o : OpenedFile). length o.pages) c.self.view_is)
