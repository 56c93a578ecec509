-- Before the first page nothing was seen.
use Rattle.std.proofs.Common.{◌≡◌, [], None, Some, ap, subst, sym, ◌∙◌}
use Rattle.dvi_read.specs.Opened.{OpenedFile}
use Rattle.dvi_read.specs.Seen.{seen_of}
use Rattle.dvi_read.specs.ItemsLeft.{HasCheckedPages}
use Rattle.dvi_read.proofs.check.dvi.Dvi.seen_items.Goals as goal

pub returns-clause-remaining : goal.returns-clause-remaining
returns-clause-remaining c =
    record {
      pages = [];
      marks = [];
      all = c.self.inside.shown.pages;
      rest = c.self.invariant.1.has;
      ready = record {
        none = c.in_ok-page.ensures.none;
        space = c.in_ok-page.ensures.space;
        current =
            λ f e. (let none : None ≡ Some f = sym c.in_ok-page.ensures.font ∙ e in absurd cc);
      };
      seen_is = ap (λ (o : OpenedFile). seen_of o.pages) c.self.view_is;
    }

pub returns-clause-all : goal.returns-clause-all
returns-clause-all c = subst (λ (o : OpenedFile). HasCheckedPages c.self.inside.file o.pages) c.self.view_is c.self.invariant.1.has
