-- Before the first page nothing was seen.
use Rattle.std.proofs.Common.{refl}
use Rattle.dvi_read.proofs.AgainLemmas.{seen_again}
use Rattle.dvi_read.proofs.seen_items.SeenItems.rewind.Goals as goal

pub returns : goal.returns
returns c =
    let (seen, a) = c.requires in
    record { remaining = λ pages has. seen_again c.args.self.now seen pages a has; place = refl; same = refl }
