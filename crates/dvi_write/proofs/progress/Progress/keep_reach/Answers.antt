use Rattle.ship_core.proofs.DrawnPages.{fits_down, fits_right}
use Rattle.dvi_write.specs.Admitted.{shipped_page}
use Rattle.dvi_write.proofs.progress.Progress.keep_reach.Goals as goal

pub reach_down-requires : goal.reach_down-requires
reach_down-requires c = fits_down (shipped_page c.args.page.now) c.requires

pub reach_right-requires : goal.reach_right-requires
reach_right-requires c = fits_right (shipped_page c.args.page.now) c.requires
