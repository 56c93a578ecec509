use Rattle.dvi_scan.proofs.AfterPostLemmas.{looked}
use Rattle.dvi_scan.proofs.closing_laws.all_are_after_post.Goals as goal

pub returns : goal.returns
returns c = looked
