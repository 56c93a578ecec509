use Rattle.boxglue_words.proofs.HostLemmas.{grown_used}
use Rattle.boxglue_words.proofs.file_device.put.Goals as goal

pub returns-clause-used : goal.returns-clause-used
returns-clause-used g c =
    grown_used _ _ c.in_ok-count.count c.args.piece.now c.in_ok-count.ensures.taken c.in_ok-count.ensures.count_bounded.0 c.in_ok-count.ensures.count_bounded.1
