use Rattle.move_core.proofs.SameBody.{plain_forest, reused_meaning, reused_places, reused_nests, reused_length, reused_order, reused_fits}
use Rattle.move_core.proofs.SameBody.{reused_full, reused_uses, reused_before}
use Rattle.move_core.proofs.laws.reused_means_the_same.Goals as goal

pub returns : goal.returns
returns c = record {
  meaning = λ body plain. reused_meaning body (plain_forest body plain);
  points = λ body plain. reused_places body (plain_forest body plain);
  nesting = reused_nests;
  bytes = reused_length;
  order = reused_order;
  writable = reused_fits;
  full = reused_full;
  held = λ body axis plain. reused_uses axis body (plain_forest body plain);
  set_before_use = λ body axis plain. reused_before axis body (plain_forest body plain);
}
