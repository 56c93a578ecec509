use Rattle.dvi_ops.proofs.Shortest as lemmas
use Rattle.dvi_ops.proofs.laws.lengths_around_bodies.Goals as goal

pub returns : goal.returns
returns c = record {
  bop = lemmas.page_length;
  eop = lemmas.one_byte.0;
  pre = lemmas.preamble_length;
  post = lemmas.postamble_length;
  post_post = lemmas.ending_length;
}
