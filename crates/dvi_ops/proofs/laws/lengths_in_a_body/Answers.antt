use Rattle.dvi_ops.proofs.Shortest as lemmas
use Rattle.dvi_ops.proofs.laws.lengths_in_a_body.Goals as goal

pub returns : goal.returns
returns c = record {
  brief = lemmas.brief_length;
  movement = lemmas.movement_length;
  special = lemmas.special_length;
  definition = lemmas.font_definition_length;
  one = (lemmas.one_byte.1, lemmas.one_byte.2);
}
