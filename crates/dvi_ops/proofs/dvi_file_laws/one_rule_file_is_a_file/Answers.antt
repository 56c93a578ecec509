use Rattle.dvi_ops.proofs.KnownFiles.{one_rule_is_file}
use Rattle.dvi_ops.proofs.dvi_file_laws.one_rule_file_is_a_file.Goals as goal

pub returns : goal.returns
returns c = one_rule_is_file
