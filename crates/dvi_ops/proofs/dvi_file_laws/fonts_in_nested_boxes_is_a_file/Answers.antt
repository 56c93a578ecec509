use Rattle.dvi_ops.proofs.KnownFiles.{fonts_in_nested_boxes_is_file}
use Rattle.dvi_ops.proofs.dvi_file_laws.fonts_in_nested_boxes_is_a_file.Goals as goal

pub returns : goal.returns
returns c = fonts_in_nested_boxes_is_file
