use Rattle.dvi_ops.proofs.NoFiles.{self_naming_is_none, stray_pop_is_none, short_is_none, miscounted_is_none, undefined_font_is_none, shallow_is_none}
use Rattle.dvi_ops.proofs.dvi_file_laws.what_is_no_file.Goals as goal

pub returns : goal.returns
returns c =
    record {
      pointer = self_naming_is_none;
      pop = stray_pop_is_none;
      padding = short_is_none;
      count = miscounted_is_none;
      font = undefined_font_is_none;
      depth = shallow_is_none;
    }
