use Rattle.dvi_write.proofs.Writings.{written_with_more}
use Rattle.dvi_write.proofs.laws.more_fonts_keep_what_was_written.Goals as goal

pub returns : goal.returns
returns c fonts more before w pages extends written = written_with_more fonts more before w pages extends written
