-- The files of the fonts so far.
use Rattle.std.proofs.Common.{take}
use Rattle.boxglue_words.specs.Hosts.{AreFilesOf}
use Rattle.boxglue_words.proofs.font_files.read_fonts.Given as goal

abbrev pub invariant-loop-font : goal.invariant-loop-font
invariant-loop-font g l = AreFilesOf (g.H.FileHost.file l.host) (take l.font-index l.fonts) l.files.items
