use Rattle.std.proofs.Common.{◌≡◌, take}
use Rattle.boxglue_calls.specs.Fonts.{files_of}
use Rattle.boxglue_calls.proofs.given.font_files.Given as goal

abbrev pub invariant-loop-font : goal.invariant-loop-font
invariant-loop-font l = l.files.items ≡ files_of (take l.font-index l.fonts)
