-- The files with the one of this font.
use Rattle.std.proofs.Common.{}
use Rattle.boxglue_words.proofs.HostLemmas.{files_push}
use Rattle.boxglue_words.proofs.font_files.push_font.Goals as goal

pub returns-clause-ok : goal.returns-clause-ok
returns-clause-ok g c = λ before files.
    rw c.in_ok-push.ensures.items
    (files_push (g.H.FileHost.file c.args.host.now) before c.args.files.now.items c.args.font.now c.in_ok-file.file files c.in_ok-file.ensures.ok)
