-- The font whose file was not read.
use Rattle.boxglue_words.proofs.PairLemmas.{handed_on}
use Rattle.boxglue_words.specs.Hosts.{IsUnread}
use Rattle.boxglue_words.proofs.HostLemmas.{first_unread}
use Rattle.boxglue_words.proofs.font_files.read_fonts.Goals as goal

pub returns-in_err-push_font-clause-err : goal.returns-in_err-push_font-clause-err
returns-in_err-push_font-clause-err g c =
    handed_on (IsUnread (g.H.FileHost.file c.args.host.now) c.args.fonts.now) c.from_residual.result c.in_err-push_font.field-0.0 c.from_residual.ensures.1
    (first_unread (g.H.FileHost.file c.args.host.now) c.args.fonts.now c.loop-font.font-index _ c.loop-font.files.items _
    c.loop-font-test.true c.font-item.is c.loop-font.invariant c.in_err-push_font.ensures.err)
