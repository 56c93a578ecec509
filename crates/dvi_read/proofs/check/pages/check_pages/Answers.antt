-- All instructions before post are right, or the rule that one breaks is broken.
use Rattle.std.proofs.Common.{refl}
use Rattle.std.proofs.lemmas.Result.{IfErr-weaker, IfOk-weaker}
use Rattle.dvi_scan.proofs.ErrLemmas.{handed_on}
use Rattle.dvi_scan.specs.Passed.{file_framing}
use Rattle.dvi_ops.specs.View.{view_postamble}
use Rattle.dvi_read.specs.Opening.{IsDviFault, InThePrescan}
use Rattle.dvi_read.proofs.OpenLemmas.{starts_reached, walk_refused}
use Rattle.dvi_read.specs.Private.OpeningParts.{HasPassed}
use Rattle.dvi_read.specs.WalkFaults.{IsWalkFault}
use Rattle.dvi_read.specs.Walks.{IsWalked}
use Rattle.dvi_read.specs.declared.fault.DviFault.TheVariants.{OutOfMemory}
use Rattle.tfm_core.specs.FileWidths.{file_widths}
use Rattle.dvi_read.proofs.check.pages.check_pages.Goals as goal

pub returns-in_err-after_post-clause-bad : goal.returns-in_err-after_post-clause-bad
returns-in_err-after_post-clause-bad c =
    let ending = c.args.ending.now in
    handed_on (IsDviFault c.args.files.now c.args.bytes.now) c.from_residual.result OutOfMemory c.from_residual.ensures.1
    (InThePrescan ending.post ending.after ending.last (view_postamble ending.postamble) c.args.chain.now c.args.from refl c.requires.starts
    c.in_err-after_post.ensures.memory)

pub walk_pages-requires-clause-reached : goal.walk_pages-requires-clause-reached
walk_pages-requires-clause-reached c =
    let ending = c.args.ending.now in
    starts_reached c.args.files.now c.args.bytes.now ending.post ending.after ending.last (view_postamble ending.postamble) c.args.chain.now
    c.args.from c.in_ok-after_post.after_post.keys c.requires.starts

pub returns-clause-bad : goal.returns-clause-bad
returns-clause-bad c =
    let ending = c.args.ending.now in
    let postamble = view_postamble ending.postamble in
    let files = c.args.files.now in
    let after_post = c.in_ok-after_post.after_post.keys in
    IfErr-weaker c.walk_pages.result (IsWalkFault files after_post c.args.bytes.now postamble c.args.chain.now ending.post)
    (IsDviFault files c.args.bytes.now)
    (walk_refused files after_post c.args.bytes.now ending.post ending.after ending.last postamble c.args.chain.now c.args.from c.requires.starts
    c.in_ok-after_post.ensures.ok) c.walk_pages.ensures.bad

pub returns-clause-ok : goal.returns-clause-ok
returns-clause-ok c =
    let ending = c.args.ending.now in
    let postamble = view_postamble ending.postamble in
    let after_post = c.in_ok-after_post.after_post.keys in
    IfOk-weaker c.walk_pages.result (IsWalked (file_widths c.args.files.now) after_post c.args.bytes.now postamble c.args.chain.now ending.post)
    (HasPassed c.args.files.now c.args.bytes.now (file_framing ending.post ending.after ending.last postamble c.args.chain.now) c.args.from)
    (λ walk walked.
    record {
      after_post = after_post;
      selected = walked.selected;
      pass = walked.pass;
      has = record { starts = c.requires.starts; looked = c.in_ok-after_post.ensures.ok; reached = walked.reached };
      pass_state = walked.pass_state;
      read = walked.read;
      sound = walked.sound;
    }) c.walk_pages.ensures.ok
