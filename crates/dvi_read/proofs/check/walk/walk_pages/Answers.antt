use Rattle.std.proofs.Common.{rules, ◌≡◌, false, min, subst, sym}
use Rattle.dvi_ops.specs.View.{view_postamble}
use Rattle.dvi_read.specs.WalkFaults.{IsWalkFault, page_bytes}
use Rattle.dvi_read.specs.Faults.{fault_in}
use Rattle.dvi_read.specs.Walks.{read_in}
use Rattle.dvi_read.specs.declared.fault.DviFault.{DviFault}
use Rattle.dvi_read.proofs.HeldLemmas.{fault_held, walked_next, walked_same}
use Rattle.dvi_read.proofs.WalkLemmas.{known_sizes, walked_first}
use Rattle.tfm_core.specs.FileWidths.{file_widths}
use Rattle.dvi_read.proofs.check.walk.walk_pages.Goals as goal

pub loop-at-init : goal.loop-at-init
loop-at-init c =
    let source = c.args.source.now in (
      c.requires.low,
      walked_first (file_widths source.files.now) source.after_post.now.keys source.bytes.now (view_postamble source.ending.now.postamble)
          c.args.left.now c.args.from c.walk_start-walk.result c.walk_start-walk.ensures c.requires.reached,
    )

pub read_step-requires-clause-sizes : goal.read_step-requires-clause-sizes
read_step-requires-clause-sizes c =
    let source = c.args.source.now in
    let metrics = file_widths source.files.now in
    let postamble = view_postamble source.ending.now.postamble in
    let fact : c.pass_character.result ≡ false = search rules in
    let walk = c.pass_character.new.walk in
    let walked = walked_same metrics source.after_post.now.keys source.bytes.now postamble c.args.left.now c.loop-at.at c.loop-at.walk walk
    (c.pass_character.ensures.same fact) c.loop-at.invariant.1 in
    known_sizes metrics source.after_post.now.keys source.bytes.now postamble c.args.left.now c.loop-at.at (read_in walked.pass walked.selected walk)
    walked.reached

pub returns-in-Err-clause-bad : goal.returns-in-Err-clause-bad
returns-in-Err-clause-bad c =
    let source = c.args.source.now in
    let metrics = file_widths source.files.now in
    let postamble = view_postamble source.ending.now.postamble in
    let fact : c.pass_character.result ≡ false = search rules in
    let walk = c.pass_character.new.walk in
    let walked = walked_same metrics source.after_post.now.keys source.bytes.now postamble c.args.left.now c.loop-at.at c.loop-at.walk walk
    (c.pass_character.ensures.same fact) c.loop-at.invariant.1 in
    subst (λ (fault : DviFault). IsWalkFault source.files.now source.after_post.now.keys source.bytes.now postamble c.args.left.now
    source.ending.now.post fault) (sym c.at.ensures) (
      c.loop-at.at,
      record {
        before = c.loop-at-test.true;
        seen = read_in walked.pass walked.selected walk;
        reached = walked.reached;
        fault_is = fault_held source.files.now
            (page_bytes source.after_post.now.keys source.bytes.now (min 1024 postamble.stack_depth) source.ending.now.post) c.loop-at.at
            walked.pass walked.selected walk (fault_in c.loop-at.at c.in-Err.fault) walked.pass_state
            (c.in-Err.ensures.bad walked.selected walked.read);
      },
    )

pub loop-at-preserved : goal.loop-at-preserved
loop-at-preserved c =
    let source = c.args.source.now in
    let metrics = file_widths source.files.now in
    let postamble = view_postamble source.ending.now.postamble in
    let fact : c.pass_character.result ≡ false = search rules in
    let walk = c.pass_character.new.walk in
    let walked = walked_same metrics source.after_post.now.keys source.bytes.now postamble c.args.left.now c.loop-at.at c.loop-at.walk walk
    (c.pass_character.ensures.same fact) c.loop-at.invariant.1 in
    let reads = c.in-Ok.ensures.ok in
    let release = c.release.ensures in (
      reads.within,
      walked_next metrics source.after_post.now.keys source.bytes.now postamble c.args.left.now c.loop-at.at source.ending.now.post c.in-Ok.next walk
          c.read_step.new.walk c.release.new.walk
          c.requires.high walked reads release.pass_state release.selected release.fonts release.known release.left,
    )
