use Rattle.dvi_ops.proofs.Kept.{kept_by_append, kept_at_err}
use Rattle.dvi_ops.proofs.Runs.{characters_apart}
use Rattle.dvi_ops.proofs.run_spelling.append_characters.Goals as goal

pub returns-clause-ok : goal.returns-clause-ok
returns-clause-ok c =
    characters_apart c.append_plain-plain.result c.args.codes.now _ _ _ c.append_plain-plain.ensures.bytes c.in_ok-append_each.ensures.ok

pub returns-in_err-append_each-clause-left : goal.returns-in_err-append_each-clause-left
returns-in_err-append_each-clause-left c =
    kept_at_err _ _ _ _ (kept_by_append _ _ _ c.append_plain-plain.ensures.bytes) c.in_err-append_each.ensures.left
