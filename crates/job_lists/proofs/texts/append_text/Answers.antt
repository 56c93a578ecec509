use Rattle.std.proofs.Common.{◌∙◌, sym}
use Rattle.job_lists.proofs.ShapedTexts.{reply_to_none, items_with_none}
use Rattle.job_lists.proofs.texts.append_text.Goals as goal

pub returns-then-is_empty-clause-reply : goal.returns-then-is_empty-clause-reply
returns-then-is_empty-clause-reply c =
    reply_to_none c.args.loaded.now c.args.slot c.args.text.now c.args.items.now.items (sym c.is_empty.ensures ∙ c.if-is_empty.true) c.requires

pub returns-then-is_empty-clause-items : goal.returns-then-is_empty-clause-items
returns-then-is_empty-clause-items c =
    items_with_none c.args.loaded.now c.args.slot c.args.text.now c.args.items.now.items (sym c.is_empty.ensures ∙ c.if-is_empty.true) c.requires
