use Rattle.std.proofs.Common.{◌∙◌, sym, ap, map, subst}
use Rattle.dvi_ops.specs.View.{body_view}
use Rattle.move_core.specs.SamePage.{IsPlainBody}
use Rattle.move_core.proofs.page.reuse_list.Goals as goal

pub reuse-requires : goal.reuse-requires
reuse-requires c = subst IsPlainBody (sym c.in_ok-drawn.ensures) c.requires

pub returns : goal.returns
returns c body same = c.in_ok-written.ensures ∙ (ap (map body_view) c.deref.ensures.value ∙ c.in_ok-ops.ensures.reused body (c.in_ok-drawn.ensures ∙ same))
