-- The instruction that an op represents, where it is of a kind that is searched for, or is not.
use Rattle.std.proofs.Common.{◌≡◌, List, ℕ, ℤ, refl, sym, subst, ap, ◌∙◌}
use Rattle.dvi_ops.specs.Instruction.{Instruction, Do, Push, Pop, Post, Bop, Pre, Postamble, Units}
use Rattle.dvi_ops.specs.View.{body_view, units, view}
use Rattle.dvi_ops.specs.declared.body_op.BodyOp.{BodyOp}
use Rattle.dvi_ops.specs.declared.body_op.BodyOp.TheVariants as bodies
use Rattle.dvi_ops.specs.declared.op.Units.{Units as Measures}
use Rattle.dvi_ops.specs.declared.op.Op.{Op}
use Rattle.dvi_ops.specs.declared.op.Op.TheVariants as ops

-- An instruction that may stand in a body.
abbrev pub IsInBody : Instruction → Type 0
IsInBody (Do leaf) = Unit {0}
IsInBody Push = Unit {0}
IsInBody Pop = Unit {0}
IsInBody i = ⊥

pub in_body : (op : BodyOp) → IsInBody (body_view op)
in_body bodies.Nop = tt
in_body op = tt

-- An op other than post represents no post.
pub no_post : (op : Op) → ((postamble : _) → op ≡ ops.Post postamble → ⊥) → (p : Postamble) → view op ≡ Post p → ⊥
no_post (ops.Post postamble) not p e = not postamble refl
no_post (ops.Body op) not p e = subst IsInBody e (in_body op)
no_post op not p e = absurd cc

-- An op other than bop represents no bop.
pub no_bop : (op : Op) → ((counts : List ℤ) (pointer : ℤ) → op ≡ ops.Bop counts pointer → ⊥) → (counts : List ℤ) (pointer : ℤ) → view op ≡ Bop counts pointer → ⊥
no_bop (ops.Bop counts pointer) not others other e = not counts pointer refl
no_bop (ops.Body op) not others other e = subst IsInBody e (in_body op)
no_bop op not counts pointer e = absurd cc

-- The pointer of a bop.
pub same_pointer : (op : Op) (counts others : List ℤ) (pointer other : ℤ) → op ≡ ops.Bop counts pointer → view op ≡ Bop others other → pointer ≡ other
same_pointer op counts others pointer other is e =
    let whole : Bop counts pointer ≡ Bop others other = sym (ap view is) ∙ e in cc

-- An op other than pre represents no preamble; and the parts of one that does.
pub no_pre : (op : Op) → ((id : ℕ) (u : _) (comment : _) → op ≡ ops.Pre id u comment → ⊥) → (id : ℕ) (u : Units) (comment : List ℕ) → view op ≡ Pre id u comment → ⊥
no_pre (ops.Pre id u comment) not other others text e = not id u comment refl
no_pre (ops.Body op) not other others text e = subst IsInBody e (in_body op)
no_pre op not id u comment e = absurd cc

pub same_pre : (op : Op) (id other : ℕ) (u : Measures) (v : Units) (comment : _) (text : List ℕ) → op ≡ ops.Pre id u comment → view op ≡ Pre other v text → (id ≡ other) × (units u ≡ v)
same_pre op id other u v comment text is e =
    let whole : Pre id (units u) comment.now ≡ Pre other v text = sym (ap view is) ∙ e in (cc, cc)
