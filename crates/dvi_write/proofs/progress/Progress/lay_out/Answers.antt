use Rattle.std.proofs.Common.{rules, arith, ◌≡◌, ap, ◌∙◌, ◌++◌, ◌∷◌, [], List, ℕ, length, map}
use Rattle.dvi_ops.specs.Instruction.{Instruction, Bop, Eop}
use Rattle.dvi_ops.specs.Layout.{bytes_of, define}
use Rattle.dvi_ops.specs.Runs.{instructions_of}
use Rattle.dvi_ops.specs.View.{view}
use Rattle.dvi_ops.specs.declared.op.Op.{Op}
use Rattle.dvi_write.specs.FilePages.{definitions_of}
use Rattle.dvi_write.specs.SoFar.{ProgressView, opening_instructions}
use Rattle.dvi_ops.proofs.Layouts.{length-bytes_of-append}
use Rattle.dvi_write.proofs.PageBytes.{laid_out}
use Rattle.dvi_write.proofs.progress.Progress.lay_out.Goals as goal

pub returns-clause-bytes : goal.returns-clause-bytes
returns-clause-bytes c =
    let fonts = define (definitions_of c.args.fonts.now c.args.slots.now) in
    let page = Bop c.args.counts.now c.self.inside.last ∷ (instructions_of c.args.body.now ++ Eop ∷ []) in
    let says = c.in_ok-append_definitions.ensures.ok ∙ ap (λ (is : List Instruction). is ++ fonts) c.in_ok-before.ensures.ok in
    let first =
    c.in_ok-append_all.ensures.ok
    ∙ (ap (λ (bytes : List ℕ). bytes ++ bytes_of (map view c.deref.result.now)) c.in_ok-bytes.ensures.items ∙ ap (λ (ops : List Op). bytes_of (map view ops)) c.deref.ensures.value) in
    let all : c.append_page.new.bytes.items ≡ c.append_all.new.bytes.items ++ bytes_of page = search rules in
    rw (← c.self.view_is)
    (laid_out (opening_instructions c.self.inside.pages) fonts page (map view c.append_definitions.new.ops.items) c.append_all.new.bytes.items c.append_page.new.bytes.items says first all)

pub returns-clause-size : goal.returns-clause-size
returns-clause-size c =
    let rest = define (definitions_of c.args.fonts.now c.args.slots.now) ++ (Bop c.args.counts.now c.args.self.now.layout.last ∷ (instructions_of c.args.body.now ++ Eop ∷ [])) in
    omega (
      arith,
      ap length (returns-clause-bytes c),
      length-bytes_of-append (opening_instructions c.args.self.now.pages) rest,
      c.opening_size-start.ensures ∙ ap (λ (s : ProgressView). length (bytes_of (opening_instructions s.pages))) c.self.view_is,
      c.len-4.ensures,
    )
