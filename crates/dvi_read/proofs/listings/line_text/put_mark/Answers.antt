use Rattle.std.proofs.Common.{rules, codes, ap, ◌∙◌, SFits, w32}
use Rattle.dvi_scan.specs.declared.page.Mark.{Mark}
use Rattle.dvi_scan.specs.View.{mark_of}
use Rattle.dvi_read.specs.Listing.{mark_line}
use Rattle.dvi_read.proofs.HeadLemmas.{written_glyph}
use Rattle.dvi_read.proofs.MarkLines.{written_line}
use Rattle.dvi_read.proofs.listings.line_text.put_mark.Goals as goal

pub returns-in-Glyph-clause-all : goal.returns-in-Glyph-clause-all
returns-in-Glyph-clause-all c =
    let glyph = c.in-Glyph in
    let font : SFits w32 glyph.font = search rules in
    let code : SFits w32 glyph.code = search rules in
    let across : SFits w32 glyph.h = search rules in
    let down : SFits w32 glyph.v = search rules in
    ap (λ (mark : Mark). mark_line (mark_of mark)) glyph.is
    ∙ written_glyph glyph.font glyph.code glyph.h glyph.v c.end_line.new.self c.put_number.new.self c.put_glyph.new.self font code across down c.end_line.ensures.text c.put_number.ensures.text
    c.put_glyph.ensures.text

pub returns-in-Rule-clause-all : goal.returns-in-Rule-clause-all
returns-in-Rule-clause-all c =
    let rule = c.in-Rule in
    let across : SFits w32 rule.h = search rules in
    let down : SFits w32 rule.v = search rules in
    let high : SFits w32 rule.height = search rules in
    let wide : SFits w32 rule.width = search rules in
    ap (λ (mark : Mark). mark_line (mark_of mark)) rule.is
    ∙ written_line (codes "rule") rule.h rule.v rule.height rule.width c.end_line-in-Rule.new.self c.put_number-in-Rule.new.self c.put_number-in-Rule-2.new.self
    c.put_number-in-Rule-3.new.self c.put_word.new.self across down high wide c.end_line-in-Rule.ensures.text c.put_number-in-Rule.ensures.text c.put_number-in-Rule-2.ensures.text
    c.put_number-in-Rule-3.ensures.text c.put_word.ensures
