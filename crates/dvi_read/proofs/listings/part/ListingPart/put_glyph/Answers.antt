use Rattle.std.proofs.Common.{rules, ◌≡◌, ◌++◌, ◌-◌, ℤ, ℕ, SFits, w32, ap₂, sym, ◌∙◌, to_z-of_z}
use Rattle.dvi_read.specs.Private.GlyphHeads.{head_text}
use Rattle.dvi_read.proofs.HeadLemmas.{head_first, head_grows, head_size, head_written}
use Rattle.dvi_read.proofs.listings.part.ListingPart.put_glyph.Goals as goal

pub returns-then-head-code-clause-len : goal.returns-then-head-code-clause-len
returns-then-head-code-clause-len c =
    let whole : c.put_head.new.self ≡ head_text c.args.font c.args.code ++ c.args.self.now = search rules in
    head_grows c.args.font c.args.code c.args.self.now c.put_head.new.self whole

pub keep_head-requires-clause-text : goal.keep_head-requires-clause-text
keep_head-requires-clause-text c =
    let old = c.args.self.now in
    let new = c.put_word.new.self in
    let font : SFits w32 c.args.font = search rules in
    let code : SFits w32 c.args.code = search rules in
    let whole = head_written c.args.font c.args.code old c.put_number.new.self c.put_number-2.new.self new font code c.put_number.ensures.text c.put_number-2.ensures.text c.put_word.ensures in
    head_first c.args.font c.args.code old new (c.len.result - c.len-before.result) whole
    (ap₂ (λ (m n : ℕ). m - n) c.len.ensures c.len-before.ensures ∙ head_size c.args.font c.args.code old new whole)
    ∙ ap₂ (λ (f d : ℤ). head_text f d) (sym (to_z-of_z font)) (sym (to_z-of_z code))

pub returns-clause-text : goal.returns-clause-text
returns-clause-text c =
    let font : SFits w32 c.args.font = search rules in
    let code : SFits w32 c.args.code = search rules in
    c.keep_head.ensures
    ∙ head_written c.args.font c.args.code c.args.self.now c.put_number.new.self c.put_number-2.new.self c.put_word.new.self font code c.put_number.ensures.text c.put_number-2.ensures.text
    c.put_word.ensures
