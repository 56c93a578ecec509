-- Bytes that are no file, and bytes that remain a file.
use Rattle.std.proofs.Common.{◌≡◌, ◌+◌, ◌++◌, ◌≤◌, ◌<◌, ◌%◌, ◌^◌, min, [], ◌∷◌, List, length, replicate, take, ℕ, ℤ, pos, negsuc, refl, lit<, lit≤, sym, ◌∙◌, ap, subst, true, false, append_assoc, arith}
use Rattle.std.proofs.lemmas.List.{replicate_more}
use Rattle.std.specs.List.{flat_map, AllByRecursion}
use Rattle.dvi_ops.specs.Instruction.{Across, Downward, FontNum, FontDef, SetChar, By, Postamble, SetRule, Nop, Move, Instruction, Do, Push, Pop, Bop, Eop, Post}
use Rattle.dvi_ops.specs.Spelling.{operand, signed_size, code_size, char_spelling, font_spelling, leaf_spelling, spelling, NumbersFit}
use Rattle.dvi_ops.specs.Forest.{Empty, Then, Group}
use Rattle.dvi_ops.specs.Tokens.{Token, token_bytes, pointers}
use Rattle.dvi_ops.specs.Fonts.{WidthsByName}
use Rattle.dvi_ops.specs.File.{FilePart, Idle, Defines, Shows, instructions, MarkedPage, max_pushes, push_depth_of, IsFile}
use Rattle.dvi_ops.specs.Layout.{scaled_points, preamble, IsWritable}
use Rattle.dvi_ops.specs.Examples.{self_naming_file, stray_pop_file, short_file, miscounted_file, undefined_font_file, shallow_file, one_rule_file}
use Rattle.dvi_ops.proofs.KnownFiles.{nested_body, zeros, all_fit, small, large, small_tabled, large_tabled}
use Rattle.dvi_ops.proofs.Appends.{length-pages}
use Rattle.dvi_ops.proofs.Frames.{one_trailer, cut_of, one_parts, facts_of, file_at}
use Rattle.dvi_ops.proofs.WholeFile.{facts_of_written}

-- A byte 223 may be added at the end.
pub padding_grows : (metrics : WidthsByName) (bytes : List ℕ) (pages : List MarkedPage) → IsFile metrics bytes pages → IsFile metrics (bytes ++ 223 ∷ []) pages
padding_grows metrics bytes pages f =
    let g = f.frame in
    file_at metrics (bytes ++ 223 ∷ []) pages
    (record {
      front = g.front;
      post = g.post;
      postamble = g.postamble;
      tail = g.tail;
      ending = g.ending;
      padding = g.padding + 1;
      whole = ap (λ (bytes : List ℕ). bytes ++ 223 ∷ []) g.whole ∙ more g.front g.post g.tail g.ending g.padding;
      padded = (let enough = g.padded in omega arith);
      front_spelled = g.front_spelled;
      post_spelled = g.post_spelled;
      tail_spelled = g.tail_spelled;
      ending_spelled = g.ending_spelled;
    })
    (facts_of metrics bytes pages f)
  where
    more : (front : List Token) (post : List ℕ) (tail : List Token) (ending : List ℕ) (n : ℕ) →
        (token_bytes front ++ (post ++ (token_bytes tail ++ (ending ++ replicate n 223)))) ++ 223 ∷ [] ≡ token_bytes front ++ (post ++ (token_bytes tail ++ (ending ++ replicate (n + 1) 223)))
    more front post tail ending n = simp append_assoc (ap (λ (bytes : List ℕ). token_bytes front ++ (post ++ (token_bytes tail ++ (ending ++ bytes)))) (replicate_more n 223))

-- The operands of post in a file of one rule.
abbrev one_rule_postamble : ℕ → Postamble
one_rule_postamble count =
    record { last_bop = pos 15; units = scaled_points; height_plus_depth = pos 65536; width = pos 65536; stack_depth = 0; pages = count }

postamble_fits : (count : ℕ) → count < 65536 → NumbersFit (Post (one_rule_postamble count))
postamble_fits count below = (
  record { sfits = lit< tt },
  (record { sfits = lit< tt }, record { sfits = lit< tt }, record { sfits = lit< tt }),
  record { sfits = lit< tt },
  record { sfits = lit< tt },
  lit< tt,
  below,
)

preamble_fits : IsWritable preamble
preamble_fits = (lit< tt, (record { sfits = lit< tt }, record { sfits = lit< tt }, record { sfits = lit< tt }))

-- A first page that names itself.
abbrev self_naming : List Instruction
self_naming = preamble ∷ Bop zeros (pos 15) ∷ Do (Move Downward (By (pos 65536))) ∷ Do (SetRule (pos 65536) (pos 65536)) ∷ Eop ∷ []

self_naming_fits : AllByRecursion IsWritable self_naming
self_naming_fits =
    (preamble_fits, ((tt, (refl, all_fit 10, record { sfits = lit< tt })), ((tt, record { sfits = lit< tt }), ((tt, (record { sfits = lit< tt }, record { sfits = lit< tt })), ((tt, tt), tt)))))

pub self_naming_is_none : (metrics : WidthsByName) (pages : List MarkedPage) → IsFile metrics self_naming_file pages → ⊥
unfolding spelling leaf_spelling operand signed_size
self_naming_is_none metrics pages f =
    let found = facts_of_written self_naming (one_rule_postamble 1) [] 74 7 metrics pages self_naming_fits (postamble_fits 1 (lit< tt)) tt refl
    (lit< tt) (lit≤ tt) f in
    differ found.chain
  where
    differ : pos 15 ∷ pos 15 ∷ [] ≡ negsuc 0 ∷ pos 15 ∷ [] → ⊥
    differ e = cc

-- A pop without a push.
abbrev stray_pop : List Instruction
stray_pop = preamble ∷ Bop zeros (negsuc 0) ∷ Pop ∷ Do Nop ∷ Do Nop ∷ Do Nop ∷ Do (SetRule (pos 65536) (pos 65536)) ∷ Eop ∷ []

stray_pop_fits : AllByRecursion IsWritable stray_pop
stray_pop_fits =
    (preamble_fits, ((tt, (refl, all_fit 10, record { sfits = lit< tt })), ((tt, tt), ((tt, tt), ((tt, tt), ((tt, tt), ((tt, (record { sfits = lit< tt }, record { sfits = lit< tt })), ((tt, tt), tt))))))))

tails : {X : Type 0} {x y : X} {xs ys : List X} → x ∷ xs ≡ y ∷ ys → xs ≡ ys
tails e = cc

no_pop_first : (counts : List ℤ) (pointer : ℤ) (rest : List Instruction) (parts : List FilePart) → Bop counts pointer ∷ Pop ∷ rest ≡ flat_map instructions parts → ⊥
no_pop_first counts pointer rest [] e = cc
no_pop_first counts pointer rest (Idle ∷ parts) e = cc
no_pop_first counts pointer rest (Defines d ∷ parts) e = cc
no_pop_first counts pointer rest (Shows counts' pointer' Empty ∷ parts) e = cc
no_pop_first counts pointer rest (Shows counts' pointer' (Then i body) ∷ parts) e = cc
no_pop_first counts pointer rest (Shows counts' pointer' (Group inner body) ∷ parts) e = cc

pub stray_pop_is_none : (metrics : WidthsByName) (pages : List MarkedPage) → IsFile metrics stray_pop_file pages → ⊥
unfolding spelling leaf_spelling operand signed_size
stray_pop_is_none metrics pages f =
    let found = facts_of_written stray_pop (one_rule_postamble 1) [] 74 7 metrics pages stray_pop_fits (postamble_fits 1 (lit< tt)) tt refl (lit< tt)
    (lit≤ tt) f in
    let body : Bop zeros (negsuc 0) ∷ Pop ∷ Do Nop ∷ Do Nop ∷ Do Nop ∷ Do (SetRule (pos 65536) (pos 65536)) ∷ Eop ∷ [] ≡ flat_map instructions found.parts = tails found.front_is in
    no_pop_first zeros (negsuc 0) _ found.parts body

-- A file with only three bytes 223.
pub short_is_none : (metrics : WidthsByName) (pages : List MarkedPage) → IsFile metrics short_file pages → ⊥
short_is_none metrics pages f =
    let cut = cut_of short_file f.frame in
    let three : f.frame.padding ≡ 3 = (one_trailer _ (take 108 one_rule_file) f.frame.padding 3 (sym cut.whole ∙ refl)).1 in
    let four = f.frame.padded in
    omega arith

-- A file whose post counts two pages.
abbrev one_rule : List Instruction
one_rule = preamble ∷ Bop zeros (negsuc 0) ∷ Do (Move Downward (By (pos 65536))) ∷ Do (SetRule (pos 65536) (pos 65536)) ∷ Eop ∷ []

one_rule_fits : AllByRecursion IsWritable one_rule
one_rule_fits =
    (preamble_fits, ((tt, (refl, all_fit 10, record { sfits = lit< tt })), ((tt, record { sfits = lit< tt }), ((tt, (record { sfits = lit< tt }, record { sfits = lit< tt })), ((tt, tt), tt)))))

pub miscounted_is_none : (metrics : WidthsByName) (pages : List MarkedPage) → IsFile metrics miscounted_file pages → ⊥
unfolding spelling leaf_spelling operand signed_size
miscounted_is_none metrics pages f =
    let found = facts_of_written one_rule (one_rule_postamble 2) [] 74 7 metrics pages one_rule_fits (postamble_fits 2 (lit< tt)) tt refl (lit< tt)
    (lit≤ tt) f in
    let bops = length-pages _ found.parts pages found.shows in
    let one : 1 ≡ length pages = ap (λ (is : List Instruction). length (pointers is)) found.front_is ∙ bops in
    let two : 2 ≡ length pages % 65536 = found.count in
    omega arith

-- The file of two fonts, with these instructions in its page and this depth in post.
abbrev nested : (second : ℤ) → List Instruction
nested second =
    preamble ∷ Do (FontDef small) ∷ Do (FontDef large) ∷ Bop zeros (negsuc 0) ∷ Do (Move Downward (By (pos 655360))) ∷ Do (FontNum (pos 0)) ∷ Do (SetChar (pos 99)) ∷ Push ∷
    Do (FontNum second) ∷ Do (SetChar (pos 98)) ∷ Pop ∷ Do (Move Across (By (pos 655360))) ∷ Do (SetChar (pos 99)) ∷ Eop ∷ []

abbrev nested_postamble : ℕ → Postamble
nested_postamble depth = record
    { last_bop = pos 55; units = scaled_points; height_plus_depth = pos 983040; width = pos 1638400; stack_depth = depth; pages = 1 }

nested_fits : (second : ℕ) → second < 2 ^ 31 → AllByRecursion IsWritable (nested (pos second))
nested_fits second below =
    (preamble_fits, (small_tabled.writable, (large_tabled.writable, ((tt, (refl, all_fit 10, record { sfits = lit< tt })), ((tt, record { sfits = lit< tt }), ((tt, record { sfits = lit< tt }), ((tt, record { sfits = lit< tt }), ((tt, tt), ((tt, record { sfits = below }), ((tt, record { sfits = lit< tt }), ((tt, tt), ((tt, record { sfits = lit< tt }), ((tt, record { sfits = lit< tt }), ((tt, tt), tt))))))))))))))

nested_postamble_fits : (depth : ℕ) → depth < 65536 → NumbersFit (Post (nested_postamble depth))
nested_postamble_fits depth below = (
  record { sfits = lit< tt },
  (record { sfits = lit< tt }, record { sfits = lit< tt }, record { sfits = lit< tt }),
  record { sfits = lit< tt },
  record { sfits = lit< tt },
  below,
  lit< tt,
)

abbrev nested_tail : List Instruction
nested_tail = Do (FontDef small) ∷ Do (FontDef large) ∷ []

nested_tail_fits : AllByRecursion IsWritable nested_tail
nested_tail_fits = (small_tabled.writable, (large_tabled.writable, tt))

-- A font that is selected but has no definition.
pub undefined_font_is_none : (metrics : WidthsByName) (pages : List MarkedPage) → IsFile metrics undefined_font_file pages → ⊥
unfolding spelling leaf_spelling operand signed_size code_size char_spelling font_spelling
undefined_font_is_none metrics pages f =
    let found = facts_of_written (nested (pos 2)) (nested_postamble 1) nested_tail 116 5 metrics pages (nested_fits 2 (lit< tt))
    (nested_postamble_fits 1 (lit< tt)) nested_tail_fits refl (lit< tt) (lit≤ tt) f in
    differ found.fonts.1.1.1.1.1.1.1.1.0
  where
    differ : false ≡ true → ⊥
    differ e = cc

-- A push that post does not allow.
pub shallow_is_none : (metrics : WidthsByName) (pages : List MarkedPage) → IsFile metrics shallow_file pages → ⊥
unfolding spelling leaf_spelling operand signed_size code_size char_spelling font_spelling
shallow_is_none metrics pages f =
    let found = facts_of_written (nested (pos 1)) (nested_postamble 0) nested_tail 116 5 metrics pages (nested_fits 1 (lit< tt))
    (nested_postamble_fits 0 (lit< tt)) nested_tail_fits refl (lit< tt) (lit≤ tt) f in
    let parts : List FilePart = Defines small ∷ Defines large ∷ Shows zeros (negsuc 0) nested_body ∷ [] in
    let same : parts ≡ found.parts = one_parts parts found.parts (tails found.front_is) in
    let depth = subst (AllByRecursion (λ part. push_depth_of part ≤ min max_pushes 0)) (sym same) found.depth in
    let one : 1 ≤ 0 = depth.1.1.0 in
    omega arith
