-- The example files are what this writer writes for their pages, so they are files of these pages.
use Rattle.std.proofs.Common.{◌≡◌, [], ◌∷◌, List, length, replicate, ℕ, zero, suc, ℤ, pos, Some, None, IsSome, Bool, true, false, if◌then◌else◌, refl, lit<, lit≤, arith}
use Rattle.std.proofs.lemmas.Int.{ints}
use Rattle.std.specs.Ordering.{int_eq}
use Rattle.std.specs.List.{AllByRecursion}
use Rattle.dvi_ops.specs.Instruction.{Across, Downward, By, Definition, SetChar, Move, FontNum}
use Rattle.dvi_ops.specs.Spelling.{operand, signed_size, code_size, char_spelling, font_spelling, leaf_spelling, spelling, NumberFits}
use Rattle.dvi_ops.specs.Body.{DviState, Widths, instruction_acts, bounded_acts, start}
use Rattle.scaled_core.specs.Mark.{Mark, Glyph}
use Rattle.dvi_ops.specs.Forest.{Forest, Empty, Then, Group, meaning}
use Rattle.dvi_ops.specs.Fonts.{WidthsByName, first_definition_of}
use Rattle.dvi_ops.specs.File.{IsFile}
use Rattle.dvi_ops.specs.Layout.{FilePage, Table, table_widths, IsTabled, IsGood}
use Rattle.dvi_ops.specs.Examples.{one_rule_body, one_rule_marks, one_rule_file, one_rule_pages, two_page_file, two_pages, fonts_in_nested_boxes_file, fonts_in_nested_boxes_pages, tiny_name, GivesTiny}
use Rattle.dvi_ops.proofs.WholeFile.{whole_file}

abbrev pub zeros : List ℤ
zeros = replicate 10 (pos 0)

no_fonts : Table
no_fonts f = None

-- The page of one rule, with these counts.
abbrev one_rule_file_page : List ℤ → FilePage
one_rule_file_page counts = record { counts = counts; fresh = []; body = one_rule_body }

one_rule_good : (metrics : WidthsByName) (known : List Definition) (counts : List ℤ) → length counts ≡ 10 → AllByRecursion NumberFits counts → IsGood metrics no_fonts known (one_rule_file_page counts) one_rule_marks
one_rule_good metrics known counts ten fit =
    record {
      ten = ten;
      counts_fit = fit;
      fresh = tt;
      writable = ((tt, record { sfits = lit< tt }), ((tt, (record { sfits = lit< tt }, record { sfits = lit< tt })), tt));
      plain = refl;
      chosen = tt;
      measured = tt;
      shallow = lit≤ tt;
      last = record start { place = record (start.place) { h = pos 65536; v = pos 65536 } };
      shows = refl;
    }

pub all_fit : (n : ℕ) → AllByRecursion NumberFits (replicate n (pos 0))
all_fit zero = tt
all_fit (suc n) = (record { sfits = lit< tt }, all_fit n)

pub one_rule_is_file : (metrics : WidthsByName) → IsFile metrics one_rule_file one_rule_pages
unfolding spelling leaf_spelling operand signed_size
one_rule_is_file metrics =
    whole_file metrics no_fonts (one_rule_file_page zeros ∷ []) one_rule_pages (pos 65536) (pos 65536) [] 7
    (refl, one_rule_good metrics [] zeros refl (all_fit 10), tt) (record { tabled = tt; each = λ f some. some }) (record { sfits = lit< tt }) (record { sfits = lit< tt }) (lit< tt) (lit≤ tt)

seven : List ℤ
seven = pos 7 ∷ replicate 9 (pos 0)

-- The same page twice, with another first count on the second.
pub two_page_is_file : (metrics : WidthsByName) → IsFile metrics two_page_file two_pages
unfolding spelling leaf_spelling operand signed_size seven
two_page_is_file metrics =
    whole_file metrics no_fonts (one_rule_file_page zeros ∷ one_rule_file_page seven ∷ []) two_pages (pos 65536) (pos 65536) [] 4
    (refl, one_rule_good metrics [] zeros refl (all_fit 10), (refl, one_rule_good metrics [] seven refl (record { sfits = lit< tt }, all_fit 9), tt))
    (record { tabled = tt; each = λ f some. some }) (record { sfits = lit< tt }) (record { sfits = lit< tt }) (lit< tt) (lit≤ tt)

-- The font tiny at 10pt and at 20pt.
abbrev pub small : Definition
small = record { number = pos 0; check_sum = pos 0; size = pos 655360; design_size = pos 655360; area = []; name = tiny_name }

abbrev pub large : Definition
large = record { number = pos 1; check_sum = pos 0; size = pos 1310720; design_size = pos 655360; area = []; name = tiny_name }

abbrev fonts : Table
fonts f = first_definition_of f (small ∷ large ∷ [])

pub small_tabled : IsTabled fonts small
small_tabled = record { listed = refl; size = (omega (arith, ints), omega (arith, ints)); writable = ((lit< tt, lit< tt), (record { sfits = lit< tt }, record { sfits = lit< tt }, record { sfits = lit< tt }, record { sfits = lit< tt })) }

pub large_tabled : IsTabled fonts large
large_tabled = record { listed = refl; size = (omega (arith, ints), omega (arith, ints)); writable = ((lit< tt, lit< tt), (record { sfits = lit< tt }, record { sfits = lit< tt }, record { sfits = lit< tt }, record { sfits = lit< tt })) }

-- The body of the page with two fonts.
abbrev pub nested_body : Forest
nested_body =
    Then (Move Downward (By (pos 655360))) (Then (FontNum (pos 0)) (Then (SetChar (pos 99))
    (Group (Then (FontNum (pos 1)) (Then (SetChar (pos 98)) Empty))
    (Then (Move Across (By (pos 655360))) (Then (SetChar (pos 99)) Empty)))))

abbrev nested_file_page : FilePage
nested_file_page = record { counts = zeros; fresh = small ∷ large ∷ []; body = nested_body }

abbrev nested_marks : List Mark
nested_marks = Glyph (pos 0) (pos 99) (pos 0) (pos 655360) ∷ Glyph (pos 1) (pos 98) (pos 327680) (pos 655360) ∷ Glyph (pos 1) (pos 99) (pos 983040) (pos 655360) ∷ []

-- The meaning of the body, from the three widths that it needs.
nested_shows : (widths : Widths) → widths (pos 0) (pos 99) ≡ Some (pos 327680) → widths (pos 1) (pos 98) ≡ Some (pos 655360) → widths (pos 1) (pos 99) ≡ Some (pos 655360) →
    (last : DviState) × (meaning (bounded_acts (instruction_acts widths)) nested_body start ≡ Some (nested_marks, last))
nested_shows widths a b c = (record { place = record { h = pos 1638400; v = pos 655360; held = start.place.held }; font = Some (pos 1) }, rw (a, b, c) refl)

nested_good : (metrics : WidthsByName) → GivesTiny metrics → IsGood metrics fonts [] nested_file_page nested_marks
nested_good metrics tiny =
    let shows = nested_shows (table_widths metrics fonts) (rw (tiny.small_is) (tiny.small_99)) (rw (tiny.large_is) (tiny.large_98)) (rw (tiny.large_is) (tiny.large_99)) in
    record {
      ten = refl;
      counts_fit = all_fit 10;
      fresh = (small_tabled, (large_tabled, tt));
      writable = ((tt, record { sfits = lit< tt }), ((tt, record { sfits = lit< tt }), ((tt, record { sfits = lit< tt }), ((tt, tt), ((tt, record { sfits = lit< tt }), ((tt, record { sfits = lit< tt }), ((tt, tt), ((tt, record { sfits = lit< tt }), ((tt, record { sfits = lit< tt }), tt)))))))));
      plain = refl;
      chosen = (refl, (refl, tt));
      measured = (rw (tiny.small_is) refl, (rw (tiny.large_is) refl, tt));
      shallow = lit≤ tt;
      last = shows.0;
      shows = shows.1;
    }

known_are_there : (f : ℤ) → IsSome (first_definition_of f (large ∷ small ∷ [])) → IsSome (first_definition_of f (small ∷ large ∷ []))
known_are_there f some = by_tests (int_eq f (pos 1)) (int_eq f (pos 0)) some
  where
    by_tests : (one zero : Bool) → IsSome (if one then Some large else if zero then Some small else None) → IsSome (if zero then Some small else if one then Some large else None)
    by_tests one true some = refl
    by_tests true false some = refl
    by_tests false false some = some

-- Two fonts, a group and three glyphs, where the metric files give their widths.
pub fonts_in_nested_boxes_is_file : (metrics : WidthsByName) → GivesTiny metrics → IsFile metrics fonts_in_nested_boxes_file fonts_in_nested_boxes_pages
unfolding spelling leaf_spelling operand signed_size code_size char_spelling font_spelling
fonts_in_nested_boxes_is_file metrics tiny =
    whole_file metrics fonts (nested_file_page ∷ []) fonts_in_nested_boxes_pages (pos 983040) (pos 1638400) (small ∷ large ∷ []) 5
    (refl, nested_good metrics tiny, tt)
    (record { tabled = (small_tabled, (large_tabled, tt)); each = known_are_there }) (record { sfits = lit< tt }) (record { sfits = lit< tt }) (lit< tt) (lit≤ tt)
