-- The results of the functions that read one field.
use Rattle.std.proofs.Common.{◌≡◌, ℕ, ℤ, pos, negsuc, ◌<◌, Bool, true, false, List, Some, None, Result, Ok, Err, codes, refl, ap, sym, ◌∙◌, ◌&&◌, length, arith, nat_lt, nat_le, subst, unsigned_abs}
use Rattle.std.specs.List.{list_all}
use Rattle.std.specs.Str.{bytes_eq}
use Rattle.std.specs.Str.Parse.{without_leading_sign, signed_digits_value}
use Rattle.std.proofs.lemmas.Bool.{ltb-true, leb-true, lt-ltb}
use Rattle.std.proofs.lemmas.Int.{ints}
use Rattle.std.proofs.lemmas.Slice.Eq.{bytes_eq-Decides}
use Rattle.tfm_core.specs.Scaling.{IsFontSize}
use Rattle.scaled_core.specs.Dimensions.{Within}
use Rattle.scaled_core.specs.declared.fault.DimenFault.{DimenFault}
use Rattle.scaled_core.specs.ParsedTexts.{read_dimension, dimension_value, parsed_value, written_value, unit_named, is_negative, text_after_sign, front_digits, text_after_digits, point_digits, text_after_fraction}
use Rattle.scaled_core.proofs.Fitting.{dimension_fits}
use Rattle.scaled_core.proofs.ReadingCases.{reads-ok, reads-fits}
use Rattle.scaled_core.proofs.TextLaws.{dimension_value-from_text}
use Rattle.node_core.specs.declared.tree.RuleSize.{RuleSize}
use Rattle.node_core.specs.declared.tree.RuleSize.TheVariants.{Running, Fixed}
use Rattle.boxglue_script.specs.Grammar.{IsNumberAmong, IsPenalty, IsDimension, IsRuleSizeField, IsName, is_name_byte}
use Rattle.boxglue_script.specs.Private.Reading.{number_of, number_among, penalty_of, penalty_number, size_of_font, is_short, is_name, is_numeral, size_of, map_ok, dimension_or}
use Rattle.boxglue_script.proofs.Numbers.{and_parts, numeral, number_names, within_penalties, penalty_names, penalty_in}

-- The bytes are those of the text.
pub same_bytes : (xs ys : List ℕ) → bytes_eq xs ys ≡ true → xs ≡ ys
same_bytes xs ys h = (bytes_eq-Decides xs ys).0 h

pub bytes_same : (xs : List ℕ) → bytes_eq xs xs ≡ true
bytes_same xs = (bytes_eq-Decides xs xs).1 refl

one_small : (count m n : ℕ) (b : Bool) → nat_lt m count ≡ b → number_among count (pos m) ≡ Some n → (pos m ≡ pos n) × (n < count)
one_small count m n true e h =
    let s : Some m ≡ Some n = sym (rw e refl) ∙ h in
    let same : m ≡ n = cc in
    (ap pos same, omega (arith, ltb-true m count e))
one_small count m n false e h = let s : None ≡ Some n = rw e at h in absurd (cc)

number_by : (count : ℕ) (z : ℤ) (n : ℕ) → number_among count z ≡ Some n → (z ≡ pos n) × (n < count)
number_by count (pos m) n h = one_small count m n (nat_lt m count) refl h
number_by count (negsuc m) n h = absurd (cc)

by_numeral : (count : ℕ) (field : List ℕ) (n : ℕ) (b : Bool) → is_numeral (without_leading_sign field) ≡ b → number_of count field ≡ Some n → IsNumberAmong count field n
unfolding number_of
by_numeral count field n true e h =
    let number = number_by count (signed_digits_value 10 field) n (rw e at h) in
    record { written = record { digits = numeral (without_leading_sign field) e; value = number.0 }; small = number.1 }
by_numeral count field n false e h = let s : None ≡ Some n = rw e at h in absurd (cc)

pub writes_number : (count : ℕ) (field : List ℕ) (n : ℕ) → number_of count field ≡ Some n → IsNumberAmong count field n
writes_number count field n h = by_numeral count field n _ refl h

pub number_written : (count : ℕ) (field : List ℕ) (n : ℕ) → IsNumberAmong count field n → number_of count field ≡ Some n
number_written count field n h = number_names count field (pos n) h.written ∙ (rw (lt-ltb n count h.small) refl)

one_penalty : (y z : ℤ) (b : Bool) → nat_le (unsigned_abs y) 500000000 ≡ b → penalty_number y ≡ Some z → (y ≡ z) × Within 500000000 z
one_penalty y z true e h =
    let s : Some y ≡ Some z = sym (rw e refl) ∙ h in
    let same : y ≡ z = cc in
    (same, subst (Within 500000000) same (within_penalties y (leb-true (unsigned_abs y) 500000000 e)))
one_penalty y z false e h = let s : None ≡ Some z = rw e at h in absurd (cc)

penalty_by_numeral : (field : List ℕ) (z : ℤ) (b : Bool) → is_numeral (without_leading_sign field) ≡ b → penalty_of field ≡ Some z → IsPenalty field z
unfolding penalty_of
penalty_by_numeral field z true e h =
    let one = one_penalty (signed_digits_value 10 field) z (nat_le (unsigned_abs (signed_digits_value 10 field)) 500000000) refl (rw e at h) in
    record { written = record { digits = numeral (without_leading_sign field) e; value = one.0 }; small = one.1 }
penalty_by_numeral field z false e h = let s : None ≡ Some z = rw e at h in absurd (cc)

pub writes_penalty : (field : List ℕ) (z : ℤ) → penalty_of field ≡ Some z → IsPenalty field z
writes_penalty field z h = penalty_by_numeral field z _ refl h

pub penalty_written : (field : List ℕ) (z : ℤ) → IsPenalty field z → penalty_of field ≡ Some z
penalty_written field z h = penalty_names field z h.written ∙ penalty_in z h.small

pub reads_dimension : (field : List ℕ) (z : ℤ) → read_dimension field ≡ Ok z → IsDimension field z
reads_dimension field z h = record { text = reads-ok field (Ok z) (sym h); fits = reads-fits field (Ok z) (sym h) }

pub dimension_read : (field : List ℕ) (z : ℤ) → IsDimension field z → read_dimension field ≡ Ok z
unfolding read_dimension parsed_value
dimension_read field z h = rw (dimension_value-from_text field z h.text, dimension_fits z h.fits) refl

-- `*` is no dimension.
star_is_none : (z : ℤ) → read_dimension (codes "*") ≡ Ok z → ⊥
unfolding read_dimension dimension_value parsed_value written_value unit_named is_negative text_after_sign front_digits text_after_digits point_digits text_after_fraction
star_is_none z h = cc

fixed_of : (r : Result ℤ DimenFault) (size : RuleSize) → map_ok Fixed (dimension_or r) ≡ Ok size → (z : ℤ) × (r ≡ Ok z) × (size ≡ Fixed z)
fixed_of (Err fault) size h = absurd (cc)
fixed_of (Ok z) size h = (z, refl, cc)

size_is : (field : List ℕ) (size other : RuleSize) → size ≡ other → IsRuleSizeField field other → IsRuleSizeField field size
size_is field size other e h = let P : RuleSize → Type 0 = λ s. IsRuleSizeField field s in subst P (sym e) h

by_star : (field : List ℕ) (size : RuleSize) (b : Bool) → bytes_eq field (codes "*") ≡ b → size_of field ≡ Ok size → IsRuleSizeField field size
unfolding size_of
by_star field size true e h =
    let running : size ≡ Running = let s : Ok Running ≡ Ok size = rw e at h in cc in
    size_is field size Running running (same_bytes field (codes "*") e)
by_star field size false e h =
    let fixed = fixed_of (read_dimension field) size (rw e at h) in
    size_is field size (Fixed fixed.0) fixed.2 (reads_dimension field fixed.0 fixed.1)

pub gives_size : (field : List ℕ) (size : RuleSize) → size_of field ≡ Ok size → IsRuleSizeField field size
gives_size field size h = by_star field size _ refl h

no_star : (field : List ℕ) (z : ℤ) (b : Bool) → bytes_eq field (codes "*") ≡ b → read_dimension field ≡ Ok z → b ≡ false
no_star field z false e h = refl
no_star field z true e h =
    let star : field ≡ codes "*" = same_bytes field (codes "*") e in
    absurd (star_is_none z (rw (← star) h))

pub size_given : (field : List ℕ) (size : RuleSize) → IsRuleSizeField field size → size_of field ≡ Ok size
unfolding size_of
size_given field Running h = rw h refl
size_given field (Fixed z) h =
    let read = dimension_read field z h in
    rw (no_star field z (bytes_eq field (codes "*")) refl read, read) refl

pub names_font : (field : List ℕ) → is_name field ≡ true → IsName field
names_font field h =
    let parts = and_parts (is_short field) (list_all is_name_byte field) h in
    let short = and_parts (nat_lt 0 (length field)) (nat_lt (length field) 256) parts.0 in
    record { bytes = parts.1; some = ltb-true 0 (length field) short.0; few = ltb-true (length field) 256 short.1 }

pub font_named : (field : List ℕ) → IsName field → is_name field ≡ true
font_named field h = rw (lt-ltb 0 (length field) h.some, lt-ltb (length field) 256 h.few) h.bytes

size_by : (n : ℕ) (b : Bool) (z : ℤ) → (nat_lt 0 n && nat_lt n 134217728) ≡ b → size_of_font (pos n) ≡ Some z → (z ≡ pos n) × IsFontSize (pos n)
size_by n true z e h =
    let parts = and_parts (nat_lt 0 n) (nat_lt n 134217728) e in
    let s : Some (pos n) ≡ Some z = sym (rw e refl) ∙ h in
    let low : 0 < n = ltb-true 0 n parts.0 in
    let high : n < 134217728 = ltb-true n 134217728 parts.1 in
    (cc, record { positive = omega (arith, ints); below = omega (arith, ints) })
size_by n false z e h = let s : None ≡ Some z = rw e at h in absurd (cc)

pub is_size_of_font : (y z : ℤ) → size_of_font y ≡ Some z → (z ≡ y) × IsFontSize y
is_size_of_font (pos n) z h = size_by n _ z refl h
is_size_of_font (negsuc n) z h = absurd (cc)

pub size_of_font_is : (z : ℤ) → IsFontSize z → size_of_font z ≡ Some z
size_of_font_is (pos n) h =
    let low : 0 < n = omega (arith, ints, h.positive) in
    let high : n < 134217728 = omega (arith, ints, h.below) in
    rw (lt-ltb 0 n low, lt-ltb n 134217728 high) refl
size_of_font_is (negsuc n) h = absurd (omega (arith, ints, h.positive))
