-- What of a metric file is read from its bytes, beside its font.
use Rattle.std.proofs.Common.{◌≡◌, ℕ, pos, zero, suc, ◌+◌, ◌-◌, ◌*◌, ◌<◌, ◌≤◌, Bool, true, false, cond, eqb, ltb, List, [], ◌∷◌, length, get_or, Option, Some, None, Ok, refl, sym, ap, subst, ◌∙◌, arith}
use Rattle.std.specs.List.{list_any, slice_get}
use Rattle.std.specs.Option.{IsSome}
use Rattle.std.proofs.lemmas.Bool.{leb-false, ltb-false}
use Rattle.std.proofs.lemmas.List.{get_or_past}
use Rattle.std.proofs.lemmas.Option.{slice_get-get_or, slice_get_within}
use Rattle.tfm_core.specs.Fonts.{parameter}
use Rattle.tfm_core.specs.MetricFile.{MetricFile, char_info, character_count, counts_in, end_place, record_in}
use Rattle.tfm_core.specs.Rules.{IsMetricFile, breaks_char_info, breaks_character, character_at, metric_file, with_width}
use Rattle.tfm_core.specs.Words.{from_word, signed_word}
use Rattle.tfm_core.specs.declared.fault.TfmCause.TheVariants.{TooShort, Counts, CharInfo}
use Rattle.tfm_core.specs.declared.record.CharInfo.{CharInfo as Info}
use Rattle.tfm_core.specs.declared.record.Counts.{Counts as Numbers}
use Rattle.tfm_core.proofs.ReadingLemmas.{IsMetricFile-from_read}
use Rattle.tfm_core.proofs.RuleLemmas.{long_for_numbers, long_for_tables, or_false}
use Rattle.boxglue_calls.specs.Metrics.{italic_word}
use Rattle.boxglue_calls.specs.Private.MetricPlaces.{character_in, places_of}
use Rattle.boxglue_calls.specs.declared.metric_places.MetricPlaces.{MetricPlaces}

-- The bytes have the twelve numbers at the front.
pub long_for_counts : (bytes : List ℕ) → metric_file bytes ≡ Ok (record_in bytes) → 24 ≤ length bytes
long_for_counts bytes read = long_for_numbers bytes ((IsMetricFile-from_read bytes (record_in bytes) read).kept TooShort)

-- The counts of the record are those at the front.
pub counts_are : (bytes : List ℕ) → metric_file bytes ≡ Ok (record_in bytes) → counts_in bytes ≡ (record_in bytes).counts
counts_are bytes read = sym (IsMetricFile-from_read bytes (record_in bytes) read).encoded.counts

-- All tables are within the bytes.
tables_within : (bytes : List ℕ) (file : MetricFile) → IsMetricFile bytes file → 4 * end_place file.counts ≤ length bytes
tables_within bytes file is =
    subst (λ (c : Numbers). 4 * end_place c ≤ length bytes) (sym is.encoded.counts) (long_for_tables bytes (is.kept TooShort) (is.kept Counts))

kept_test : (b : Bool) (o : Option Info) (c : Info) → cond b None o ≡ Some c → (b ≡ false) × (o ≡ Some c)
kept_test true o c h = absurd (cc)
kept_test false o c h = (refl, h)

with_width-same : (o : Option Info) (c : Info) → with_width o ≡ Some c → o ≡ Some c
with_width-same None c h = absurd (cc)
with_width-same (Some d) c h = (kept_test (eqb d.width 0) (Some d) c h).1

-- A character that the file has is in the table, which begins with the first code.
character_found : (first : ℕ) (characters : List Info) (code : ℕ) (c : Info) → character_at first characters code ≡ Some c
    → (first ≤ code) × (slice_get characters (code - first) ≡ Some c)
unfolding character_at
character_found first characters code c at =
    let p = kept_test (ltb code first) (with_width (slice_get characters (code - first))) c at in
    (ltb-false code first p.0, with_width-same (slice_get characters (code - first)) c p.1)

none_breaks : {X : Type 0} (p : X → Bool) (xs : List X) (i : ℕ) (x : X) → list_any p xs ≡ false → slice_get xs i ≡ Some x → p x ≡ false
none_breaks p [] i x h e = absurd (cc)
none_breaks p (y ∷ ys) zero x h e = let same : y ≡ x = cc in subst (λ z. p z ≡ false) same (or_false _ _ h).0
none_breaks p (y ∷ ys) (suc i) x h e = none_breaks p ys i x (or_false _ _ h).1 e

-- The index of the italic correction of each entry is within its table.
italic_within : (file : MetricFile) (i : ℕ) (c : Info) → breaks_char_info file ≡ false → slice_get file.characters i ≡ Some c → c.italic < length file.italics
unfolding breaks_char_info breaks_character
italic_within file i c h at =
    let kept = none_breaks (breaks_character file) file.characters i c h at in
    let tables = or_false _ _ kept in
    let italic = or_false _ _ tables.0 in
    leb-false (length file.italics) c.italic italic.1

some_of : {X : Type 0} (o : Option X) → IsSome o → (x : X) × (o ≡ Some x)
some_of None h = absurd (cc)
some_of (Some x) h = (x, refl)

-- The entry of a character and the word of its italic correction, at their places.
pub record CharacterReads (bytes : List ℕ) (p : MetricPlaces) (code : ℕ) : Type 0 where
  pub character : Info
  pub is : character_in bytes code ≡ Some character
  pub first : p.first ≤ code
  pub entry : character ≡ char_info (from_word bytes (p.characters + (code - p.first)))
  pub entry_fits : 4 * (p.characters + (code - p.first) + 1) ≤ length bytes
  pub italic : italic_word (record_in bytes) character ≡ signed_word (from_word bytes (p.italics + character.italic))
  pub italic_fits : 4 * (p.italics + character.italic + 1) ≤ length bytes

reads_at : (bytes : List ℕ) (code : ℕ) (c : Info) → IsMetricFile bytes (record_in bytes) → character_in bytes code ≡ Some c
    → CharacterReads bytes (places_of (record_in bytes).counts) code
reads_at bytes code c is at =
    let file = record_in bytes in
    let found = character_found file.counts.first file.characters code c at in
    let k : ℕ = code - file.counts.first in
    let within : k < length file.characters = slice_get_within file.characters k c found.1 in
    let counted : k < character_count file.counts = omega (arith, within, is.encoded.characters.length_is) in
    let same : c ≡ get_or file.characters k c = let e = slice_get-get_or file.characters k c within in let f = found.1 in cc in
    let italic : c.italic < length file.italics = italic_within file k c (is.kept CharInfo) found.1 in
    let few : c.italic < file.counts.italics = omega (arith, italic, is.encoded.italics.length_is) in
    let space = tables_within bytes file is in
    record {
      character = c;
      is = at;
      first = found.0;
      entry = same ∙ is.encoded.characters.each k c counted;
      entry_fits = omega arith;
      italic = is.encoded.italics.each c.italic (pos 0) few;
      italic_fits = omega arith;
    }

pub character_reads : (bytes : List ℕ) (p : MetricPlaces) (code : ℕ) → metric_file bytes ≡ Ok (record_in bytes) → p ≡ places_of (record_in bytes).counts
    → IsSome (character_in bytes code) → CharacterReads bytes p code
character_reads bytes p code read placed there =
    let found = some_of (character_in bytes code) there in
    subst (λ (q : MetricPlaces). CharacterReads bytes q code) (sym placed)
    (reads_at bytes code found.0 (IsMetricFile-from_read bytes (record_in bytes) read) found.1)

-- A parameter that the file has is a word at its place.
pub record ParameterReads (bytes : List ℕ) (p : MetricPlaces) (n : ℕ) : Type 0 where
  pub is : parameter n (record_in bytes).parameters ≡ signed_word (from_word bytes (p.parameters + (n - 1)))
  pub fits : 4 * (p.parameters + (n - 1) + 1) ≤ length bytes

parameter_at : (bytes : List ℕ) (n : ℕ) → IsMetricFile bytes (record_in bytes) → 1 ≤ n → n ≤ (record_in bytes).counts.parameters
    → ParameterReads bytes (places_of (record_in bytes).counts) n
parameter_at bytes n is some few =
    let file = record_in bytes in
    let within : n - 1 < file.counts.parameters = omega arith in
    let space = tables_within bytes file is in
    record {
      is = is.encoded.parameters.each (n - 1) (pos 0) within;
      fits = omega arith;
    }

pub parameter_reads : (bytes : List ℕ) (p : MetricPlaces) (n : ℕ) → metric_file bytes ≡ Ok (record_in bytes) → p ≡ places_of (record_in bytes).counts
    → 1 ≤ n → n ≤ p.parameter_count → ParameterReads bytes p n
parameter_reads bytes p n read placed some few =
    let count = ap (λ (q : MetricPlaces). q.parameter_count) placed in
    subst (λ (q : MetricPlaces). ParameterReads bytes q n) (sym placed)
    (parameter_at bytes n (IsMetricFile-from_read bytes (record_in bytes) read) some (omega (arith, count, few)))

-- A parameter that the file does not have is 0.
pub no_parameter : (bytes : List ℕ) (p : MetricPlaces) (n : ℕ) → metric_file bytes ≡ Ok (record_in bytes) → p ≡ places_of (record_in bytes).counts
    → 1 ≤ n → p.parameter_count < n → pos 0 ≡ parameter n (record_in bytes).parameters
no_parameter bytes p n read placed some many =
    let is = IsMetricFile-from_read bytes (record_in bytes) read in
    let count = ap (λ (q : MetricPlaces). q.parameter_count) placed in
    sym (get_or_past (record_in bytes).parameters (n - 1) (pos 0) (omega (arith, count, many, some, is.encoded.parameters.length_is)))
