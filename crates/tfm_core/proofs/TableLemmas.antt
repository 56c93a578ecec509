-- Tables of a metric file.
use Rattle.std.proofs.Common.{◌≡◌, ℤ, ℕ, ◌+◌, ◌*◌, ◌<◌, List, [], ◌∷◌, ◌++◌, length, take, drop, ap, ◌-◌, refl, sym, subst, ◌∙◌}
use Rattle.std.proofs.lemmas.List.{same_lists, take_rest}
use Rattle.std.proofs.lemmas.List.FromFn.{map-range_with_len_more, length-map-range_with_len, get_or-map-range_with_len}
use Rattle.tfm_core.specs.Words.{IsWordTable, from_word, signed_word, table}
use Rattle.tfm_core.specs.MetricFile.{char_info, character_count, lig_kern_step, record_with}
use Rattle.tfm_core.specs.Private.MetricFile.{places_of}
use Rattle.tfm_core.specs.declared.places.Places.{Places}
use Rattle.tfm_core.specs.declared.record.CharInfo.{CharInfo}
use Rattle.tfm_core.specs.declared.record.Counts.{Counts}
use Rattle.tfm_core.specs.declared.record.LigKernStep.{LigKernStep}

-- A table of no entries.
pub table-none : {X : Type 0} (entry : List ℕ → X) (bytes : List ℕ) (place : ℕ) → table entry bytes place 0 ≡ []
unfolding table
table-none entry bytes place = refl

-- A table with one more entry.
pub table_more : {X : Type 0} (entry : List ℕ → X) (bytes : List ℕ) (place k : ℕ) → table entry bytes place (k + 1) ≡ table entry bytes place k ++ entry (drop (4 * (place + k)) bytes) ∷ []
unfolding table
table_more entry bytes place k = map-range_with_len_more (λ i. entry (from_word bytes i)) place k (place + k) refl

pub ruleset tables = (table-none, table_more)

-- The entries of a table are those of its words.
pub IsTable-table : {X : Type 0} (entry : List ℕ → X) (bytes : List ℕ) (place count : ℕ) → IsWordTable entry bytes place count (table entry bytes place count)
unfolding table
IsTable-table entry bytes place count = record {
  length_is = length-map-range_with_len (λ i. entry (from_word bytes i)) place count;
  each = λ k past h. get_or-map-range_with_len (λ i. entry (from_word bytes i)) place count k (place + k) past h refl;
}

-- A list with the entries of these words is their table.
pub table-unique : {X : Type 0} (entry : List ℕ → X) (bytes : List ℕ) (place count : ℕ) (entries : List X) → IsWordTable entry bytes place count entries → entries ≡ table entry bytes place count
table-unique entry bytes place count entries h =
    let t = IsTable-table entry bytes place count in
    let long = h.length_is in
    same_lists entries (table entry bytes place count) (long ∙ sym t.length_is) (λ k d l. let below : k < count = subst (λ (n : ℕ). k < n) long l in h.each k d below ∙ sym (t.each k d below))

-- A table after the next entry, which was read from the rest of the bytes, is appended.
pub table_pushed : {X : Type 0} (entry : List ℕ → X) (bytes : List ℕ) (place k : ℕ) (old new : List X) (x : X) → new ≡ old ++ x ∷ [] → old ≡ table entry bytes place k → x ≡ entry (take (length bytes - 4 * (place + k)) (drop (4 * (place + k)) bytes)) → new ≡ table entry bytes place (k + 1)
table_pushed entry bytes place k old new x pushed before said =
    let more = table_more entry bytes place k in
    let rest = ap entry (take_rest bytes (4 * (place + k))) in
    cc

-- The record whose tables are those at their places.
pub record_from_tables : (counts : Counts) (bytes : List ℕ) (at : Places) (n : ℕ) (check_sum design_word : ℤ) (characters : List CharInfo) (widths heights depths italics : List ℤ) (steps : List LigKernStep) (kerns parameters : List ℤ) → at ≡ places_of counts → n ≡ character_count counts → check_sum ≡ signed_word (from_word bytes 6) → design_word ≡ signed_word (from_word bytes 7) → characters ≡ table char_info bytes at.characters n → widths ≡ table signed_word bytes at.widths counts.widths → heights ≡ table signed_word bytes at.heights counts.heights → depths ≡ table signed_word bytes at.depths counts.depths → italics ≡ table signed_word bytes at.italics counts.italics → steps ≡ table lig_kern_step bytes at.steps counts.steps → kerns ≡ table signed_word bytes at.kerns counts.kerns → parameters ≡ table signed_word bytes at.parameters counts.parameters → record { counts = counts; check_sum = check_sum; design_word = design_word; characters = characters; widths = widths; heights = heights; depths = depths; italics = italics; steps = steps; kerns = kerns; parameters = parameters } ≡ record_with counts bytes
unfolding record_with places_of
record_from_tables counts bytes at n check_sum design_word characters widths heights depths italics steps kerns parameters e1 e2 e3 e4 e5 e6 e7 e8 e9 e10 e11 e12 = cc
