-- The result of reading: the record, or the first broken rule.
use Rattle.std.proofs.Common.{◌≡◌, ℕ, ℤ, Bool, true, false, cond, List, Option, Some, None, Result, Ok, Err, refl, ap, ◌∙◌, sym, subst, inl, inr, ◌⊎◌, ⊎_elim}
use Rattle.tfm_core.specs.declared.fault.TfmCause.{TfmCause}
use Rattle.tfm_core.specs.declared.fault.TfmCause.TheVariants.{TooShort, Counts, DesignSize, CharInfo, FixWord, LigKern}
use Rattle.tfm_core.specs.declared.record.CharInfo.{CharInfo as Info}
use Rattle.tfm_core.specs.declared.record.Counts.{Counts as Numbers}
use Rattle.tfm_core.specs.declared.record.LigKernStep.{LigKernStep}
use Rattle.tfm_core.specs.MetricFile.{MetricFile, IsFileIn, char_info, counts_in, lig_kern_step, record_in, record_with}
use Rattle.tfm_core.specs.Words.{signed_word}
use Rattle.tfm_core.proofs.TableLemmas.{IsTable-table, table-unique}
use Rattle.tfm_core.specs.Rules.{IsFirstBroken, IsMetricFile, broken_in_front, breaks_char_info, breaks_design_size, breaks_fix_word, breaks_lig_kern, first_broken, is_broken, metric_file, record_unless}
use Rattle.tfm_core.specs.Private.Rules.{KeepsRules, broken_in_tables}

-- The six tests, in their order.
abbrev chosen : Bool → Bool → Bool → Bool → Bool → Bool → Option TfmCause
chosen a b c d e f =
    cond a (Some TooShort) (cond b (Some Counts) (cond c (Some DesignSize) (cond d (Some CharInfo) (cond e (Some FixWord) (cond f (Some LigKern) None)))))

-- The first three tests, in their order.
abbrev front : Bool → Bool → Bool → Option TfmCause
front a b c = cond a (Some TooShort) (cond b (Some Counts) (cond c (Some DesignSize) None))

-- The last three tests, in their order.
abbrev back : Bool → Bool → Bool → Option TfmCause
back d e f = cond d (Some CharInfo) (cond e (Some FixWord) (cond f (Some LigKern) None))

chosen-front : (a b c d e f : Bool) (cause : TfmCause) → front a b c ≡ Some cause → chosen a b c d e f ≡ Some cause
chosen-front true b c d e f cause h = h
chosen-front false true c d e f cause h = h
chosen-front false false true d e f cause h = h
chosen-front false false false d e f cause h = absurd (cc)

chosen-back : (a b c d e f : Bool) → front a b c ≡ None → chosen a b c d e f ≡ back d e f
chosen-back true b c d e f h = absurd (cc)
chosen-back false true c d e f h = absurd (cc)
chosen-back false false true d e f h = absurd (cc)
chosen-back false false false d e f h = refl

-- A rule that needs no table and is broken is the first broken rule.
pub first_broken-front : (bytes : List ℕ) (cause : TfmCause) → broken_in_front bytes ≡ Some cause → first_broken bytes ≡ Some cause
unfolding first_broken broken_in_front
first_broken-front bytes cause h =
    chosen-front (is_broken bytes TooShort) (is_broken bytes Counts) (is_broken bytes DesignSize) (is_broken bytes CharInfo) (is_broken bytes FixWord) (is_broken bytes LigKern) cause h

-- If no such rule is broken, the first broken rule is that of the tables.
pub first_broken-tables : (bytes : List ℕ) → broken_in_front bytes ≡ None → first_broken bytes ≡ broken_in_tables (record_in bytes)
unfolding first_broken broken_in_front broken_in_tables
first_broken-tables bytes h =
    chosen-back (is_broken bytes TooShort) (is_broken bytes Counts) (is_broken bytes DesignSize) (is_broken bytes CharInfo) (is_broken bytes FixWord) (is_broken bytes LigKern) h

-- The record is in the bytes.
pub IsFileIn-record_in : (bytes : List ℕ) → IsFileIn bytes (record_in bytes)
unfolding record_with
IsFileIn-record_in bytes = record {
  counts = refl;
  check_sum = refl;
  design_word = refl;
  characters = IsTable-table char_info bytes _ _;
  widths = IsTable-table signed_word bytes _ _;
  heights = IsTable-table signed_word bytes _ _;
  depths = IsTable-table signed_word bytes _ _;
  italics = IsTable-table signed_word bytes _ _;
  steps = IsTable-table lig_kern_step bytes _ _;
  kerns = IsTable-table signed_word bytes _ _;
  parameters = IsTable-table signed_word bytes _ _;
}

made : Numbers → ℤ → ℤ → List Info → List ℤ → List ℤ → List ℤ → List ℤ → List LigKernStep → List ℤ → List ℤ → MetricFile
made counts check_sum design_word characters widths heights depths italics steps kerns parameters = record {
  counts = counts;
  check_sum = check_sum;
  design_word = design_word;
  characters = characters;
  widths = widths;
  heights = heights;
  depths = depths;
  italics = italics;
  steps = steps;
  kerns = kerns;
  parameters = parameters;
}

made-whole : (a : MetricFile) → made a.counts a.check_sum a.design_word a.characters a.widths a.heights a.depths a.italics a.steps a.kerns a.parameters ≡ a
unfolding made
made-whole a = refl

-- Records with the same entries are the same.
same_file : (a b : MetricFile) → a.counts ≡ b.counts → a.check_sum ≡ b.check_sum → a.design_word ≡ b.design_word → a.characters ≡ b.characters → a.widths ≡ b.widths → a.heights ≡ b.heights → a.depths ≡ b.depths → a.italics ≡ b.italics → a.steps ≡ b.steps → a.kerns ≡ b.kerns → a.parameters ≡ b.parameters → a ≡ b
same_file a b e0 e1 e2 e3 e4 e5 e6 e7 e8 e9 e10 =
    let p = made-whole a in
    let q = made-whole b in
    cc

-- No other record is in the bytes.
pub record_in-unique : (bytes : List ℕ) (file : MetricFile) → IsFileIn bytes file → file ≡ record_in bytes
unfolding record_with
record_in-unique bytes file h =
    same_file file (record_with file.counts bytes) refl h.check_sum h.design_word
    (table-unique char_info bytes _ _ file.characters h.characters)
    (table-unique signed_word bytes _ _ file.widths h.widths)
    (table-unique signed_word bytes _ _ file.heights h.heights)
    (table-unique signed_word bytes _ _ file.depths h.depths)
    (table-unique signed_word bytes _ _ file.italics h.italics)
    (table-unique lig_kern_step bytes _ _ file.steps h.steps)
    (table-unique signed_word bytes _ _ file.kerns h.kerns)
    (table-unique signed_word bytes _ _ file.parameters h.parameters)
    ∙ ap (λ counts. record_with counts bytes) h.counts

-- A test that failed, and the tests after it.
none_split : (b : Bool) (x : TfmCause) (rest : Option TfmCause) → cond b (Some x) rest ≡ None → (b ≡ false) × (rest ≡ None)
none_split true x rest h = absurd (cc)
none_split false x rest h = (refl, h)

-- If there is no first broken rule, each rule is kept.
pub kept-from_none : (bytes : List ℕ) → first_broken bytes ≡ None → (cause : TfmCause) → is_broken bytes cause ≡ false
unfolding first_broken
kept-from_none bytes h =
    let a = none_split _ _ _ h in
    let b = none_split _ _ _ a.1 in
    let c = none_split _ _ _ b.1 in
    let d = none_split _ _ _ c.1 in
    let e = none_split _ _ _ d.1 in
    let f = none_split _ _ _ e.1 in
    λ cause. elim cause as (λ x. is_broken bytes x ≡ false) [ TooShort ↦ a.0 | Counts ↦ b.0 | DesignSize ↦ c.0 | CharInfo ↦ d.0 | FixWord ↦ e.0 | LigKern ↦ f.0 ]

-- If each rule is kept, there is no first broken rule.
pub none-from_kept : (bytes : List ℕ) → ((cause : TfmCause) → is_broken bytes cause ≡ false) → first_broken bytes ≡ None
unfolding first_broken
none-from_kept bytes h =
    rw (h TooShort, h Counts, h DesignSize, h CharInfo, h FixWord, h LigKern) refl

-- The named rule is broken, and those before it are kept.
some_split : (b : Bool) (x y : TfmCause) (rest : Option TfmCause) → cond b (Some x) rest ≡ Some y → ((b ≡ true) × (x ≡ y)) ⊎ ((b ≡ false) × (rest ≡ Some y))
some_split true x y rest h = inl (refl, cc)
some_split false x y rest h = inr (refl, h)

first_is : (bytes : List ℕ) (x y : TfmCause) → x ≡ y → IsFirstBroken bytes x → IsFirstBroken bytes y
first_is bytes x y e h = subst (λ z. IsFirstBroken bytes z) e h

pub IsFirstBroken-from_first : (bytes : List ℕ) (cause : TfmCause) → first_broken bytes ≡ Some cause → IsFirstBroken bytes cause
unfolding first_broken
IsFirstBroken-from_first bytes cause h =
    ⊎_elim (λ p. first_is bytes TooShort cause p.1 (record { broken = p.0; kept = tt })) (λ a.
    ⊎_elim (λ p. first_is bytes Counts cause p.1 (record { broken = p.0; kept = (a.0, tt) })) (λ b.
    ⊎_elim (λ p. first_is bytes DesignSize cause p.1 (record { broken = p.0; kept = (a.0, (b.0, tt)) })) (λ c.
    ⊎_elim (λ p. first_is bytes CharInfo cause p.1 (record { broken = p.0; kept = (a.0, (b.0, (c.0, tt))) })) (λ d.
    ⊎_elim (λ p. first_is bytes FixWord cause p.1 (record { broken = p.0; kept = (a.0, (b.0, (c.0, (d.0, tt)))) })) (λ e.
    ⊎_elim (λ p. first_is bytes LigKern cause p.1 (record { broken = p.0; kept = (a.0, (b.0, (c.0, (d.0, (e.0, tt))))) })) (λ f. absurd (let g = f.1 in cc))
    (some_split _ _ _ _ e.1))
    (some_split _ _ _ _ d.1))
    (some_split _ _ _ _ c.1))
    (some_split _ _ _ _ b.1))
    (some_split _ _ _ _ a.1))
    (some_split _ _ _ _ h)

pub first-from_IsFirstBroken : (bytes : List ℕ) (cause : TfmCause) → IsFirstBroken bytes cause → first_broken bytes ≡ Some cause
unfolding first_broken
first-from_IsFirstBroken bytes TooShort h = rw (h.broken) refl
first-from_IsFirstBroken bytes Counts h = rw (h.kept.0, h.broken) refl
first-from_IsFirstBroken bytes DesignSize h = rw (h.kept.0, h.kept.1.0, h.broken) refl
first-from_IsFirstBroken bytes CharInfo h = rw (h.kept.0, h.kept.1.0, h.kept.1.1.0, h.broken) refl
first-from_IsFirstBroken bytes FixWord h = rw (h.kept.0, h.kept.1.0, h.kept.1.1.0, h.kept.1.1.1.0, h.broken) refl
first-from_IsFirstBroken bytes LigKern h =
    rw (h.kept.0, h.kept.1.0, h.kept.1.1.0, h.kept.1.1.1.0, h.kept.1.1.1.1.0, h.broken) refl

-- The result of reading.

-- The record with the counts of the bytes is the record in the bytes.
pub held_tables : (bytes : List ℕ) (counts : Numbers) (file : MetricFile) (found : Option TfmCause) → counts ≡ counts_in bytes → file ≡ record_with counts bytes → None ≡ broken_in_front bytes → found ≡ broken_in_tables file → record_unless file found ≡ metric_file bytes
unfolding metric_file
held_tables bytes counts file found e r h t =
    let same : file ≡ record_in bytes = r ∙ ap (λ c. record_with c bytes) e in
    let first : found ≡ first_broken bytes = t ∙ ap broken_in_tables same ∙ sym (first_broken-tables bytes (sym h)) in
    let P : MetricFile → Option TfmCause → Result MetricFile TfmCause = record_unless in
    ap (λ f. P f found) same ∙ ap (P (record_in bytes)) first

-- A record that was read keeps the rules, if none of them is broken.
pub KeepsRules-from_none : (bytes : List ℕ) (counts : Numbers) (file : MetricFile) → counts ≡ counts_in bytes → file ≡ record_with counts bytes → None ≡ broken_in_front bytes → None ≡ broken_in_tables file → KeepsRules file
unfolding broken_in_front broken_in_tables record_with
KeepsRules-from_none bytes counts file e r h t =
    let a = none_split (is_broken bytes TooShort) TooShort _ (sym h) in
    let b = none_split (is_broken bytes Counts) Counts _ a.1 in
    let c = none_split (is_broken bytes DesignSize) DesignSize None b.1 in
    let d = none_split (breaks_char_info file) CharInfo _ (sym t) in
    let f = none_split (breaks_fix_word file) FixWord _ d.1 in
    let g = none_split (breaks_lig_kern file) LigKern None f.1 in
    record {
      design_size = ap breaks_design_size (ap (λ (x : MetricFile). x.design_word) r) ∙ c.0;
      char_info = d.0;
      fix_word = f.0;
      lig_kern = g.0;
    }

pub metric_file-front : (bytes : List ℕ) (cause : TfmCause) → broken_in_front bytes ≡ Some cause → metric_file bytes ≡ Err cause
unfolding metric_file
metric_file-front bytes cause h = ap (record_unless (record_in bytes)) (first_broken-front bytes cause h)

pub metric_file-tables : (bytes : List ℕ) (found : Option TfmCause) → broken_in_front bytes ≡ None → broken_in_tables (record_in bytes) ≡ found → metric_file bytes ≡ record_unless (record_in bytes) found
unfolding metric_file
metric_file-tables bytes found h t = ap (record_unless (record_in bytes)) (first_broken-tables bytes h ∙ t)

unless_ok : (held file : MetricFile) (found : Option TfmCause) → record_unless held found ≡ Ok file → (found ≡ None) × (held ≡ file)
unless_ok held file None h = (refl, cc)
unless_ok held file (Some cause) h = absurd (cc)

unless_err : (held : MetricFile) (cause : TfmCause) (found : Option TfmCause) → record_unless held found ≡ Err cause → found ≡ Some cause
unless_err held cause None h = absurd (cc)
unless_err held cause (Some other) h = cc

pub IsMetricFile-from_read : (bytes : List ℕ) (file : MetricFile) → metric_file bytes ≡ Ok file → IsMetricFile bytes file
unfolding metric_file
IsMetricFile-from_read bytes file h =
    let p = unless_ok (record_in bytes) file (first_broken bytes) h in
    record {
      encoded = subst (λ f. IsFileIn bytes f) p.1 (IsFileIn-record_in bytes);
      kept = kept-from_none bytes p.0;
    }

pub IsFirstBroken-from_read : (bytes : List ℕ) (cause : TfmCause) → metric_file bytes ≡ Err cause → IsFirstBroken bytes cause
unfolding metric_file
IsFirstBroken-from_read bytes cause h =
    IsFirstBroken-from_first bytes cause (unless_err (record_in bytes) cause (first_broken bytes) h)

pub read-from_IsMetricFile : (bytes : List ℕ) (file : MetricFile) → IsMetricFile bytes file → metric_file bytes ≡ Ok file
unfolding metric_file
read-from_IsMetricFile bytes file h =
    ap (record_unless (record_in bytes)) (none-from_kept bytes h.kept) ∙ ap Ok (sym (record_in-unique bytes file h.encoded))

pub read-from_IsFirstBroken : (bytes : List ℕ) (cause : TfmCause) → IsFirstBroken bytes cause → metric_file bytes ≡ Err cause
unfolding metric_file
read-from_IsFirstBroken bytes cause h = ap (record_unless (record_in bytes)) (first-from_IsFirstBroken bytes cause h)

-- Bytes that break a rule hold no record.
pub no_record : (bytes : List ℕ) (cause : TfmCause) (file : MetricFile) → metric_file bytes ≡ Err cause → IsMetricFile bytes file → ⊥
no_record bytes cause file h k = let e = read-from_IsMetricFile bytes file k in cc

pub ruleset relations = (IsMetricFile-from_read, IsFirstBroken-from_read)

pub ruleset reading = (metric_file-front, metric_file-tables)
