-- The metrics of a font, as they are handed over.
use Rattle.std.proofs.Common.{◌≡◌, ◌<◌, ℕ, ℤ, pos, Bool, true, false, List, length, Option, Some, None, refl, sym, ap, subst, ◌∙◌, arith, inl, inr, cond}
use Rattle.std.specs.Bool.{Decides}
use Rattle.std.specs.Option.{IsSome, SomeIff}
use Rattle.std.specs.Ordering.{int_eq}
use Rattle.std.specs.Prelude.{◌≢◌}
use Rattle.std.proofs.lemmas.Bool.Decides.{Decides-int_eq}
use Rattle.tfm_core.specs.FontReads.{IsReadRefusal}
use Rattle.tfm_core.specs.Fonts.{SizedFont, chosen_size, font_at}
use Rattle.tfm_core.specs.MetricFile.{record_in}
use Rattle.tfm_core.specs.Rules.{broken_in_front}
use Rattle.tfm_core.specs.Scaling.{IsFontSize}
use Rattle.tfm_core.specs.declared.reading.FontReadFault.{FontReadFault}
use Rattle.tfm_core.specs.declared.reading.FontReadFault.TheVariants as faults
use Rattle.boxglue_calls.specs.Buffers.{Holds}
use Rattle.boxglue_calls.specs.Calls.{IsAskedSize, ReadsMetrics, RefusesSize, asked_size}
use Rattle.boxglue_calls.specs.FileFaults.{no_fault}
use Rattle.boxglue_calls.specs.Metrics.{AreMetrics, MeasuresFont, MetricOutputs}
use Rattle.boxglue_calls.specs.Metrics.{font_parameters, font_steps, glyph_rows, read_fault}
use Rattle.boxglue_calls.specs.declared.font_rows.FontParameters.{FontParameters}
use Rattle.boxglue_calls.specs.declared.font_rows.FontStep.{FontStep}
use Rattle.boxglue_calls.specs.declared.font_rows.Glyph.{Glyph}
use Rattle.boxglue_calls.specs.declared.font_rows.GlyphTable.{GlyphTable}
use Rattle.boxglue_calls.proofs.MetricLaws.{IsReadFrom}

-- The metrics of a font that was read.
pub metrics_are : (tfm : List ℕ) (asked : Option ℤ) (font : SizedFont) → IsReadFrom tfm asked font → (bytes : List ℕ) (same : SizedFont) (glyphs : List Glyph)
    (parameters : FontParameters) (steps : List FontStep) → bytes ≡ tfm → same ≡ font → glyphs ≡ glyph_rows (record_in bytes) same.size
    → parameters ≡ font_parameters (record_in bytes) same.size → steps ≡ font_steps font → AreMetrics tfm asked glyphs parameters steps
metrics_are tfm asked font from bytes same glyphs parameters steps bytes_are font_is glyphs_are parameters_are steps_are =
    let file = record_in tfm in
    let size : same.size ≡ chosen_size file asked = ap (λ (f : SizedFont). f.size) font_is ∙ from.size in
    record {
      file = file;
      read = from.read;
      fits = from.fits;
      glyphs_are = glyphs_are ∙ (ap (λ (b : List ℕ). glyph_rows (record_in b) same.size) bytes_are ∙ ap (glyph_rows file) size);
      parameters_are = parameters_are ∙ (ap (λ (b : List ℕ). font_parameters (record_in b) same.size) bytes_are ∙ ap (font_parameters file) size);
      steps_are = steps_are ∙ ap font_steps (from.sized ∙ ap (font_at file) from.size);
    }

pub writes : (tfm : List ℕ) (size : Option ℤ) (glyphs : GlyphTable) (parameters : FontParameters) (steps : List FontStep) (old new : MetricOutputs) (status : ℕ)
    → AreMetrics tfm size glyphs.rows parameters steps → new.glyphs ≡ glyphs → new.parameters ≡ parameters → Holds old.steps new.steps steps
    → new.count ≡ length steps → new.fault ≡ no_fault → status ≡ 0 → MeasuresFont tfm size old new status
writes tfm size glyphs parameters steps old new status are glyphs_is parameters_is holds count_is fault_is status_is =
    inl (record {
      steps = steps;
      metrics = subst (λ (g : GlyphTable). AreMetrics tfm size g.rows new.parameters steps) (sym glyphs_is)
          (subst (λ (p : FontParameters). AreMetrics tfm size glyphs.rows p steps) (sym parameters_is) are);
      written = holds;
      count_is = count_is;
      fault_is = fault_is;
      status_is = status_is;
    })

pub lacks_space : (tfm : List ℕ) (size : Option ℤ) (glyphs : GlyphTable) (parameters : FontParameters) (steps : List FontStep) (old new : MetricOutputs) (status : ℕ)
    → AreMetrics tfm size glyphs.rows parameters steps → length old.steps < length steps → new ≡ record old { count = length steps } → status ≡ 4
    → MeasuresFont tfm size old new status
lacks_space tfm size glyphs parameters steps old new status are few same status_is =
    inr (inl (record { glyphs = glyphs.rows; parameters = parameters; steps = steps; metrics = are; small = few; same = same; status_is = status_is }))

pub refuses_font : (tfm : List ℕ) (size : Option ℤ) (reason : FontReadFault) (old new : MetricOutputs) (status : ℕ) → reason ≢ faults.OutOfMemory
    → IsReadRefusal tfm size reason → new ≡ record old { fault = read_fault reason } → status ≡ 1 → MeasuresFont tfm size old new status
refuses_font tfm size reason old new status other broken same status_is =
    inr (inr (inl (record { reason = reason; other = other; broken = broken; same = same; status_is = status_is })))

pub lacks_memory : (tfm : List ℕ) (size : Option ℤ) (old new : MetricOutputs) (status : ℕ) → broken_in_front tfm ≡ None → new ≡ old → status ≡ 2
    → MeasuresFont tfm size old new status
lacks_memory tfm size old new status front same status_is = inr (inr (inr (record { front = front; same = same; status_is = status_is })))

-- A call that measures a font never says 6.
pub not_six : (tfm : List ℕ) (size : Option ℤ) (old new : MetricOutputs) (status : ℕ) → MeasuresFont tfm size old new status → status ≡ 6 → ⊥
not_six tfm size old new status (inl writes) six = let is = writes.status_is in absurd (omega arith)
not_six tfm size old new status (inr (inl lacks)) six = let is = lacks.status_is in absurd (omega arith)
not_six tfm size old new status (inr (inr (inl refuses))) six = let is = refuses.status_is in absurd (omega arith)
not_six tfm size old new status (inr (inr (inr lacks))) six = let is = lacks.status_is in absurd (omega arith)

-- The size that is asked for.
asked_by : (b : Bool) (size : ℤ) → b ≡ false → cond b None (Some size) ≡ Some size
asked_by true size h = absurd (cc)
asked_by false size h = refl

false_from : {P : Type 0} (b : Bool) → Decides b P → (P → ⊥) → b ≡ false
false_from true decides none = absurd (none (decides.0 refl))
false_from false decides none = refl

some_asked : (size : ℤ) (asked : Option ℤ) → size ≢ pos 0 → SomeIff asked (IsFontSize size) size → IsSome asked → asked ≡ asked_size size
some_asked size None other iff there = absurd (cc)
some_asked size (Some z) other iff there =
    ap Some (iff.1) ∙ sym (asked_by (int_eq size (pos 0)) size (false_from (int_eq size (pos 0)) (Decides-int_eq size (pos 0)) other))

is_font_size : (size : ℤ) (asked : Option ℤ) → SomeIff asked (IsFontSize size) size → IsSome asked → IsFontSize size
is_font_size size None iff there = absurd (cc)
is_font_size size (Some z) iff there = iff.0

pub reads_design_size : (tfm : List ℕ) (size : ℤ) (old new : MetricOutputs) (status : ℕ) → size ≡ pos 0 → MeasuresFont tfm None old new status
    → RefusesSize size status × ReadsMetrics tfm size old new status
reads_design_size tfm size old new status zero measures =
    let asked : asked_size size ≡ None = rw zero refl in (
      (λ six. absurd (not_six tfm None old new status measures six), λ none. absurd (none (inl zero))),
      inr (subst (λ (a : Option ℤ). MeasuresFont tfm a old new status) (sym asked) measures),
    )

pub reads_at_size : (tfm : List ℕ) (size : ℤ) (asked : Option ℤ) (old new : MetricOutputs) (status : ℕ) → size ≢ pos 0
    → SomeIff asked (IsFontSize size) size → IsSome asked → MeasuresFont tfm asked old new status → RefusesSize size status × ReadsMetrics tfm size old new status
reads_at_size tfm size asked old new status other iff there measures = (
  (λ six. absurd (not_six tfm asked old new status measures six), λ none. absurd (none (inr (is_font_size size asked iff there)))),
  inr (subst (λ (a : Option ℤ). MeasuresFont tfm a old new status) (some_asked size asked other iff there) measures),
)

no_size : (size : ℤ) (asked : Option ℤ) → SomeIff asked (IsFontSize size) size → asked ≡ None → IsFontSize size → ⊥
no_size size None iff none = iff
no_size size (Some z) iff none = absurd (cc)

none_asked : (size : ℤ) (asked : Option ℤ) → size ≢ pos 0 → SomeIff asked (IsFontSize size) size → asked ≡ None → IsAskedSize size → ⊥
none_asked size asked other iff none (inl zero) = other zero
none_asked size asked other iff none (inr is) = no_size size asked iff none is

pub refuses_size : (tfm : List ℕ) (size : ℤ) (asked : Option ℤ) (old new : MetricOutputs) (status : ℕ) → size ≢ pos 0
    → SomeIff asked (IsFontSize size) size → asked ≡ None → new ≡ old → status ≡ 6 → RefusesSize size status × ReadsMetrics tfm size old new status
refuses_size tfm size asked old new status other iff none same six =
    ((λ is. λ wanted. none_asked size asked other iff none wanted, λ no. six), inl (six, same))
