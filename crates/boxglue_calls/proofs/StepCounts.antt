-- How many steps a font has at most: one for each pair of characters.
use Rattle.std.proofs.Common.{◌≡◌, ◌≢◌, ◌≤◌, ◌<◌, ◌*◌, ℕ, ℤ, [], ◌∷◌, List, Option, Some, None, length, length-append, inl, inr, ap, sym, ◌∙◌, arith}
use Rattle.std.specs.List.{flat_map, range_with_len}
use Rattle.std.specs.Option.{option_map, option_to_list}
use Rattle.std.proofs.lemmas.List.FromFn.{length-range_with_len}
use Rattle.tfm_core.specs.Fonts.{SizedFont, step_of}
use Rattle.boxglue_calls.specs.Calls.{ReadsMetrics}
use Rattle.boxglue_calls.specs.Metrics.{AreMetrics, MetricOutputs, character_steps, font_steps, pair_steps, step_row}
use Rattle.boxglue_calls.specs.declared.font_rows.FontParameters.{FontParameters}
use Rattle.boxglue_calls.specs.declared.font_rows.FontStep.{FontStep}
use Rattle.boxglue_calls.specs.declared.font_rows.Glyph.{Glyph}

-- Lists of parts that have at most one row each, and at most 256.
single_parts : {A : Type 0} (f : ℕ → List A) (ns : List ℕ) → ((n : ℕ) → length (f n) ≤ 1) → length (flat_map f ns) ≤ length ns
single_parts f [] each = omega arith
single_parts f (n ∷ ns) each = omega (arith, each n, single_parts f ns each, length-append (f n) (flat_map f ns))

large_parts : {A : Type 0} (f : ℕ → List A) (ns : List ℕ) → ((n : ℕ) → length (f n) ≤ 256) → length (flat_map f ns) ≤ length ns * 256
large_parts f [] each = omega arith
large_parts f (n ∷ ns) each = omega (arith, each n, large_parts f ns each, length-append (f n) (flat_map f ns))

one_at_most : {A B : Type 0} (f : A → B) (o : Option A) → length (option_to_list (option_map f o)) ≤ 1
one_at_most f None = omega arith
one_at_most f (Some x) = omega arith

-- The pairs of one character, and of all.
character_fits : (font : SizedFont) (character : ℕ) → length (character_steps font character) ≤ 256
character_fits font character =
    let each = single_parts (pair_steps font character) (range_with_len 0 256)
    (λ following. one_at_most (step_row character following) (step_of font character following)) in
    omega (arith, each, length-range_with_len 0 256)

pub steps_fit : (tfm : List ℕ) (size : Option ℤ) (glyphs : List Glyph) (parameters : FontParameters) (steps : List FontStep)
    → AreMetrics tfm size glyphs parameters steps → length steps ≤ 65536
steps_fit tfm size glyphs parameters steps are =
    all_fit (character_steps _) steps (character_fits _) are.steps_are
  where
    all_fit : (f : ℕ → List FontStep) (steps : List FontStep) → ((n : ℕ) → length (f n) ≤ 256) → steps ≡ flat_map f (range_with_len 0 256)
        → length steps ≤ 65536
    all_fit f steps each is =
        let whole = large_parts f (range_with_len 0 256) each in
        omega (arith, whole, length-range_with_len 0 256, ap (λ (l : List FontStep). length l) is)

-- So a buffer for so many is never too small.
pub buffer_suffices : (tfm : List ℕ) (size : ℤ) (old new : MetricOutputs) (status : ℕ) → ReadsMetrics tfm size old new status
    → 65536 ≤ length old.steps → status ≢ 4
buffer_suffices tfm size old new status (inl (is, same)) long = λ small. omega arith
buffer_suffices tfm size old new status (inr (inl writes)) long = λ small. omega (arith, writes.status_is)
buffer_suffices tfm size old new status (inr (inr (inl lacks))) long =
    λ small. omega (arith, lacks.small, steps_fit tfm _ lacks.glyphs lacks.parameters lacks.steps lacks.metrics)
buffer_suffices tfm size old new status (inr (inr (inr (inl refuses)))) long = λ small. omega (arith, refuses.status_is)
buffer_suffices tfm size old new status (inr (inr (inr (inr lacks)))) long = λ small. omega (arith, lacks.status_is)
