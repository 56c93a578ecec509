-- The glyphs of words and texts.
use Rattle.std.proofs.Common.{◌≡◌, ℕ, ◌++◌, List, [], ◌∷◌, Option, Some, None, refl}
use Rattle.std.specs.List.{AllByRecursion, flat_map}
use Rattle.node_core.specs.declared.tree.Glue.{Glue}
use Rattle.scaled_core.specs.declared.sizes.Sizes.{Sizes}
use Rattle.tfm_core.specs.declared.font.Step.{Step}
use Rattle.tfm_core.specs.declared.font.Step.TheVariants.{Kern, Ligature}
use Rattle.shape_core.specs.Shaping.{IsGlyphOf, items_from, outcome_at, outcome_items, outcome_next, outcome_of, shaped_items, step_to}
use Rattle.shape_core.specs.Texts.{TextPart, spaces, word, part_items, parts_of, text_items}

each_append : {A : Type 0} (P : A → Type 0) (xs ys : List A) → AllByRecursion P xs → AllByRecursion P ys → AllByRecursion P (xs ++ ys)
each_append P [] ys all more = more
each_append P (x ∷ xs) ys all more = (all.0, each_append P xs ys all.1 more)

outcome_glyphs : (slot : ℕ) (sizes : ℕ → Option Sizes) (c : ℕ) (size : Option Sizes) (step : Option Step) → sizes c ≡ size
    → AllByRecursion (IsGlyphOf slot sizes) (outcome_items slot c (outcome_of size step))
outcome_glyphs slot sizes c None step at = tt
outcome_glyphs slot sizes c (Some size) None at = ((refl, at), tt)
outcome_glyphs slot sizes c (Some size) (Some (Kern width)) at = ((refl, at), (tt, tt))
outcome_glyphs slot sizes c (Some size) (Some (Ligature e)) at = tt

module _ (slot : ℕ) (sizes : ℕ → Option Sizes) (steps : ℕ → ℕ → Option Step) where
  items_from-glyphs : (c : ℕ) (text : List ℕ) → AllByRecursion (IsGlyphOf slot sizes) (items_from slot sizes steps c text)
  unfolding outcome_at
  items_from-glyphs c [] = outcome_glyphs slot sizes c (sizes c) (step_to sizes steps c None) refl
  items_from-glyphs c (d ∷ text) =
      each_append (IsGlyphOf slot sizes) (outcome_items slot c (outcome_at sizes steps c (Some d)))
      (items_from slot sizes steps (outcome_next d (outcome_at sizes steps c (Some d))) text)
      (outcome_glyphs slot sizes c (sizes c) (step_to sizes steps c (Some d)) refl)
      (items_from-glyphs (outcome_next d (outcome_at sizes steps c (Some d))) text)

  -- The glyphs of a word.
  pub shaped_items-glyphs : (text : List ℕ) → AllByRecursion (IsGlyphOf slot sizes) (shaped_items slot sizes steps text)
  shaped_items-glyphs [] = tt
  shaped_items-glyphs (c ∷ text) = items_from-glyphs c text

  parts-glyphs : (blank : Glue) (parts : List TextPart) → AllByRecursion (IsGlyphOf slot sizes) (flat_map (part_items slot sizes steps blank) parts)
  parts-glyphs blank [] = tt
  parts-glyphs blank (spaces ∷ parts) = (tt, parts-glyphs blank parts)
  parts-glyphs blank ((word w) ∷ parts) =
      each_append (IsGlyphOf slot sizes) (shaped_items slot sizes steps w) (flat_map (part_items slot sizes steps blank) parts) (shaped_items-glyphs w)
      (parts-glyphs blank parts)

  -- The glyphs of a text.
  pub text_items-glyphs : (blank : Glue) (text : List ℕ) → AllByRecursion (IsGlyphOf slot sizes) (text_items slot sizes steps blank text)
  unfolding text_items
  text_items-glyphs blank text = parts-glyphs blank (parts_of text)
