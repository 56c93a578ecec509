-- Laws of the definitions.
use Rattle.std.proofs.Common.{◌≡◌, ◌↔◌, ℕ, ℤ, pos, zero, suc, ◌+◌, ◌-◌, ◌*◌, ◌<◌, ◌≤◌, Bool, true, false, cond, List, [], ◌∷◌, Option, Some, None, length, get_or, map, refl, ap, sym, ◌∙◌, subst, arith, leb, ⊎_elim}
use Rattle.std.specs.List.{slice_get, slice_index}
use Rattle.std.specs.List.Sorted.{IsStrictlyIncreasing}
use Rattle.std.specs.Option.{IsSome, is_none, option_map}
use Rattle.std.proofs.lemmas.Bool.{cases_lt}
use Rattle.std.proofs.Math.Nat.{zero-mul}
use Rattle.std.proofs.lemmas.Option.{option_and_then_some, slice_get_cases, slice_get_past}
use Rattle.tfm_core.specs.declared.record.CharInfo.{CharInfo}
use Rattle.tfm_core.specs.declared.record.LigKernStep.{LigKernStep}
use Rattle.scaled_core.specs.declared.sizes.Sizes.{Sizes}
use Rattle.tfm_core.specs.declared.font.Step.TheVariants.{Kern, Ligature}
use Rattle.tfm_core.specs.Fonts.{SizedFont, action_of, font_at, glyph_of, matching_step, sizes_in, sizes_of, step_of}
use Rattle.tfm_core.specs.MetricFile.{MetricFile}
use Rattle.tfm_core.specs.Rules.{character_at}
use Rattle.tfm_core.specs.Scaling.{kept_size, scaled}
use Rattle.tfm_core.specs.Program.{TakesSteps, past, last, next, taken_steps}
use Rattle.tfm_core.proofs.ProgramLemmas.{taken_steps-past, taken_steps-last, taken_steps-next}

-- The steps that are taken.

taken_steps-unique : (steps : List LigKernStep) {k : ℕ} {ks : List ℕ} → TakesSteps steps k ks → ks ≡ taken_steps steps k
taken_steps-unique steps (past {k = k} h) = sym (taken_steps-past steps k (slice_get_past steps k h))
taken_steps-unique steps (last {k = k} {s = s} h l) = sym (taken_steps-last steps k s h l)
taken_steps-unique steps (next {k = k} {s = s} h l t) =
    ap (λ ks. k ∷ ks) (taken_steps-unique steps t) ∙ sym (taken_steps-next steps k s h l)

none_past : (steps : List LigKernStep) (k : ℕ) → slice_get steps k ≡ None → length steps ≤ k
none_past steps k h =
    ⊎_elim (λ p. absurd (let e = p.2 in cc)) (λ q. q.0) (slice_get_cases steps k).1

Takes-at : (steps : List LigKernStep) (k : ℕ) (o : Option LigKernStep) → slice_get steps k ≡ o → ((s : LigKernStep) → TakesSteps steps (k + (s.skip + 1)) (taken_steps steps (k + (s.skip + 1)))) → TakesSteps steps k (taken_steps steps k)
Takes-at steps k None h later = rw (taken_steps-past steps k h) (past (none_past steps k h))
Takes-at steps k (Some s) h later =
    ⊎_elim (λ (l : s.skip < 128). rw (taken_steps-next steps k s h l) (next h l (later s))) (λ (l : 128 ≤ s.skip). rw (taken_steps-last steps k s h l) (last h l)) (cases_lt s.skip 128)

Takes-within : (steps : List LigKernStep) (n k : ℕ) → length steps ≤ k + n → TakesSteps steps k (taken_steps steps k)
Takes-within steps zero k h =
    let over : length steps ≤ k = omega arith in
    rw (taken_steps-past steps k (slice_get_past steps k over)) (past over)
Takes-within steps (suc n) k h =
    Takes-at steps k (slice_get steps k) refl (λ s. Takes-within steps n (k + (s.skip + 1)) (omega arith))

-- `TakesSteps` holds only for one list: the list of the steps that are taken.
pub Takes-taken_steps : (steps : List LigKernStep) (k : ℕ) (ks : List ℕ) → (TakesSteps steps k ks ↔ (ks ≡ taken_steps steps k))
Takes-taken_steps steps k ks =
    (λ t. taken_steps-unique steps t, λ e. subst (λ js. TakesSteps steps k js) (sym e) (Takes-within steps (length steps) k (omega arith)))

first_taken : (steps : List LigKernStep) {k : ℕ} {ks : List ℕ} → TakesSteps steps k ks → 0 < length ks → slice_index ks 0 ≡ k
first_taken steps (past h) l = absurd (omega arith)
first_taken steps (last h m) l = refl
first_taken steps (next h m t) l = refl

increasing_cons : (k : ℕ) (later : List ℕ) → (0 < length later → k < slice_index later 0) → IsStrictlyIncreasing later → IsStrictlyIncreasing (k ∷ later)
increasing_cons k later above rest zero h = above (omega arith)
increasing_cons k later above rest (suc i) h =
    let e : suc i + 1 ≡ suc (i + 1) = omega arith in
    rw e (rest i (omega arith))

Takes-rising : (steps : List LigKernStep) {k : ℕ} {ks : List ℕ} → TakesSteps steps k ks → IsStrictlyIncreasing ks
Takes-rising steps (past h) i l = absurd (omega arith)
Takes-rising steps (last h m) i l = absurd (omega arith)
Takes-rising steps (next {k = k} {s = s} {later = later} h m t) i l =
    increasing_cons k later (λ some. let e = first_taken steps t some in omega arith) (Takes-rising steps t) i l

-- The numbers of the steps that are taken increase.
pub taken_steps-rising : (steps : List LigKernStep) (k : ℕ) → IsStrictlyIncreasing (taken_steps steps k)
taken_steps-rising steps k = Takes-rising steps (Takes-within steps (length steps) k (omega arith))

-- Ligatures.

ligature_by : (b : Bool) (kern : Option ℤ) (char : Option CharInfo) (r e : ℕ) → cond b (option_map Kern kern) (cond (is_none char) None (Some (Ligature r))) ≡ Some (Ligature e) → (r ≡ e) × IsSome char
ligature_by true None char r e h = absurd (cc)
ligature_by true (Some x) char r e h = absurd (cc)
ligature_by false kern None r e h = absurd (cc)
ligature_by false kern (Some c) r e h = (cc, refl)

mapped_some : {X Y : Type 0} (f : X → Y) (o : Option X) → IsSome o → IsSome (option_map f o)
mapped_some f None h = absurd (cc)
mapped_some f (Some x) h = refl

-- The characters of ligatures are in the font.
pub ligature-there : (font : SizedFont) (code following e : ℕ) → step_of font code following ≡ Some (Ligature e) → IsSome (glyph_of font e)
unfolding step_of action_of glyph_of
ligature-there font code following e h =
    option_and_then_some (action_of font) (matching_step font code following) (Ligature e) h (λ s found at.
    let p = ligature_by (leb 128 s.op) (slice_get font.kerns (256 * (s.op - 128) + s.remainder)) (character_at font.first font.characters s.remainder) s.remainder e at in
    mapped_some (sizes_of font) (character_at font.first font.characters e) (subst (λ r. IsSome (character_at font.first font.characters r)) p.0 p.1))

-- Sizes.

scaled-zero : (size : ℤ) → scaled size (pos 0) ≡ pos 0
unfolding scaled
scaled-zero size = rw (zero-mul (kept_size size)) refl

scaled-entry : (size : ℤ) (words : List ℤ) (i : ℕ) → get_or (map (scaled size) words) i (pos 0) ≡ scaled size (get_or words i (pos 0))
scaled-entry size [] i = sym (scaled-zero size)
scaled-entry size (w ∷ ws) zero = refl
scaled-entry size (w ∷ ws) (suc i) = scaled-entry size ws i

sizes_made : ℤ → ℤ → ℤ → Sizes
sizes_made width height depth = record { width = width; height = height; depth = depth }

sizes_same : (file : MetricFile) (size : ℤ) (c : CharInfo) → sizes_of (font_at file size) c ≡ sizes_in file size c
unfolding font_at sizes_made
sizes_same file size c =
    ap (λ w. sizes_made w (get_or (map (scaled size) file.heights) c.height (pos 0)) (get_or (map (scaled size) file.depths) c.depth (pos 0))) (scaled-entry size file.widths c.width)
    ∙ ap (λ h. sizes_made (scaled size (get_or file.widths c.width (pos 0))) h (get_or (map (scaled size) file.depths) c.depth (pos 0))) (scaled-entry size file.heights c.height)
    ∙ ap (λ d. sizes_made (scaled size (get_or file.widths c.width (pos 0))) (scaled size (get_or file.heights c.height (pos 0))) d) (scaled-entry size file.depths c.depth)

map_same : {X Y : Type 0} (f g : X → Y) → ((x : X) → f x ≡ g x) → (o : Option X) → option_map f o ≡ option_map g o
map_same f g e None = refl
map_same f g e (Some x) = ap Some (e x)

-- The sizes of a character are the scaled words.
pub glyph_of-font_at : (file : MetricFile) (size : ℤ) (code : ℕ) → glyph_of (font_at file size) code ≡ option_map (sizes_in file size) (character_at file.counts.first file.characters code)
unfolding glyph_of font_at
glyph_of-font_at file size code =
    map_same (sizes_of (font_at file size)) (sizes_in file size) (sizes_same file size) (character_at file.counts.first file.characters code)
