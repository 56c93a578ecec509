-- A font of a metric file that keeps its rules is whole.
use Rattle.std.proofs.Common.{◌≡◌, ℕ, ℤ, ◌+◌, ◌*◌, Bool, true, false, ◌&&◌, ◌||◌, not, cond, List, [], ◌∷◌, length, map, refl, sym, leb, ltb, subst}
use Rattle.std.specs.List.{enumerate_from, list_all, list_any}
use Rattle.tfm_core.specs.declared.record.CharInfo.{CharInfo}
use Rattle.tfm_core.specs.declared.record.LigKernStep.{LigKernStep}
use Rattle.tfm_core.specs.Fonts.{SizedFont, are_dimens_at, fits_at, font_at, is_space_at}
use Rattle.tfm_core.specs.Private.Fonts.{IsWhole, has_action, is_in_tables}
use Rattle.tfm_core.specs.Scaling.{scaled}
use Rattle.tfm_core.proofs.RuleLemmas.{or_false}
use Rattle.tfm_core.proofs.FontLemmas.{and_true}
use Rattle.std.proofs.lemmas.List.{length-map}
use Rattle.std.proofs.lemmas.Bool.{leb-false, lt-ltb}
use Rattle.tfm_core.specs.MetricFile.{MetricFile}
use Rattle.tfm_core.specs.Rules.{breaks_char_info, breaks_character, breaks_lig_kern, breaks_step, names_absent_kern_or_character}
use Rattle.tfm_core.specs.Private.Rules.{KeepsRules}

all_from_none : {X : Type 0} (p q : X → Bool) → ((x : X) → p x ≡ false → q x ≡ true) → (xs : List X) → list_any p xs ≡ false → list_all q xs ≡ true
all_from_none p q step [] h = refl
all_from_none p q step (x ∷ xs) h =
    let parts = or_false (p x) (list_any p xs) h in
    rw (step x parts.0) (all_from_none p q step xs parts.1)

all_from_none_numbered : {X : Type 0} (p : ℕ × X → Bool) (q : X → Bool) → ((k : ℕ) (x : X) → p (k, x) ≡ false → q x ≡ true) → (n : ℕ) (xs : List X) → list_any p (enumerate_from n xs) ≡ false → list_all q xs ≡ true
all_from_none_numbered p q step n [] h = refl
all_from_none_numbered p q step n (x ∷ xs) h =
    let parts = or_false (p (n, x)) (list_any p (enumerate_from (n + 1) xs)) h in
    rw (step n x parts.0) (all_from_none_numbered p q step (n + 1) xs parts.1)

within : (f : ℤ → ℤ) (xs : List ℤ) (i : ℕ) → leb (length xs) i ≡ false → ltb i (length (map f xs)) ≡ true
within f xs i h = rw (length-map xs f) (lt-ltb i (length xs) (leb-false (length xs) i h))

and_both : (a b : Bool) → a ≡ true → b ≡ true → (a && b) ≡ true
and_both a b h e = rw (h, e) refl

sizes_kept : (file : MetricFile) (size : ℤ) (c : CharInfo) → breaks_character file c ≡ false → is_in_tables (font_at file size) c ≡ true
unfolding breaks_character is_in_tables font_at
sizes_kept file size c h =
    let e = or_false _ _ h in
    let d = or_false _ _ e.0 in
    let k = or_false _ _ d.0 in
    let l = or_false _ _ k.0 in
    and_both _ _ (and_both _ _ (within (scaled size) file.widths c.width l.0) (within (scaled size) file.heights c.height l.1)) (within (scaled size) file.depths c.depth k.1)

action_by : (a n m : Bool) → cond a m n ≡ false → (a || not n) ≡ true
action_by true n m h = refl
action_by false true m h = absurd (cc)
action_by false false m h = refl

first_part : (a n m l : Bool) → cond a m (n || l) ≡ false → cond a m n ≡ false
first_part true n m l h = h
first_part false n m l h = (or_false n l h).0

action_kept : (file : MetricFile) (size : ℤ) (k : ℕ) (s : LigKernStep) → breaks_step file (k, s) ≡ false → has_action (font_at file size) s ≡ true
unfolding breaks_step has_action font_at
action_kept file size k s h =
    let restart = ltb 128 s.skip in
    let past = names_absent_kern_or_character file.counts.first file.characters (length file.kerns) s in
    let far = leb (length file.steps) (256 * s.op + s.remainder) in
    rw (length-map file.kerns (scaled size)) (action_by restart past far (first_part restart past far (ltb s.skip 128 && leb (length file.steps) (k + s.skip + 1)) h))

-- A font of such a file is whole.
pub IsWhole-font_at : (file : MetricFile) (size : ℤ) → KeepsRules file → IsWhole (font_at file size)
unfolding font_at breaks_char_info breaks_lig_kern
IsWhole-font_at file size k = record {
  characters = all_from_none (breaks_character file) (is_in_tables (font_at file size)) (sizes_kept file size) file.characters k.char_info;
  steps = all_from_none_numbered (breaks_step file) (has_action (font_at file size)) (action_kept file size) 0 file.steps k.lig_kern;
}

pub IsWhole-from_equal : (font : SizedFont) (file : MetricFile) (size : ℤ) → KeepsRules file → font ≡ font_at file size → IsWhole font
IsWhole-from_equal font file size k e = subst (λ f. IsWhole f) (sym e) (IsWhole-font_at file size k)

-- All sizes fit if those of the font do.

pub widths_fit : (file : MetricFile) (size : ℤ) → fits_at file size ≡ true → are_dimens_at size file.widths ≡ true
unfolding fits_at
widths_fit file size h = (and_true _ _ (and_true _ _ (and_true _ _ (and_true _ _ h).0).0).0).0

pub heights_fit : (file : MetricFile) (size : ℤ) → fits_at file size ≡ true → are_dimens_at size file.heights ≡ true
unfolding fits_at
heights_fit file size h = (and_true _ _ (and_true _ _ (and_true _ _ (and_true _ _ h).0).0).0).1

pub depths_fit : (file : MetricFile) (size : ℤ) → fits_at file size ≡ true → are_dimens_at size file.depths ≡ true
unfolding fits_at
depths_fit file size h = (and_true _ _ (and_true _ _ (and_true _ _ h).0).0).1

pub kerns_fit : (file : MetricFile) (size : ℤ) → fits_at file size ≡ true → are_dimens_at size file.kerns ≡ true
unfolding fits_at
kerns_fit file size h = (and_true _ _ (and_true _ _ h).0).1

pub space_fits : (file : MetricFile) (size : ℤ) → fits_at file size ≡ true → is_space_at size file.parameters ≡ true
unfolding fits_at
space_fits file size h = (and_true _ _ h).1

pub ruleset whole = (widths_fit, heights_fit, depths_fit, kerns_fit, space_fits)
