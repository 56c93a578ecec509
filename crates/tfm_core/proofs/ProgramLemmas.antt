-- The steps of a program that are taken.
use Rattle.std.proofs.Common.{◌≡◌, ℕ, zero, suc, ◌+◌, ◌<◌, ◌≤◌, Bool, true, false, ◌||◌, cond, ltb, List, [], ◌∷◌, Option, Some, None, refl, ap, ◌∙◌, arith, ⊎_elim}
use Rattle.std.specs.List.{slice_get}
use Rattle.std.specs.Option.{is_some, option_and_then}
use Rattle.std.proofs.lemmas.Bool.{cases_lt, lt-ltb, le-ltb}
use Rattle.tfm_core.specs.declared.record.CharInfo.{CharInfo}
use Rattle.tfm_core.specs.declared.record.LigKernStep.{LigKernStep}
use Rattle.tfm_core.specs.declared.record.Tag.{Tag}
use Rattle.tfm_core.specs.declared.record.Tag.TheVariants.{Plain, Program, Larger, Recipe}
use Rattle.tfm_core.specs.Fonts.{SizedFont, matching_step}
use Rattle.tfm_core.specs.Private.FontView.{start_of, tag_start}
use Rattle.tfm_core.specs.Program.{first_for, first_step, info_program, is_for, tag_program, taken_steps, taken_steps_from}
use Rattle.tfm_core.specs.Rules.{character_at}

-- After the last step nothing is taken.
taken_steps_from-past : (j k : ℕ) (steps : List LigKernStep) → slice_get steps k ≡ None → taken_steps_from j k steps ≡ []
taken_steps_from-past j k [] h = refl
taken_steps_from-past j zero (s ∷ rest) h = absurd (cc)
taken_steps_from-past j (suc k) (s ∷ rest) h = taken_steps_from-past (j + 1) k rest h

-- A step, and what is taken after it.
taken_steps_from-step : (j k : ℕ) (steps : List LigKernStep) (s : LigKernStep) → slice_get steps k ≡ Some s → taken_steps_from j k steps ≡ (j + k) ∷ cond (ltb s.skip 128) (taken_steps_from j (k + (s.skip + 1)) steps) []
taken_steps_from-step j k [] s h = absurd (cc)
taken_steps_from-step j zero (t ∷ rest) s h =
    let same : t ≡ s = cc in
    let here : j + 0 ≡ j = omega arith in
    let after : 0 + (s.skip + 1) ≡ suc s.skip = omega arith in
    rw (here, after) (ap (λ (u : LigKernStep). j ∷ cond (ltb u.skip 128) (taken_steps_from (j + 1) u.skip rest) []) same)
taken_steps_from-step j (suc k) (t ∷ rest) s h =
    let later = taken_steps_from-step (j + 1) k rest s h in
    let here : j + suc k ≡ j + 1 + k = omega arith in
    let after : suc k + (s.skip + 1) ≡ suc (k + (s.skip + 1)) = omega arith in
    rw (here, after) later

-- The steps that are taken from step k on, by the step at k.
pub taken_steps-past : (steps : List LigKernStep) (k : ℕ) → slice_get steps k ≡ None → taken_steps steps k ≡ []
unfolding taken_steps
taken_steps-past steps k h = taken_steps_from-past 0 k steps h

pub taken_steps-last : (steps : List LigKernStep) (k : ℕ) (s : LigKernStep) → slice_get steps k ≡ Some s → 128 ≤ s.skip → taken_steps steps k ≡ k ∷ []
unfolding taken_steps
taken_steps-last steps k s h l =
    let whole = taken_steps_from-step 0 k steps s h in
    let here : 0 + k ≡ k = omega arith in
    let test = le-ltb s.skip 128 l in
    rw (here, test) at whole

pub taken_steps-next : (steps : List LigKernStep) (k : ℕ) (s : LigKernStep) → slice_get steps k ≡ Some s → s.skip < 128 → taken_steps steps k ≡ k ∷ taken_steps steps (k + (s.skip + 1))
unfolding taken_steps
taken_steps-next steps k s h l =
    let whole = taken_steps_from-step 0 k steps s h in
    let here : 0 + k ≡ k = omega arith in
    let test = lt-ltb s.skip 128 l in
    rw (here, test) at whole

-- What is found among them.

-- Nothing is found after the last step.
pub first_for-past : (steps : List LigKernStep) (following k : ℕ) → slice_get steps k ≡ None → first_for steps following (taken_steps steps k) ≡ None
unfolding first_for
first_for-past steps following k h = rw (taken_steps-past steps k h) refl

first_for-cons : (steps : List LigKernStep) (following k : ℕ) (later : List ℕ) (s : LigKernStep) (b : Bool) → slice_get steps k ≡ Some s → is_for following s ≡ b → first_for steps following (k ∷ later) ≡ cond b (Some s) (first_for steps following later)
unfolding first_for
first_for-cons steps following k later s true h e = rw h (rw e (rw h refl))
first_for-cons steps following k later s false h e = rw h (rw e refl)

-- The step itself is found, if it applies to the following character.
pub first_for-here : (steps : List LigKernStep) (following k : ℕ) (s : LigKernStep) → slice_get steps k ≡ Some s → is_for following s ≡ true → first_for steps following (taken_steps steps k) ≡ Some s
first_for-here steps following k s h e =
    ⊎_elim
    (λ (l : s.skip < 128). rw (taken_steps-next steps k s h l) (first_for-cons steps following k _ s true h e))
    (λ (l : 128 ≤ s.skip). rw (taken_steps-last steps k s h l) (first_for-cons steps following k _ s true h e))
    (cases_lt s.skip 128)

pub first_for-none : (steps : List LigKernStep) (following : ℕ) → first_for steps following [] ≡ None
unfolding first_for
first_for-none steps following = refl

-- Nothing is found, if the step is the last and does not apply.
pub first_for-last : (steps : List LigKernStep) (following k : ℕ) (s : LigKernStep) → slice_get steps k ≡ Some s → is_for following s ≡ false → 128 ≤ s.skip → first_for steps following (taken_steps steps k) ≡ None
first_for-last steps following k s h e l =
    rw (taken_steps-last steps k s h l) (first_for-cons steps following k [] s false h e ∙ first_for-none steps following)

-- Otherwise the result is what is found later.
pub first_for-later : (steps : List LigKernStep) (following k : ℕ) (s : LigKernStep) → slice_get steps k ≡ Some s → is_for following s ≡ false → s.skip < 128 → first_for steps following (taken_steps steps k) ≡ first_for steps following (taken_steps steps (k + (s.skip + 1)))
first_for-later steps following k s h e l =
    rw (taken_steps-next steps k s h l) (first_for-cons steps following k (taken_steps steps (k + (s.skip + 1))) s false h e)

-- What is found among them, while the loop passes over the steps: `old` says that it was found before.

found_later : (b old : Bool) (s : LigKernStep) (rest : Option LigKernStep) → (b || old || is_some rest) ≡ (old || is_some (cond b (Some s) rest))
found_later true true s rest = refl
found_later true false s rest = refl
found_later false true s rest = refl
found_later false false s rest = refl

found_here : (b old : Bool) (s : LigKernStep) → (b || old) ≡ (old || is_some (cond b (Some s) None))
found_here true true s = refl
found_here true false s = refl
found_here false true s = refl
found_here false false s = refl

or_nothing : (old : Bool) → old ≡ (old || false)
or_nothing true = refl
or_nothing false = refl

pub found-past : (steps : List LigKernStep) (following k : ℕ) (old : Bool) → slice_get steps k ≡ None → old ≡ (old || is_some (first_for steps following (taken_steps steps k)))
found-past steps following k old h = rw (first_for-past steps following k h) (or_nothing old)

pub found-last : (steps : List LigKernStep) (following k : ℕ) (s : LigKernStep) (old : Bool) → slice_get steps k ≡ Some s → 128 ≤ s.skip →
    (is_for following s || old) ≡ (old || is_some (first_for steps following (taken_steps steps k)))
found-last steps following k s old h l =
    rw (taken_steps-last steps k s h l, first_for-cons steps following k [] s (is_for following s) h refl, first_for-none steps following) (found_here (is_for following s) old s)

pub found-next : (steps : List LigKernStep) (following k : ℕ) (s : LigKernStep) (old : Bool) → slice_get steps k ≡ Some s → s.skip < 128 →
    (is_for following s || old || is_some (first_for steps following (taken_steps steps (k + (s.skip + 1)))))
    ≡ (old || is_some (first_for steps following (taken_steps steps k)))
found-next steps following k s old h l =
    let later = taken_steps steps (k + (s.skip + 1)) in
    rw (taken_steps-next steps k s h l, first_for-cons steps following k later s (is_for following s) h refl) (found_later (is_for following s) old s (first_for steps following later))

-- What is found among the steps from the beginning of a character's program.

from_tag : (steps : List LigKernStep) (following : ℕ) (tag : Tag) (k : ℕ) → Some k ≡ tag_start steps tag →
    first_for steps following (taken_steps steps k) ≡ first_for steps following (tag_program steps tag)
from_tag steps following (Program j) k e = let same : k ≡ first_step steps j = cc in rw same refl
from_tag steps following Plain k e = absurd (cc)
from_tag steps following (Larger c) k e = absurd (cc)
from_tag steps following (Recipe r) k e = absurd (cc)

without_tag : (steps : List LigKernStep) (following : ℕ) (tag : Tag) → None ≡ tag_start steps tag → first_for steps following (tag_program steps tag) ≡ None
without_tag steps following (Program j) e = absurd (cc)
without_tag steps following Plain e = first_for-none steps following
without_tag steps following (Larger c) e = first_for-none steps following
without_tag steps following (Recipe r) e = first_for-none steps following

from_info : (steps : List LigKernStep) (following : ℕ) (found : Option CharInfo) (k : ℕ) → Some k ≡ option_and_then (λ (c : CharInfo). tag_start steps c.tag) found →
    first_for steps following (taken_steps steps k) ≡ first_for steps following (info_program steps found)
from_info steps following None k e = absurd (cc)
from_info steps following (Some c) k e = from_tag steps following c.tag k e

without_info : (steps : List LigKernStep) (following : ℕ) (found : Option CharInfo) → None ≡ option_and_then (λ (c : CharInfo). tag_start steps c.tag) found →
    first_for steps following (info_program steps found) ≡ None
without_info steps following None e = first_for-none steps following
without_info steps following (Some c) e = without_tag steps following c.tag e

pub matching_step-from : (font : SizedFont) (code following k : ℕ) → Some k ≡ start_of font code →
    first_for font.steps following (taken_steps font.steps k) ≡ matching_step font code following
unfolding matching_step start_of
matching_step-from font code following k e = from_info font.steps following (character_at font.first font.characters code) k e

-- The step that is found from there is the one that matches.
pub step-from : (font : SizedFont) (code following start from : ℕ) (steps : List LigKernStep) (found : Option LigKernStep) → Some start ≡ start_of font code →
    steps ≡ font.steps → from ≡ start → found ≡ first_for steps following (taken_steps steps from) → found ≡ matching_step font code following
step-from font code following start from steps found e s t h = h ∙ rw (s, t) (matching_step-from font code following start e)

pub matching_step-without : (font : SizedFont) (code following : ℕ) → None ≡ start_of font code → matching_step font code following ≡ None
unfolding matching_step start_of
matching_step-without font code following e = without_info font.steps following (character_at font.first font.characters code) e

pub ruleset programs = (first_for-none, first_for-past, first_for-here, first_for-last, first_for-later)
