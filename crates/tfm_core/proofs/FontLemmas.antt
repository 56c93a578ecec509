-- Characters and steps of a font.
use Rattle.std.proofs.Common.{◌≡◌, ℕ, ℤ, pos, zero, suc, ◌+◌, ◌-◌, ◌*◌, Bool, true, false, ◌&&◌, ◌||◌, not, cond, eqb, ltb, leb, List, [], ◌∷◌, Option, Some, None, length, refl, ap, sym, subst, inl, inr, ◌⊎◌, ⊎_elim}
use Rattle.std.specs.List.{find, list_all, slice_get}
use Rattle.std.specs.Option.{IfSome, IsSome, is_none, option_map}
use Rattle.std.proofs.lemmas.Bool.{ltb-true, leb-true, leb-false, le-ltb}
use Rattle.std.proofs.lemmas.Option.{option_and_then_some, slice_get-get_or}
use Rattle.tfm_core.specs.declared.record.CharInfo.{CharInfo}
use Rattle.tfm_core.specs.declared.record.LigKernStep.{LigKernStep}
use Rattle.tfm_core.specs.Fonts.{SizedFont, action_of, matching_step}
use Rattle.tfm_core.specs.Private.Fonts.{HasAction, IsInTables, IsWhole, has_action, is_in_tables}
use Rattle.tfm_core.specs.Program.{first_for, info_program, is_for, is_step_for}
use Rattle.tfm_core.specs.declared.font.Step.TheVariants.{Kern, Ligature}
use Rattle.tfm_core.specs.Rules.{character_at, names_absent_kern_or_character, with_width}

pub and_true : (a b : Bool) → (a && b) ≡ true → (a ≡ true) × (b ≡ true)
and_true true b h = (refl, h)
and_true false b h = absurd (cc)

-- An element of a list passes the test of all.
pub list_all-at : {X : Type 0} (p : X → Bool) (xs : List X) (i : ℕ) (x : X) → list_all p xs ≡ true → slice_get xs i ≡ Some x → p x ≡ true
list_all-at p [] i x h e = absurd (cc)
list_all-at p (y ∷ ys) zero x h e = let same : y ≡ x = cc in subst (λ z. p z ≡ true) same (and_true _ _ h).0
list_all-at p (y ∷ ys) (suc i) x h e = list_all-at p ys i x (and_true _ _ h).1 e

kept_by : {X : Type 0} (b : Bool) (d c : X) → cond b None (Some d) ≡ Some c → d ≡ c
kept_by true d c h = absurd (cc)
kept_by false d c h = cc

none_by : {X : Type 0} (b : Bool) (o : Option X) (c : X) → cond b None o ≡ Some c → o ≡ Some c
none_by true o c h = absurd (cc)
none_by false o c h = h

with_width-is : (o : Option CharInfo) (c : CharInfo) → with_width o ≡ Some c → o ≡ Some c
with_width-is None c h = absurd (cc)
with_width-is (Some d) c h = ap Some (kept_by (eqb d.width 0) d c h)

-- A character that the font has passes the test of all.
pub character_at-passes : (p : CharInfo → Bool) (first : ℕ) (characters : List CharInfo) (code : ℕ) (c : CharInfo) → list_all p characters ≡ true → character_at first characters code ≡ Some c → p c ≡ true
unfolding character_at
character_at-passes p first characters code c h e =
    list_all-at p characters (code - first) c h (with_width-is _ c (none_by (ltb code first) _ c e))

IsInTables-from_test : (font : SizedFont) (c : CharInfo) → is_in_tables font c ≡ true → IsInTables font c
unfolding is_in_tables
IsInTables-from_test font c h =
    let p = and_true _ _ h in
    let q = and_true _ _ p.0 in
    record {
      width = ltb-true _ _ q.0;
      height = ltb-true _ _ q.1;
      depth = ltb-true _ _ p.1;
    }

-- The indices of a character that the font has are within the tables.
pub IsInTables-from_character : (font : SizedFont) (code : ℕ) (found : Option CharInfo) → IsWhole font → found ≡ character_at font.first font.characters code → IfSome found (IsInTables font)
IsInTables-from_character font code None w e = tt
IsInTables-from_character font code (Some c) w e =
    IsInTables-from_test font c (character_at-passes (is_in_tables font) font.first font.characters code c w.characters (sym e))

find_split : {X : Type 0} (b : Bool) (x y : X) (rest : Option X) → cond b (Some x) rest ≡ Some y → ((b ≡ true) × (x ≡ y)) ⊎ (rest ≡ Some y)
find_split true x y rest h = inl (refl, cc)
find_split false x y rest h = inr h

find-passes : {X : Type 0} (p : X → Bool) (xs : List X) (x : X) → find p xs ≡ Some x → p x ≡ true
find-passes p [] x h = absurd (cc)
find-passes p (y ∷ ys) x h =
    ⊎_elim (λ q. subst (λ z. p z ≡ true) q.1 q.0) (λ r. find-passes p ys x r) (find_split (p y) y x (find p ys) h)

-- The step that is found is one of the steps, and it applies to the following character.
pub first_for-parts : (steps : List LigKernStep) (following : ℕ) (ks : List ℕ) (s : LigKernStep) → first_for steps following ks ≡ Some s → (k : ℕ) × (slice_get steps k ≡ Some s) × (is_for following s ≡ true)
unfolding first_for
first_for-parts steps following ks s h =
    option_and_then_some (slice_get steps) (find (is_step_for steps following) ks) s h (λ k found at. (k, at, rw at at (find-passes (is_step_for steps following) ks k found)))

given_by : (b z : Bool) (kerns : List ℤ) (i : ℕ) (char : Option CharInfo) (r : ℕ) → cond b (leb (length kerns) i) (z && is_none char) ≡ false → (z || b) ≡ true → IsSome (cond b (option_map Kern (slice_get kerns i)) (cond (is_none char) None (Some (Ligature r))))
given_by true z kerns i char r h e =
    let within = leb-false (length kerns) i h in
    rw (slice_get-get_or kerns i (pos 0) within) refl
given_by false true kerns i None r h e = absurd (cc)
given_by false true kerns i (Some c) r h e = refl
given_by false false kerns i char r h e = absurd (cc)

-- A step that names what is there gives a kern or a ligature.
action-given : (font : SizedFont) (s : LigKernStep) → names_absent_kern_or_character font.first font.characters (length font.kerns) s ≡ false → (eqb s.op 0 || leb 128 s.op) ≡ true → IsSome (action_of font s)
unfolding action_of names_absent_kern_or_character
action-given font s h e =
    given_by (leb 128 s.op) (eqb s.op 0) font.kerns (256 * (s.op - 128) + s.remainder) (character_at font.first font.characters s.remainder) s.remainder h e

second_kept : (a b : Bool) → (a || not b) ≡ true → a ≡ false → b ≡ false
second_kept true b h e = absurd (cc)
second_kept false true h e = absurd (cc)
second_kept false false h e = refl

HasAction-from_parts : (font : SizedFont) (following : ℕ) (s : LigKernStep) → has_action font s ≡ true → is_for following s ≡ true → HasAction font s
unfolding has_action is_for
HasAction-from_parts font following s h e =
    let parts = and_true _ _ e in
    let front = and_true _ _ parts.0 in
    let low = leb-true _ _ front.1 in
    record { given = action-given font s (second_kept _ _ h (le-ltb 128 s.skip low)) parts.1 }

pub HasAction-from_matching : (font : SizedFont) (code following : ℕ) (found : Option LigKernStep) → IsWhole font → found ≡ matching_step font code following → IfSome found (HasAction font)
unfolding matching_step
HasAction-from_matching font code following None w e = tt
HasAction-from_matching font code following (Some s) w e =
    let p = first_for-parts font.steps following (info_program font.steps (character_at font.first font.characters code)) s (sym e) in
    HasAction-from_parts font following s (list_all-at (has_action font) font.steps p.0 s w.steps p.1) p.2

pub ruleset glyphs = (IsInTables-from_character)
