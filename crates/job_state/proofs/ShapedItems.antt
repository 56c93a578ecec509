-- The replies and effects of the commands on characters, by the items that the characters become.
use Rattle.std.proofs.Common.{◌≡◌, ◌∙◌, ◌++◌, ◌∷◌, ℕ, Bool, true, false, List, [], Option, Some, None, Result, Ok, Err, OnOk, OnErr, refl, ap, sym}
use Rattle.job_machine.specs.declared.command.Command.TheVariants.{Text, Character}
use Rattle.job_machine.specs.declared.replies.Refusal.{Refusal}
use Rattle.job_machine.specs.declared.replies.Refusal.TheVariants.{JobOver}
use Rattle.tfm_core.specs.declared.slots.LoadedFont.{LoadedFont}
use Rattle.tfm_core.specs.Slots.{font_in}
use Rattle.job_machine.specs.declared.OpenList.{OpenList}
use Rattle.job_machine.specs.FontSlots.{CharacterItems, text_items_in, character_in, text_shaped, character_shaped}
use Rattle.job_machine.specs.State.{State, innermost, open_count}
use Rattle.job_machine.specs.Checks.{character_checks, count_checks, length_checks, shape_checks, first_refusal}
use Rattle.job_machine.specs.Effects.{with_nodes, with_items}
use Rattle.job_machine.specs.Machine.{state_by, state_after}
use Rattle.job_state.specs.JobStateView.{JobStateView, before_shipping}

module _ {A E P Q : Type 0} where
  pub on_ok : (r : Result A E) → (P → Q) → OnOk r P → OnOk r Q
  on_ok (Ok x) f p = f p
  on_ok (Err e) f p = tt

  pub on_err : (r : Result A E) → (P → Q) → OnErr r P → OnErr r Q
  on_err (Ok x) f p = tt
  on_err (Err e) f p = f p

-- What was found for characters in the fields of a state, for the state that callers see.
module _ (kept seen : JobStateView) (is : kept ≡ seen) where
  pub refused_as : (found : Option Refusal) → first_refusal (character_checks (before_shipping kept)) ≡ found
      → first_refusal (character_checks (before_shipping seen)) ≡ found
  refused_as found checked = ap (λ (t : JobStateView). first_refusal (character_checks (before_shipping t))) (sym is) ∙ checked

  pub current_as : (slot : ℕ) → kept.current ≡ Some slot → seen.current ≡ Some slot
  current_as slot found = ap (λ (t : JobStateView). t.current) (sym is) ∙ found

  pub font_as : (slot : ℕ) (loaded : LoadedFont) → font_in kept.fonts slot ≡ Some loaded → font_in seen.fonts slot ≡ Some loaded
  font_as slot loaded found = ap (λ (t : JobStateView). font_in t.fonts slot) (sym is) ∙ found

-- If no check refuses characters as such, only the number of their items decides.
none_before : (own more : List (Bool × Refusal)) → first_refusal own ≡ None → first_refusal (own ++ more) ≡ first_refusal more
none_before [] more is = refl
none_before ((true, r) ∷ own) more is = cc
none_before ((false, r) ∷ own) more is = none_before own more is

by_number : (s : State) (shaped : CharacterItems) → s.over ≡ false → first_refusal (character_checks s) ≡ None
    → first_refusal (length_checks s shaped.items) ≡ first_refusal ((s.over, JobOver) ∷ shape_checks s shaped)
by_number s shaped running free = rw running (sym (none_before (character_checks s) (length_checks s shaped.items) free))

-- The state with the items that characters become, if the innermost list has space for them.
module _ (s : State) (shaped : CharacterItems) (running : s.over ≡ false) (free : first_refusal (character_checks s) ≡ None) where
  shaped_state : (now : List OpenList) (found : CharacterItems) (count : ℕ) → found ≡ shaped → count ≡ open_count s
      → now ≡ state_by (first_refusal (count_checks count found.items)) s.nest (with_nodes s.nest found.items (innermost s.nest))
      → record s { nest = now } ≡ state_by (first_refusal ((s.over, JobOver) ∷ shape_checks s shaped)) s (with_items s shaped.items)
  shaped_state now found count same many is =
      ap (λ (nest : List OpenList). record s { nest = nest })
      (is
      ∙ (ap (λ (x : CharacterItems). state_by (first_refusal (count_checks count x.items)) s.nest (with_nodes s.nest x.items (innermost s.nest))) same
      ∙ ap (λ (n : ℕ). state_by (first_refusal (count_checks n shaped.items)) s.nest (with_nodes s.nest shaped.items (innermost s.nest))) many))
      ∙ (by (first_refusal (length_checks s shaped.items))
      ∙ ap (λ (o : Option Refusal). state_by o s (with_items s shaped.items)) (by_number s shaped running free))
    where
      by : (o : Option Refusal)
          → record s { nest = state_by o s.nest (with_nodes s.nest shaped.items (innermost s.nest)) } ≡ state_by o s (with_items s shaped.items)
      by None = refl
      by (Some r) = refl

-- The same for a text, and for one character, in the current font.
module _ (s : State) (slot : ℕ) (loaded : LoadedFont) (running : s.over ≡ false) (current : s.current ≡ Some slot)
    (font : font_in s.fonts slot ≡ Some loaded) (free : first_refusal (character_checks s) ≡ None) where
  text_same : (text : List ℕ) → text_items_in (Some loaded) slot text ≡ text_shaped s.fonts s.current text
  text_same text = rw (current, font) refl

  character_same : (code : ℕ) → character_in (Some loaded) slot code ≡ character_shaped s.fonts s.current code
  character_same code = rw (current, font) refl

  pub text_state : (now : List OpenList) (text codes : List ℕ) (count : ℕ) → codes ≡ text → count ≡ open_count s
      → now ≡ state_by (first_refusal (count_checks count (text_items_in (Some loaded) slot codes).items)) s.nest
      (with_nodes s.nest (text_items_in (Some loaded) slot codes).items (innermost s.nest))
      → record s { nest = now } ≡ state_after s (Text text)
  text_state now text codes count are many is =
      shaped_state s (text_shaped s.fonts s.current text) running free now (text_items_in (Some loaded) slot codes) count
      (ap (text_items_in (Some loaded) slot) are ∙ text_same text) many is

  pub character_state : (now : List OpenList) (code : ℕ) (count : ℕ) → count ≡ open_count s
      → now ≡ state_by (first_refusal (count_checks count (character_in (Some loaded) slot code).items)) s.nest
      (with_nodes s.nest (character_in (Some loaded) slot code).items (innermost s.nest))
      → record s { nest = now } ≡ state_after s (Character code)
  character_state now code count many is =
      shaped_state s (character_shaped s.fonts s.current code) running free now (character_in (Some loaded) slot code) count
      (character_same code) many is
