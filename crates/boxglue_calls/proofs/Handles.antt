-- The machine values of a handle. Assumes `Logic`.
use Rattle.std.proofs.Common.{◌≡◌, ℕ, List, [], ◌∷◌, ◌++◌, refl, subst}
use seplogic.Ra.Ura.{Ura}
use mir.Raw.{raw as bare}
use mir.Val.{Val, vstruct, vcons, vnil, of_list}
use base.Logic.{ent, guard, via, snd∗, never_e, guard_i}
use base.Fml.{ftrue}
use contract.Monad.{fact_use}
use types.Logic.{Logic, sem}
use types.Kit.{Item, Goal, Seq, Step, step, ‵, given, learn, ◌$◌, drop, use1, fsplit, fjoin, fpick, fpack, feq_i, feq_l}
use denote.RattleType.{RattleType, Valss}
use denote.Builtin.{RawPtr}
use denote.Memory.{lone}
use denote.RawPtr.{Ptr, block_ptr, null_ptr, ptr_val, Testable}
use denote.Steps.{nothing}
use denote.Struct.Struct.{within}
use denote.Struct.Owning.{shape}
use Rattle.core.specs.Ptr.{points_to}
use Rattle.std.specs.declared.option.Option.{Option}
use Rattle.std.specs.declared.option.Option.TheVariants.{None, Some}
use Rattle.std.specs.declared.alloc.Global.{Global}
use Rattle.std.proofs.GlobalToken.{dealloc_token-Testable}
use Rattle.std_alloc.specs.Box.Ownership.{box_owns}
use Rattle.boxglue_calls.specs.Private.Owned.{token, owned_by_handle}
use Rattle.boxglue_calls.specs.contracts.jobs.handle.JobHandle as handle
use Rattle.boxglue_calls.specs.contracts.jobs.kept_job.KeptJob.{the_row as K}

abbrev pub word : Ptr → Val
word p = vstruct (vcons (ptr_val p) vnil)

-- what may be freed may be compared with null
pub tested : {M : Type 1} {𝓤 : Ura M} (𝓛 : Logic 𝓤) (R : RattleType) (a : Global) (p : Ptr) (x : R.Denot)
    → ent 𝓤 (sem 𝓛 (box_owns token R p x)) (guard 𝓤 (Testable p) (sem 𝓛 (box_owns token R p x)))
tested {𝓤 = 𝓤} 𝓛 R a p x =
    fact_use 𝓤 (Testable p) (via 𝓤 _ (snd∗ 𝓤 (sem 𝓛 (points_to R p x)) (sem 𝓛 (token (bare (lone R.mir)) p))) (dealloc_token-Testable 𝓛 a (bare (lone R.mir)) p))
    (guard_i 𝓤 (Testable p) (sem 𝓛 (box_owns token R p x)))

module _ {M : Type 1} {𝓤 : Ura M} {𝓛 : Logic 𝓤} {X : Type 0} {Γ : List (Item 𝓤)} {G : Goal 𝓤 𝓛.H} where
  pub held_out : X → (R : RattleType) (p : Ptr) (x : Option R.Denot) → (p ≡ null_ptr → x ≡ None → Seq X 𝓛 Γ G)
      → ((b o : ℕ) (y : R.Denot) → p ≡ block_ptr b o → x ≡ Some y → Seq X 𝓛 (‵ (box_owns token R (block_ptr b o) y) ∷ Γ) G) → Seq X 𝓛 (‵ (owned_by_handle R p x) ∷ Γ) G
  held_out t R null_ptr None k l = drop t $ k refl refl
  held_out t R null_ptr (Some y) k l = use1 𝓛 (given ⊥ (‵ ftrue)) (never_e 𝓤 _) $ learn t (λ z. absurd z)
  held_out t R (block_ptr b o) None k l = use1 𝓛 (given ⊥ (‵ ftrue)) (never_e 𝓤 _) $ learn t (λ z. absurd z)
  held_out t R (block_ptr b o) (Some y) k l = l b o y refl refl

  pub handle_out : X → (h : (handle.the_row).Denot) (vs : List Val) → (h.at ≡ null_ptr → h.value ≡ None → vs ≡ word null_ptr ∷ [] → Seq X 𝓛 Γ G)
      → ((b o : ℕ) (x : K.Denot) → h.at ≡ block_ptr b o → h.value ≡ Some x → vs ≡ word (block_ptr b o) ∷ [] → Seq X 𝓛 (‵ (box_owns token K (block_ptr b o) x) ∷ Γ) G)
      → Seq X 𝓛 (‵ ((handle.the_row).own_val h vs) ∷ Γ) G
  handle_out t h vs k l =
      fsplit t $ fpick t (λ vss. fsplit t $ feq_l t (λ ev. fsplit t $ feq_l t (λ ep. drop t $
      held_out t K h.at h.value
      (λ e f. k e f (subst (λ (q : Ptr). vs ≡ word q ∷ []) e (subst (λ (ps : List Val). vs ≡ vstruct (of_list (ps ++ [])) ∷ []) ep ev)))
      (λ b o x e f. l b o x e f (subst (λ (q : Ptr). vs ≡ word q ∷ []) e (subst (λ (ps : List Val). vs ≡ vstruct (of_list (ps ++ [])) ∷ []) ep ev))))))

  pub handle_in : X → (p : Ptr) (x : Option K.Denot) → Step X 𝓛 (‵ ((handle.the_row).own_val (record { at = p; value = x }) (word p ∷ [])) ∷ Γ) G (‵ (owned_by_handle K p x) ∷ Γ) G
  handle_in t p x = step (λ s.
      nothing t $ feq_i t (List Val) (ptr_val p ∷ []) (ptr_val p ∷ []) refl $ fjoin t $ feq_i t (List Val) (word p ∷ []) (word p ∷ []) refl $ fjoin t $
      fpack t (Valss (RawPtr ∷ [])) (within (shape handle.the_type) (p, tt) (word p ∷ [])) (ptr_val p ∷ [], tt) $ fjoin t $ s)
