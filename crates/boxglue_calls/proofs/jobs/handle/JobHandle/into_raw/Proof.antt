-- `into_raw` compares the pointer with null. Assumes `Logic`.
use Rattle.std.proofs.Common.{◌≡◌, List, [], ◌∷◌, ◌++◌, refl, sym, subst, lit<}
use mathlib.Core.Bool.{◌&&◌, true}
use mir.Syntax.{Fn, impl, tnil, dnil}
use mir.Val.{Val, vptr, of_list, has_ty}
use base.Logic.{SProp, ent, emp, id⊢}
use base.Fml.{ftrue}
use prog.Wp.{WpFn}
use contract.Monad.{fact, fact_i}
use contract.Running.{tables}
use types.Kit.{‵, raw, ◌⊛◌, given, learn, at_ret, ◌$◌, ◌∵◌, !, qed, by, move, keep, use0, use1, split, join, suffices, fsplit, fjoin}
use types.Match.{live}
use types.Part.{agg, sub, whole}
use types.Run.{stop, fld, of_opd, bin, lit, no_more, and_then, first, branches, skips, exec, returns, returns_within, enter}
use types.ByLocal.{alloc_all, pass_all, free_all, look_at, get, get_in, sets, env}
use denote.RattleType.{RattleType, owns}
use denote.RawPtr.{block_ptr, null_ptr, Testable, tests_null}
use denote.Param.{layout}
use denote.Signature.{types_at, plain}
use denote.Steps.{nothing}
use denote.Triple.Entry.{alive}
use denote.Triple.Walked.{Stays, stay_dropped, walk_of}
use Rattle.core.proofs.alloc.Calls.{Al, Goes-blank, handle_tells}
use Rattle.std.specs.Prelude.{IfSome}
use Rattle.std.specs.declared.option.Option.{Option}
use Rattle.std.specs.declared.option.Option.TheVariants.{None, Some}
use Rattle.std.specs.contracts.option.Option as option
use Rattle.std.specs.contracts.alloc.Global.{the_row as Z}
use Rattle.std.specs.contracts.impls.GlobalAllocator.TheImpl.{ghosts}
use Rattle.std.proofs.alloc.Global.TheLaws.{the_row_laws as LZ}
use Rattle.std.proofs.raw_atomic.Walks.{proved_at, leaves}
use Rattle.std_alloc.proofs.ResultValues.{and_tt}
use Rattle.std_alloc.proofs.VecSteps.Element.{Some-of, none_of}
use Rattle.std_alloc.specs.Box.Ownership.{box_owns}
use Rattle.boxglue_calls.specs.Private.Owned.{token}
use Rattle.boxglue_calls.proofs.Handles.{word, tested, handle_out}
use Rattle.boxglue_calls.proofs.Values.{both, raw_good, raw_in}
use Rattle.boxglue_calls.specs.contracts.jobs.kept_job.KeptJob.{the_row as K}
use Rattle.boxglue_calls.specs.contracts.jobs.raw_box.RawBox as raw
use Rattle.boxglue_calls.specs.contracts.jobs.handle.JobHandle as handle
use Rattle.boxglue_calls.specs.contracts.jobs.handle.JobHandle.into_raw.{ended, clauses}
use Rattle.boxglue_calls.specs.contracts.jobs.handle.JobHandle.into_raw.Key.{name as #self}
use Rattle.boxglue_calls.proofs.jobs.handle.JobHandle.into_raw.Statement.{statement}
use Rattle.boxglue_calls.proofs.jobs.handle.JobHandle.into_raw.Code as code

abbrev heap : Al
heap = record { row = Z; laws = LZ; g = ghosts; d = impl [] tnil dnil; drops = impl [] tnil dnil }

abbrev L : RattleType
L = raw.the_row K Z ghosts

some_is_not_none : {A : Type 0} (x : A) (B : Type 0) → Some x ≡ None → B
some_is_not_none x B e = cc

pub into_raw_spec : {M : Type 1} → statement M
into_raw_spec 𝓤 𝓛 𝓜 𝓡 wired =
    let H = 𝓛.H in let 𝓣 = tables 𝓤 H 𝓜 𝓡 𝓡.env in let c = clauses 𝓛 𝓜.mem 𝓡.returns in let fn : Fn = code.function in
    let hs : Stays ended.signature.params ended.kept = (stay_dropped (plain (λ _. handle.the_row)) ended.kept.0, (stay_dropped (plain (λ _. Z)) ended.kept.1.0, tt)) in
    proved_at 𝓛 ended hs c 𝓜 𝓡 (Goes-blank 𝓛 0 (plain (λ _. handle.the_row)) ended.kept.0 (λ κs x f. tt), (Goes-blank 𝓛 0 (plain (λ _. Z)) ended.kept.1.0 (λ κs x f. tt), tt))
    #self fn (code.unfolded 𝓤 H 𝓜 𝓡 wired) (λ z are.
    let d = z.0.3.0 in let a = z.0.3.1.0 in let Post : Val → SProp 𝓤 = (walk_of 𝓛 ended hs c).post z in let Run : List Val → SProp 𝓤 = λ ws. WpFn 𝓤 H 𝓣.C 𝓣.Λ fn ws Post in
    let Said : Option L.Denot → Type 0 = λ r. IfSome r (λ x. d.value ≡ Some x.value) in let Silent : Option L.Denot → Type 0 = λ r. r ≡ None → d.value ≡ None in
    qed 𝓛 ((raw (alive 𝓛 ended.signature z.0.0 z.0.1) ⊛ ‵ (owns (types_at ended.signature.params z.0.0) z.0.3 z.0.4)) ∷ ‵ ftrue ∷ []) ∵
    split ! $ keep ! (1 ∷ 0 ∷ []) $ fsplit ! $ move ! (1 ∷ []) $ fsplit ! $ handle_tells heap ! a z.0.4.1.0 (λ h eh fits. move ! (2 ∷ []) $
    -- [the handle; the allocator; nothing; the tokens]
    handle_out ! d z.0.4.0
    (λ e f ws.
    suffices ! (Run (word null_ptr ∷ h ∷ [])) (subst (λ (us : List Val). ent 𝓤 (Run (word null_ptr ∷ h ∷ [])) (Run us)) (sym (λ i. ws i ++ (eh i ++ []))) (id⊢ 𝓤 (Run (word null_ptr ∷ h ∷ [])))) $
    enter ! 𝓣.C 𝓣.Λ fn (word null_ptr ∷ h ∷ []) Post $ alloc_all ! (λ l. pass_all ! refl ((tt, (record { fits = lit< tt }, tt)), (fits, tt)) $
    sets ! (of_opd ! (get_in ! (fld ! refl (stop !)) (sub ! 0 refl (whole !)))) refl (tt, record { fits = lit< tt }) $
    sets ! (bin ! (get ! refl) (lit ! tt) tt) refl (tt, tt) $
    first ! $ branches ! (get ! refl)
    (λ yes. sets ! (agg ! (and_then ! (lit ! tt) (no_more !))) refl (tt, (record { fits = lit< tt }, tt)) $
    returns_within ! Post refl (look_at ! 0 refl) $ free_all ! refl $
    let r : Option L.Denot = None in
    use0 𝓛 (‵ ((option.the_row L).own_val r (live 0 (of_list []) ∷ []))) (none_of 𝓛 L) $
    use0 𝓛 (raw (fact 𝓤 (Silent r))) (fact_i 𝓤 (Silent r) (emp 𝓤) (λ _. f)) $ use0 𝓛 (raw (fact 𝓤 (Said r))) (fact_i 𝓤 (Said r) (emp 𝓤) tt) $ join ! $
    nothing ! $ nothing ! $ fjoin ! $ nothing ! $ fjoin ! $
    keep ! (5 ∷ 0 ∷ 2 ∷ 1 ∷ []) $ by ! (leaves 𝓛 ended hs c z (live 0 (of_list [])) r (tt, (tt, tt)) (tt, (tt, tt))))
    (λ no. absurd no)))
    (λ b o x e f ws. use1 𝓛 (given (Testable (block_ptr b o)) (‵ (box_owns token K (block_ptr b o) x))) (tested 𝓛 K a (block_ptr b o) x) $ learn ! (λ may.
    suffices ! (Run (word (block_ptr b o) ∷ h ∷ [])) (subst (λ (us : List Val). ent 𝓤 (Run (word (block_ptr b o) ∷ h ∷ [])) (Run us)) (sym (λ i. ws i ++ (eh i ++ []))) (id⊢ 𝓤 (Run (word (block_ptr b o) ∷ h ∷ [])))) $
    enter ! 𝓣.C 𝓣.Λ fn (word (block_ptr b o) ∷ h ∷ []) Post $ alloc_all ! (λ l. pass_all ! refl ((tt, (tt, tt)), (fits, tt)) $
    sets ! (of_opd ! (get_in ! (fld ! refl (stop !)) (sub ! 0 refl (whole !)))) refl (tt, tt) $
    sets ! (bin ! (get ! refl) (lit ! tt) (tests_null (block_ptr b o) may)) refl (tt, tt) $
    first ! $ branches ! (get ! refl) (λ yes. absurd yes)
    (λ no. skips ! $ exec ! 𝓣.C 𝓣.Λ (env code.Mir.locals l) code.Mir.t-4 (at_ret _ Post) $
    let good = raw_good K Z LZ ghosts b o h fits in let made : L.Denot = record { at = block_ptr b o; alloc = a; value = x } in let r : Option L.Denot = Some made in
    sets ! (of_opd ! (get ! refl)) refl (tt, tt) $
    sets ! (agg ! (and_then ! (get ! refl) (and_then ! (get ! refl) (no_more !)))) refl good $
    sets ! (agg ! (and_then ! (lit ! tt) (and_then ! (get ! refl) (no_more !)))) refl (and_tt (has_ty (layout Z) h && true) good.0, (record { fits = lit< tt }, (good.1, tt))) $
    raw_in K Z LZ ghosts ! b o h a x $
    returns ! (look_at ! 0 refl) $ free_all ! refl $
    use1 𝓛 (‵ ((option.the_row L).own_val r (live 1 (of_list (both (vptr b o) h ∷ [])) ∷ []))) (Some-of 𝓛 L made (both (vptr b o) h)) $
    use0 𝓛 (raw (fact 𝓤 (Silent r))) (fact_i 𝓤 (Silent r) (emp 𝓤) (λ q. some_is_not_none made (d.value ≡ None) q)) $
    use0 𝓛 (raw (fact 𝓤 (Said r))) (fact_i 𝓤 (Said r) (emp 𝓤) f) $ join ! $
    nothing ! $ nothing ! $ fjoin ! $ nothing ! $ fjoin ! $
    keep ! (4 ∷ 0 ∷ 2 ∷ 1 ∷ []) $ by ! (leaves 𝓛 ended hs c z (live 1 (of_list (both (vptr b o) h ∷ []))) r (tt, (tt, tt)) (tt, (tt, tt)))))))))
