-- Which passes admit lists of breaks.
use Rattle.std.proofs.Common.{◌≡◌, ◌∙◌, ℕ, zero, suc, ◌<◌, ◌≤◌, Bool, true, false, not, cond, ◌&&◌, List, [], ◌∷◌, ◌-◌, length, get_or, reverse, refl, ap, sym, subst, arith, MatchOption, Option, Some, None, Result, Ok, Err}
use Rattle.std.specs.Prelude.{ℤ, pos, negsuc, ◌<ℤ◌, slice_get, IfOk}
use Rattle.std.proofs.lemmas.Int.{ints}
use Rattle.std.proofs.lemmas.Option.{same_Some, slice_get_within, slice_get-get_or, get_or_from_slice_get, MatchOption-at_none, MatchOption-at_some}
use Rattle.std.proofs.lemmas.List.{get_or-reverse, length-reverse}
use Rattle.node_core.specs.declared.params.Params.{Params}
use Rattle.break_lines.specs.declared.state.Fitness.{Fitness}
use Rattle.break_lines.specs.declared.state.BreakState.{BreakState}
use Rattle.break_lines.specs.declared.state.LineCost.{LineCost}
use Rattle.break_lines.specs.declared.answer.ChosenBreaks.{ChosenBreaks}
use Rattle.break_lines.specs.Problems.{Problem, Path, first_path, with_line, ends_of, places_of}
use Rattle.break_lines.specs.Chosen.{top, IsFalling, AdmitsNone, IsAnswer}
use Rattle.break_lines.specs.Ways.{Way, starts, goes}
use Rattle.break_lines.proofs.Since.{since_below}
use Rattle.break_lines.proofs.Lists.{way_of_break_list, break_list_of_way}
use Rattle.break_lines.specs.declared.cost.LineFit.{LineFit}
use Rattle.break_lines.specs.declared.cost.Bound.{Bound}
use Rattle.break_lines.specs.declared.cost.Bound.TheVariants.{Any, AtMost}
use Rattle.break_lines.specs.Costs.{line_fit, admits, admitted_line, demerits_of}
use Rattle.break_lines.specs.Sizes.{line_size}
use Rattle.break_core.specs.declared.broken.Pass.{Pass}
use Rattle.break_core.specs.declared.broken.Pass.TheVariants.{First, Second, Third}
use Rattle.break_lines.specs.Facts.{Facts}
use Rattle.break_core.specs.Passes.{problem_of, bound_of, IsBefore}
use Rattle.break_core.specs.Private.Filling.{AreEndsInParagraph}
use Rattle.break_core.specs.declared.pass_rules.StopRule.{StopRule}
use Rattle.break_core.specs.declared.pass_rules.StopRule.TheVariants.{Never, Overfull, Long}
use Rattle.break_core.specs.Private.Active.{problem_leaving_out, MayStop}
use Rattle.break_core.proofs.Detours.{answer_without, none_without}

-- A bound below 0 admits no line.
none_below : (params : Params) (most penalty : ℤ) (before : Fitness) (line : LineFit) → most <ℤ pos 0 → admitted_line params (AtMost most) penalty before line ≡ None
unfolding admitted_line admits
none_below params (pos n) penalty before line below = absurd (omega (arith, ints))
none_below params (negsuc n) penalty before line below = refused (not line.overfull)
  where
    refused :
        (b : Bool)
        → cond {A = Option LineCost} (b && false)
        (Some (record { class = line.class; overhang = line.overhang; demerits = demerits_of params penalty before line })) None ≡ None
    refused true = refl
    refused false = refl

-- Without a bound every line is admitted.
some_line : (params : Params) (penalty : ℤ) (before : Fitness) (line : LineFit) → (l : LineCost) × (admitted_line params Any penalty before line ≡ Some l)
unfolding admitted_line admits
some_line params penalty before line = (record { class = line.class; overhang = line.overhang; demerits = demerits_of params penalty before line }, refl)

no_way : (p : Problem) (q : Path) → Way p q → ((s : BreakState) (b : ℕ) → p.line s b ≡ None) → 0 < q.last.place → ⊥
no_way p _ starts none some = omega arith
no_way p _ (goes q b l way later since_b is) none some = let no = none q.last b in cc

-- A pass with a bound below 0 admits no list.
pub negative_admits_none :
    (facts : Facts) (params : Params) (most : ℤ) → most <ℤ pos 0 → 0 < facts.places → AdmitsNone (problem_of facts params (AtMost most))
negative_admits_none facts params most below some places q is_list admitted =
    let p = problem_of facts params (AtMost most) in
    let way = way_of_break_list p places q is_list admitted in
    no_way p q way.0 (λ s b. none_below params most (facts.penalty b) s.class (line_fit (facts.sums s.place b) (line_size params s.lines)) below) (omega (arith, way.1))

-- Each place can be reached from the one before it.
reached : (p : Problem) → ((s : BreakState) (b : ℕ) → (l : LineCost) × (p.line s b ≡ Some l)) → (n : ℕ) → (q : Path) × Way p q × (q.last.place ≡ n)
reached p line zero = (first_path, starts, refl)
reached p line (suc n) = more (reached p line n)
  where
    more : (q : Path) × Way p q × (q.last.place ≡ n) → (q : Path) × Way p q × (q.last.place ≡ suc n)
    more before =
        let l = line before.0.last (suc n) in
        let below = since_below p (suc n) (omega arith) in
        (with_line p before.0 (suc n) l.0, goes before.0 (suc n) l.0 before.1 (omega (arith, before.2)) (omega (arith, below, before.2)) l.1, refl)

-- The last pass admits a list.
pub last_admits : (facts : Facts) (params : Params) → AdmitsNone (problem_of facts params Any) → ⊥
last_admits facts params none =
    let p = problem_of facts params Any in
    let way = reached p (λ s b. some_line params (facts.penalty b) s.class (line_fit (facts.sums s.place b) (line_size params s.lines))) facts.places in
    let list = break_list_of_way p way.0 way.1 way.2 in
    none _ way.0 list.0 list.1

-- The ends of a falling list are within its places.
places_in :
    (ends : List BreakState) (j : ℕ) (s : BreakState)
    → IsFalling (places_of ends) → slice_get ends j ≡ Some s → (0 < s.place) × (s.place ≤ top (places_of ends))
places_in [] j s falls at = absurd (cc)
places_in (x ∷ ends) zero s falls at = let same = ap (λ t. t.place) (same_Some x s at) in (omega (arith, falls.0, same), omega (arith, same))
places_in (x ∷ ends) (suc j) s falls at =
    let rest = places_in ends j s falls.1 at in
    (rest.0, omega (arith, rest.1, falls.0))

-- The ends of an answer are places of the paragraph.
pub answer_within : (facts : Facts) (params : Params) (bound : Bound) (least : ChosenBreaks) → IsAnswer (problem_of facts params bound) least → AreEndsInParagraph facts least.ends.items
answer_within facts params bound least is k s at =
    let xs = ends_of is.path in
    let back : slice_get (reverse xs) k ≡ Some s = ap (λ ys. slice_get ys k) (sym is.ends) ∙ at in
    let within : k < length xs = omega (arith, slice_get_within (reverse xs) k s back, length-reverse xs) in
    let there : get_or xs (length xs - 1 - k) s ≡ s = sym (get_or-reverse xs k s within) ∙ get_or_from_slice_get (reverse xs) k s s back in
    let present = slice_get-get_or xs (length xs - 1 - k) s (omega (arith, within)) ∙ ap Some there in
    let places = places_in xs (length xs - 1 - k) s is.chosen.is_list.falls present in
    (places.0, omega (arith, places.1, is.chosen.is_list.ends))

-- No pass before the first one, the second one or the last one admits a list.
pub before_first : (facts : Facts) (params : Params) (other : Pass) → IsBefore other First → AdmitsNone (problem_of facts params (bound_of params other))
before_first facts params First h = absurd h
before_first facts params Second h = absurd h
before_first facts params Third h = absurd h

pub before_second :
    (facts : Facts) (params : Params) → AdmitsNone (problem_of facts params (bound_of params First))
    → (other : Pass) → IsBefore other Second → AdmitsNone (problem_of facts params (bound_of params other))
before_second facts params none First h = none
before_second facts params none Second h = absurd h
before_second facts params none Third h = absurd h

pub before_third :
    (facts : Facts) (params : Params) → AdmitsNone (problem_of facts params (bound_of params First))
    → AdmitsNone (problem_of facts params (bound_of params Second))
    → (other : Pass) → IsBefore other Third → AdmitsNone (problem_of facts params (bound_of params other))
before_third facts params first second First h = first
before_third facts params first second Second h = second
before_third facts params first second Third h = absurd h

-- The result of a pass, which also holds for the same facts under another name.
abbrev pub Found : Facts → Params → Bound → Option ChosenBreaks → Type 0
Found facts params bound found = MatchOption found (AdmitsNone (problem_of facts params bound)) (IsAnswer (problem_of facts params bound))

pub found_none : (facts other : Facts) (params : Params) (bound : Bound) (found : Option ChosenBreaks) → other ≡ facts → found ≡ None → Found other params bound found → AdmitsNone (problem_of facts params bound)
found_none facts other params bound found same none is =
    MatchOption-at_none (AdmitsNone (problem_of facts params bound)) (IsAnswer (problem_of facts params bound)) none
    (subst (λ f. Found f params bound found) same is)

pub found_some :
    (facts other : Facts) (params : Params) (bound : Bound) (found : Option ChosenBreaks) (least : ChosenBreaks)
    → other ≡ facts → found ≡ Some least → Found other params bound found → IsAnswer (problem_of facts params bound) least
found_some facts other params bound found least same some is =
    MatchOption-at_some (AdmitsNone (problem_of facts params bound)) (IsAnswer (problem_of facts params bound)) least some
    (subst (λ f. Found f params bound found) same is)

-- The result of a pass without the lines that are left out is the result of the pass.
pub found_whole :
    (facts : Facts) (params : Params) (bound : Bound) (rule : StopRule) (found : Option ChosenBreaks)
    → MayStop rule facts params bound
    → MatchOption found (AdmitsNone (problem_leaving_out facts params bound rule)) (IsAnswer (problem_leaving_out facts params bound rule)) → Found facts params bound found
found_whole facts params bound Never found may is = is
found_whole facts params bound Overfull found may is = is
found_whole facts params bound Long None may is =
    subst (λ b. AdmitsNone (problem_of facts params b)) (sym may.1)
    (none_without facts params may.0 (subst (λ b. AdmitsNone (problem_leaving_out facts params b Long)) may.1 is))
found_whole facts params bound Long (Some least) may is =
    subst (λ b. IsAnswer (problem_of facts params b) least) (sym may.1)
    (answer_without facts params least may.0 (subst (λ b. IsAnswer (problem_leaving_out facts params b Long) least) may.1 is))

pub all_found :
    {E : Type 0} (facts : Facts) (params : Params) (bound : Bound) (rule : StopRule) (result : Result (Option ChosenBreaks) E)
    → MayStop rule facts params bound
    → IfOk result (λ found. MatchOption found (AdmitsNone (problem_leaving_out facts params bound rule)) (IsAnswer (problem_leaving_out facts params bound rule)))
    → IfOk result (Found facts params bound)
all_found facts params bound rule (Ok found) may is = found_whole facts params bound rule found may is
all_found facts params bound rule (Err fault) may is = tt
