-- A device around another one, for a file whose beginning was sent before.
use Rattle.std.proofs.Common.{◌≡◌, ◌≢◌, ℕ, ◌+◌, ◌^◌, ◌<◌, ◌≤◌, List, [], ◌++◌, ◌⊎◌, inl, inr, length, take, drop, refl, ap, sym, subst, ◌∙◌, append_assoc, arith, length-append, length-drop}
use Rattle.std.specs.Prelude.{true, false, ◌==◌, Option, Some, None, Result, Ok, Err, IfOk, OnOk, OnErr, IfSome}
use Rattle.std.proofs.Math.Nat.{eq-or-lt_of_le, min-le_right}
use Rattle.std.proofs.lemmas.Bool.{eqb-true, eq-eqb}
use Rattle.std.proofs.Math.Seq.{take-add, take-length, drop-append_seam, drop-length}
use Rattle.std.proofs.lemmas.List.{drop-append-le, append-nil, length-take, length-take-le, take_min, take-append-drop}
use Rattle.dvi_device.specs.Written.{written_then, IsFrontOf}
use Rattle.dvi_device.specs.Resumed.{written_since, GoesOnAs, PassesOn}
use Rattle.dvi_device.specs.Private.Resumed.{IsResumed}
use Rattle.dvi_device.proofs.Tellings.{grown-grown}

grown_none : (bytes_written : Option (List ℕ)) → written_then bytes_written [] ≡ bytes_written
grown_none None = refl
grown_none (Some bytes_written) = ap Some (append-nil bytes_written)

-- The bytes that the inner device takes are added to the reported ones.
written_passed : (front since bytes : List ℕ) (before : Option (List ℕ))
    → written_since front before (written_then (written_then before since) bytes) ≡ written_then (written_since front before (written_then before since)) bytes
written_passed front since bytes None = refl
written_passed front since bytes (Some before) =
    let e = drop-append-le (length before) (before ++ since) bytes (omega (arith, length-append before since)) in
    ap Some ((ap (λ rest. front ++ rest) e) ∙ (sym (append_assoc front (drop (length before) (before ++ since)) bytes)))

-- The bytes that are met are added to those met before, while nothing was sent on.
written_met : (sent : List ℕ) (met n : ℕ) (before : Option (List ℕ))
    → written_since (take (met + n) sent) before before ≡ written_then (written_since (take met sent) before before) (take n (drop met sent))
written_met sent met n None = refl
written_met sent met n (Some before) =
    let bare : (front : List ℕ) → front ++ drop (length before) before ≡ front = λ front. (ap (λ rest. front ++ rest) (drop-length before)) ∙ (append-nil front) in
    ap Some ((bare (take (met + n) sent)) ∙ ((take-add met n sent) ∙ (ap (λ front. front ++ take n (drop met sent)) (sym (bare (take met sent))))))

-- Until all was met, the inner device reports the same as at the start.
none_got : (before now : Option (List ℕ)) (sent : List ℕ) (met : ℕ) → IsResumed before now sent met → met < length sent → now ≡ before
none_got before now sent met h less = h.got ∙ ((ap (written_then before) (h.none less)) ∙ (grown_none before))

-- More bytes of `sent` are met.
pub met_more : (sent piece : List ℕ) (met n : ℕ) (before now : Option (List ℕ)) → IsResumed before now sent met → met ≢ length sent
    → take n (drop met sent) ≡ take n piece → written_since (take (met + n) sent) before now ≡ written_then (written_since (take met sent) before now) (take n piece)
met_more sent piece met n before now h some same =
    let less : met < length sent = omega (arith, h.within, some) in
    subst (λ t. written_since (take (met + n) sent) before t ≡ written_then (written_since (take met sent) before t) (take n piece)) (sym (none_got before now sent met h less))
    ((written_met sent met n before) ∙ (ap (written_then (written_since (take met sent) before before)) same))

pub more_resumed : (sent : List ℕ) (met n : ℕ) (before now : Option (List ℕ)) → IsResumed before now sent met → met ≢ length sent → n ≤ length (drop met sent)
    → IsResumed before now sent (met + n)
more_resumed sent met n before now h some fits = record {
  within = omega (arith, h.within, fits, length-drop met sent);
  since = h.since;
  got = h.got;
  none = λ less. h.none (omega (arith, h.within, some));
}

-- After all was met, a call of the inner device preserves the relation.
pub passed : {E : Type 0} (result : Result ℕ E) (before now next : Option (List ℕ)) (sent piece : List ℕ) (met : ℕ) → IfOk result (λ n. next ≡ written_then now (take n piece))
    → OnErr result (next ≡ now) → IsResumed before now sent met → met ≡ length sent → IsResumed before next sent met
passed (Ok n) before now next sent piece met taken none h all = record {
  within = h.within;
  since = h.since ++ take n piece;
  got = taken ∙ ((ap (λ t. written_then t (take n piece)) h.got) ∙ (grown-grown before h.since (take n piece)));
  none = λ less. absurd (omega (arith, less, all));
}
passed (Err e) before now next sent piece met taken none h all = record { within = h.within; since = h.since; got = none ∙ h.got; none = h.none }

-- The bytes that it took are added to the reported ones.
pub passed_written : {E : Type 0} (result : Result ℕ E) (before now next : Option (List ℕ)) (sent piece : List ℕ) (met : ℕ) → IfOk result (λ n. next ≡ written_then now (take n piece))
    → IsResumed before now sent met → IfOk result (λ n. written_since (take met sent) before next ≡ written_then (written_since (take met sent) before now) (take n piece))
passed_written (Ok n) before now next sent piece met taken h =
    let bytes_written = written_since (take met sent) before in
    (ap bytes_written (taken ∙ (ap (λ t. written_then t (take n piece)) h.got)))
    ∙ ((written_passed (take met sent) h.since (take n piece) before) ∙ (ap (λ t. written_then (bytes_written t) (take n piece)) (sym h.got)))
passed_written (Err e) before now next sent piece met taken h = tt

-- One more failure can be counted.
pub still_countable : {E : Type 0} (result : Result ℕ E) (failed next own : ℕ) → OnOk result (next ≡ failed) → OnErr result (next ≡ failed + 1) → failed + own + 1 < 2 ^ 64 → next + own < 2 ^ 64
still_countable (Ok n) failed next own no_failure counted space = omega (arith, no_failure, space)
still_countable (Err e) failed next own no_failure counted space = omega (arith, counted, space)

-- Whether all of `sent` was met, from what is left of it.
pub all_met : (sent : List ℕ) (met : ℕ) → met ≤ length sent → true ≡ (length (drop met sent) == 0) → met ≡ length sent
all_met sent met within none = omega (arith, within, eqb-true (length (drop met sent)) 0 (sym none), length-drop met sent)

pub some_left : (sent : List ℕ) (met : ℕ) → false ≡ (length (drop met sent) == 0) → met ≢ length sent
some_left sent met left all =
    let true-is-false : true ≡ false = (sym (eq-eqb (length (drop met sent)) 0 (omega (arith, all, length-drop met sent)))) ∙ (sym left) in
    absurd (cc)

-- The reported bytes are a beginning of `sent` with nothing sent on; or all of `sent`, and what the inner device got since.
written_parts : (before now : Option (List ℕ)) (sent : List ℕ) (met : ℕ) (bytes : List ℕ) → IsResumed before now sent met → written_since (take met sent) before now ≡ Some bytes
    → ((met < length sent) × (bytes ≡ take met sent) × (now ≡ before)) ⊎ ((since : List ℕ) × (bytes ≡ sent ++ since) × (now ≡ written_then before since))
written_parts None now sent met bytes h bytes_written = absurd (cc)
written_parts (Some before) now sent met bytes h bytes_written = by_met (eq-or-lt_of_le h.within) where
  -- The reported bytes, from what the inner device got.
  after : (since : List ℕ) → now ≡ Some (before ++ since) → bytes ≡ take met sent ++ since
  after since got =
      let e : Some bytes ≡ written_since (take met sent) (Some before) (Some (before ++ since)) = (sym bytes_written) ∙ (ap (written_since (take met sent) (Some before)) got) in
      (some_same e) ∙ (ap (λ rest. take met sent ++ rest) (drop-append_seam before since)) where
        some_same : {a b : List ℕ} → Some a ≡ Some b → a ≡ b
        some_same e = cc

  by_met : (met ≡ length sent) ⊎ (met < length sent)
      → ((met < length sent) × (bytes ≡ take met sent) × (now ≡ Some before)) ⊎ ((since : List ℕ) × (bytes ≡ sent ++ since) × (now ≡ Some (before ++ since)))
  by_met (inl all) = inr (h.since, (after h.since h.got) ∙ (ap (λ front. front ++ h.since) ((ap (λ n. take n sent) all) ∙ (take-length sent))), h.got)
  by_met (inr less) =
      let same = none_got (Some before) now sent met h less in
      inl (less, (after [] (same ∙ (ap Some (sym (append-nil before))))) ∙ (append-nil (take met sent)), same)

pub goes_on_as : (before now : Option (List ℕ)) (sent : List ℕ) (met : ℕ) → IsResumed before now sent met → IfSome (written_since (take met sent) before now) (GoesOnAs sent before now)
goes_on_as before now sent met h = by_written (written_since (take met sent) before now) refl where
  parts : (bytes : List ℕ) → ((met < length sent) × (bytes ≡ take met sent) × (now ≡ before)) ⊎ ((since : List ℕ) × (bytes ≡ sent ++ since) × (now ≡ written_then before since)) → GoesOnAs sent before now bytes
  parts bytes (inl p) = inl ((met, p.1), p.2)
  parts bytes (inr p) = inr p

  by_written : (bytes_written : Option (List ℕ)) → written_since (take met sent) before now ≡ bytes_written → IfSome bytes_written (GoesOnAs sent before now)
  by_written None is = tt
  by_written (Some bytes) is = parts bytes (written_parts before now sent met bytes h is)

-- Where the inner device reports nothing, nothing is reported around it; where it reports bytes, bytes are.
pub passes_on : (before now : Option (List ℕ)) (sent : List ℕ) (met : ℕ) → IsResumed before now sent met → PassesOn sent before now (written_since (take met sent) before now)
passes_on None now sent met h = h.got
passes_on (Some before) now sent met h =
    let bytes = take met sent ++ drop (length before) (before ++ h.since) in
    let is : written_since (take met sent) (Some before) now ≡ Some bytes = ap (written_since (take met sent) (Some before)) h.got in
    let goes : GoesOnAs sent (Some before) now bytes = subst (λ (t : Option (List ℕ)). IfSome t (GoesOnAs sent (Some before) now)) is (goes_on_as (Some before) now sent met h) in
    subst (PassesOn sent (Some before) now) (sym is) goes

-- Where the whole file was reported and `sent` is a beginning of it, the inner device got the rest.
rest_written : (before now : Option (List ℕ)) (sent : List ℕ) (met : ℕ) (whole : List ℕ) → IsResumed before now sent met → written_since (take met sent) before now ≡ Some whole
    → IsFrontOf sent whole → now ≡ written_then before (drop (length sent) whole)
rest_written before now sent met whole h bytes_written front = by_parts (written_parts before now sent met whole h bytes_written) where
  by_parts : ((met < length sent) × (whole ≡ take met sent) × (now ≡ before)) ⊎ ((since : List ℕ) × (whole ≡ sent ++ since) × (now ≡ written_then before since))
      → now ≡ written_then before (drop (length sent) whole)
  by_parts (inl p) =
      let short : length whole ≡ met = (ap length p.1) ∙ (length-take-le met sent h.within) in
      let fits : length sent ≡ length (take front.0 whole) = ap length front.1 in
      absurd (omega (arith, p.0, short, fits, length-take front.0 whole, min-le_right front.0 (length whole)))
  by_parts (inr p) = p.2 ∙ (ap (written_then before) (sym ((ap (drop (length sent)) p.1) ∙ (drop-append_seam sent p.0))))

-- The same where this is known only if bytes are reported. A device that reports nothing never does.
pub rest_got : (before now : Option (List ℕ)) (sent : List ℕ) (met : ℕ) (whole : List ℕ) → IsResumed before now sent met
    → IfSome (written_since (take met sent) before now) (λ bytes. bytes ≡ whole) → IsFrontOf sent whole → now ≡ written_then before (drop (length sent) whole)
rest_got None now sent met whole h said front = h.got
rest_got (Some before) now sent met whole h said front =
    let bytes = take met sent ++ drop (length before) (before ++ h.since) in
    let bytes_written : written_since (take met sent) (Some before) now ≡ Some bytes = ap (written_since (take met sent) (Some before)) h.got in
    let same : bytes ≡ whole = subst (λ (t : Option (List ℕ)). IfSome t (λ bytes. bytes ≡ whole)) bytes_written said in
    rest_written (Some before) now sent met whole h (bytes_written ∙ (ap Some same)) front

-- Where the inner device had reported exactly `sent`, it then reports the whole file.
pub whole_got : (before now : Option (List ℕ)) (sent : List ℕ) (met : ℕ) (whole : List ℕ) → IsResumed before now sent met
    → IfSome (written_since (take met sent) before now) (λ bytes. bytes ≡ whole) → IsFrontOf sent whole → before ≡ Some sent → now ≡ Some whole
whole_got before now sent met whole h bytes_written front had =
    (rest_got before now sent met whole h bytes_written front) ∙ ((ap (λ b. written_then b (drop (length sent) whole)) had) ∙ (ap Some together)) where
      -- The beginning is cut off at its own length.
      cut : take (length sent) whole ≡ sent
      cut = (ap (λ k. take k whole) ((ap length front.1) ∙ (length-take front.0 whole))) ∙ ((take_min front.0 whole) ∙ (sym front.1))

      together : sent ++ drop (length sent) whole ≡ whole
      together = (ap (λ f. f ++ drop (length sent) whole) (sym cut)) ∙ (take-append-drop (length sent) whole)

-- A new device around another one has reported no byte.
pub fresh_rest : (bytes_written : Option (List ℕ)) (sent : List ℕ) → IfSome (written_since (take 0 sent) bytes_written bytes_written) (λ bytes. bytes ≡ [])
fresh_rest None sent = tt
fresh_rest (Some before) sent = drop-length before
