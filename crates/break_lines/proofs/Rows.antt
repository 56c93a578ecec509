-- Rows: the offers for a place, one after another.
use Rattle.std.proofs.Common.{◌≡◌, ◌∙◌, ℕ, zero, suc, ◌+◌, ◌<◌, ◌≤◌, min, List, [], ◌∷◌, ◌++◌, length, take, drop, get_or, set, replicate, refl, ap, sym, subst, arith, length-set, Option, Some, None}
use Rattle.std.specs.Prelude.{slice_get}
use Rattle.std.proofs.Math.Logic.{◌⊎◌, inl, inr}
use Rattle.std.proofs.lemmas.Bool.{cases_eq, cases_lt}
use Rattle.std.proofs.lemmas.List.{length-replicate, take_more, append_assoc, append-nil}
use Rattle.std.proofs.lemmas.Option.{same_Some, slice_get-get_or}
use Rattle.break_lines.specs.declared.state.BreakState.{BreakState}
use Rattle.break_lines.specs.Problems.{Problem}
use Rattle.break_lines.specs.Tables.{Entry, compared_numbers, slot, slots, offer, IsOffered, IsHeld, IsMet, IsRow, IsKept, row_entries}
use Rattle.break_lines.specs.Private.Live.{IsSilent}
use Rattle.break_lines.specs.Orders.{NotAfter}
use Rattle.break_lines.proofs.Dictionary.{state_same, rank_few, rank_apart, not_after_refl, not_after_trans}
use Rattle.break_lines.proofs.Reached.{extended_is}
use Rattle.break_lines.proofs.Entries.{get-set_same, get-set_other, get-replicate, set-get_same}

-- States of one place with the same slot are equal.
pub slot_apart : (s t : BreakState) → s.place ≡ t.place → slot s ≡ slot t → s ≡ t
slot_apart s t place same =
    let few_s = rank_few s.class in
    let few_t = rank_few t.class in
    state_same s t place (omega (arith, few_s, few_t)) (rank_apart s.class t.class (omega (arith, few_s, few_t)))

-- An offer for a place ends there.
pub offered_at : (p : Problem) (table : List Entry) (b k : ℕ) (o : Entry) → IsOffered p table b k o → (o.end.place ≡ b) × (o.end.lines ≤ p.cut)
offered_at p table b k o offered =
    let ext = extended_is p offered.by k b o offered.offers in
    let lines : o.end.lines ≡ min (offered.by.end.lines + 1) p.cut = ap (λ e. e.end.lines) ext.is in
    (ap (λ e. e.end.place) ext.is, omega (arith, lines))

-- A row before the first offer is empty.
pub row_empty : (p : Problem) (table : List Entry) (b : ℕ) → IsRow p table b 0 (replicate (slots p.cut) None)
row_empty p table b =
    record {
      wide = length-replicate (slots p.cut) None;
      held = λ s o is. let none = get-replicate (slots p.cut) s None (Some o) is in absurd (cc);
      met = λ k o below offered. absurd (omega arith);
    }

held_more :
    (p : Problem) (table : List Entry) (b n m s : ℕ) (o : Entry) → n ≤ m → IsHeld p table b n s o → IsHeld p table b m s o
held_more p table b n m s o more held =
    record { k = held.k; below = omega (arith, held.below); offered = held.offered; here = held.here }

-- Entries that offer nothing leave a row as it is.
pub row_silent :
    (p : Problem) (table : List Entry) (b n m : ℕ) (row : List (Option Entry))
    → n ≤ m → IsSilent p table b n m → IsRow p table b n row → IsRow p table b m row
row_silent p table b n m row more silent is =
    record {
      wide = is.wide;
      held = λ s o at. held_more p table b n m s o more (is.held s o at);
      met = λ k o below offered. met k o below offered (cases_lt k n);
    }
  where
    met : (k : ℕ) (o : Entry) → k < m → IsOffered p table b k o → (k < n) ⊎ (n ≤ k) → IsMet row o
    met k o below offered (inl before) = is.met k o before offered
    met k o below offered (inr after) =
        let none = silent k offered.by after below offered.present b (omega arith) in
        let some = offered.offers in
        absurd (cc)

-- An entry that offers nothing for this place leaves a row as it is.
pub row_none :
    (p : Problem) (table : List Entry) (b n : ℕ) (e : Entry) (row : List (Option Entry))
    → slice_get table n ≡ Some e → offer p e n b ≡ None → IsRow p table b n row → IsRow p table b (n + 1) row
row_none p table b n e row present none is =
    record {
      wide = is.wide;
      held = λ s o at. held_more p table b n (n + 1) s o (omega arith) (is.held s o at);
      met = λ k o below offered. met k o below offered (cases_lt k n);
    }
  where
    met : (k : ℕ) (o : Entry) → k < n + 1 → IsOffered p table b k o → (k < n) ⊎ (n ≤ k) → IsMet row o
    met k o below offered (inl before) = is.met k o before offered
    met k o below offered (inr after) =
        let same : k ≡ n = omega arith in
        let there : slice_get table n ≡ Some offered.by = ap (slice_get table) (sym same) ∙ offered.present in
        let one : offered.by ≡ e = same_Some offered.by e (sym there ∙ present) in
        let some : offer p e n b ≡ Some o = ap (λ x. offer p x n b) (sym one) ∙ ap (λ x. offer p offered.by x b) (sym same) ∙ offered.offers in
        absurd (cc)

-- The best offer of some entries is put into its slot, if all their offers are for one state.
pub row_best :
    (p : Problem) (table : List Entry) (b n m by : ℕ) (o r : Entry) (old : Option Entry) (row : List (Option Entry))
    → n ≤ by → by < m → IsOffered p table b by o → slice_get row (slot o.end) ≡ Some old → IsKept old o r
    → ((k : ℕ) (f : Entry) → n ≤ k → k < m → IsOffered p table b k f → (f.end ≡ o.end) × NotAfter (compared_numbers o) (compared_numbers f))
    → IsRow p table b n row → IsRow p table b m (set row (slot o.end) (Some r))
row_best p table b n m by o r old row low high offered_o was kept least is =
    record {
      wide = length-set row (slot o.end) (Some r) ∙ is.wide;
      held = λ s f at. held s f at (cases_eq s (slot o.end));
      met = λ k f below offered. met k f below offered (cases_lt k n);
    }
  where
    written : slice_get (set row (slot o.end) (Some r)) (slot o.end) ≡ Some (Some r)
    written = get-set_same row (slot o.end) (Some r) old was

    -- The content of the slot now.
    now : (r ≡ o) ⊎ (old ≡ Some r) → IsHeld p table b m (slot o.end) r
    now (inl same) = subst (λ x. IsHeld p table b m (slot o.end) x) (sym same) (record { k = by; below = high; offered = offered_o; here = refl })
    now (inr same) = held_more p table b n m (slot o.end) r (omega arith) (is.held (slot o.end) r (was ∙ ap Some same))

    held :
        (s : ℕ) (f : Entry) → slice_get (set row (slot o.end) (Some r)) s ≡ Some (Some f) → (s ≡ slot o.end) ⊎ (s ≡ slot o.end → ⊥)
        → IsHeld p table b m s f
    held s f at (inl same) =
        let there : slice_get (set row (slot o.end) (Some r)) (slot o.end) ≡ Some (Some f) =
        ap (slice_get (set row (slot o.end) (Some r))) (sym same) ∙ at in
        let one : r ≡ f = cc (written, there) in
        subst (λ x. IsHeld p table b m x f) (sym same) (subst (λ x. IsHeld p table b m (slot o.end) x) one (now kept.is))
    held s f at (inr other) =
        held_more p table b n m s f (omega arith) (is.held s f (sym (get-set_other row (slot o.end) s (Some r) other) ∙ at))

    end_of_r : r.end ≡ o.end
    end_of_r =
        let h = now kept.is in
        let place : r.end.place ≡ b = (offered_at p table b h.k r h.offered).0 in
        let place_o : o.end.place ≡ b = (offered_at p table b by o offered_o).0 in
        slot_apart r.end o.end (place ∙ sym place_o) h.here

    -- An offer for another slot is matched by the old content of that slot, and one for this slot by the new content.
    spread : (f : Entry) → f.end.place ≡ b → IsMet row f → (slot f.end ≡ slot o.end) ⊎ (slot f.end ≡ slot o.end → ⊥) → IsMet (set row (slot o.end) (Some r)) f
    spread f at m_f (inl same) =
        let there : slice_get row (slot o.end) ≡ Some (Some m_f.held) = ap (slice_get row) (sym same) ∙ m_f.present in
        let was_held : old ≡ Some m_f.held = cc (was, there) in
        let place_o : o.end.place ≡ b = (offered_at p table b by o offered_o).0 in
        let one : f.end ≡ o.end = slot_apart f.end o.end (at ∙ sym place_o) same in
        record {
          held = r;
          present = ap (slice_get (set row (slot o.end) (Some r))) same ∙ written;
          same = end_of_r ∙ sym one;
          before = not_after_trans (compared_numbers r) (compared_numbers m_f.held) (compared_numbers f) (kept.older m_f.held was_held) m_f.before;
        }
    spread f at m_f (inr other) =
        record {
          held = m_f.held;
          present = get-set_other row (slot o.end) (slot f.end) (Some r) other ∙ m_f.present;
          same = m_f.same;
          before = m_f.before;
        }

    met : (k : ℕ) (f : Entry) → k < m → IsOffered p table b k f → (k < n) ⊎ (n ≤ k) → IsMet (set row (slot o.end) (Some r)) f
    met k f below offered (inl before) =
        spread f (offered_at p table b k f offered).0 (is.met k f before offered) (cases_eq (slot f.end) (slot o.end))
    met k f below offered (inr after) =
        let no_less = least k f after below offered in
        record {
          held = r;
          present = ap (λ s. slice_get (set row (slot o.end) (Some r)) (slot s)) no_less.0 ∙ written;
          same = end_of_r ∙ sym no_less.0;
          before = not_after_trans (compared_numbers r) (compared_numbers o) (compared_numbers f) kept.offered no_less.1;
        }

-- The slot then holds the better one of the offer and its old content.
pub row_step :
    (p : Problem) (table : List Entry) (b n : ℕ) (e o r : Entry) (old : Option Entry) (row : List (Option Entry))
    → slice_get table n ≡ Some e → offer p e n b ≡ Some o → slice_get row (slot o.end) ≡ Some old → IsKept old o r
    → IsRow p table b n row → IsRow p table b (n + 1) (set row (slot o.end) (Some r))
row_step p table b n e o r old row present offers was kept is =
    row_best p table b n (n + 1) n o r old row (omega arith) (omega arith) (record { by = e; present = present; offers = offers }) was kept alone is
  where
    alone : (k : ℕ) (f : Entry) → n ≤ k → k < n + 1 → IsOffered p table b k f → (f.end ≡ o.end) × NotAfter (compared_numbers o) (compared_numbers f)
    alone k f low high offered =
        let same : k ≡ n = omega arith in
        let there : slice_get table n ≡ Some offered.by = ap (slice_get table) (sym same) ∙ offered.present in
        let one : offered.by ≡ e = same_Some offered.by e (sym there ∙ present) in
        let some : offer p e n b ≡ Some f = ap (λ x. offer p x n b) (sym one) ∙ ap (λ x. offer p offered.by x b) (sym same) ∙ offered.offers in
        let is_o : o ≡ f = same_Some o f (sym offers ∙ some) in
        (ap (λ x. x.end) (sym is_o), subst (λ x. NotAfter (compared_numbers o) (compared_numbers x)) is_o (not_after_refl (compared_numbers o)))

-- The entries in a row come one after another, and there are no others.
pub held_has : (row : List (Option Entry)) (s : ℕ) (e : Entry) → slice_get row s ≡ Some (Some e) → (j : ℕ) × (slice_get (row_entries row) j ≡ Some e)
held_has [] s e is = absurd (cc)
held_has (None ∷ row) zero e is = absurd (cc)
held_has (None ∷ row) (suc s) e is = held_has row s e is
held_has (Some x ∷ row) zero e is = (0, same_Some (Some x) (Some e) is)
held_has (Some x ∷ row) (suc s) e is = let rest = held_has row s e is in (suc rest.0, rest.1)

pub held_from : (row : List (Option Entry)) (j : ℕ) (e : Entry) → slice_get (row_entries row) j ≡ Some e → (s : ℕ) × (slice_get row s ≡ Some (Some e))
held_from [] j e is = absurd (cc)
held_from (None ∷ row) j e is = let rest = held_from row j e is in (suc rest.0, rest.1)
held_from (Some x ∷ row) zero e is = (0, ap Some is)
held_from (Some x ∷ row) (suc j) e is = let rest = held_from row j e is in (suc rest.0, rest.1)

held-append : (front row : List (Option Entry)) → row_entries (front ++ row) ≡ row_entries front ++ row_entries row
held-append [] row = refl
held-append (None ∷ front) row = held-append front row
held-append (Some e ∷ front) row = ap (λ xs. e ∷ xs) (held-append front row)

-- A row whose first slots were emptied still has its old content in the next slot.
emptied_next :
    (n : ℕ) (row : List (Option Entry)) (d : Option Entry)
    → n < length row → get_or (replicate n None ++ drop n row) n d ≡ get_or row n d
emptied_next zero row d within = refl
emptied_next (suc n) [] d within = absurd (omega (arith, within))
emptied_next (suc n) (x ∷ row) d within = emptied_next n row d (omega (arith, within))

emptied_set :
    (n : ℕ) (row : List (Option Entry)) → n < length row → set (replicate n None ++ drop n row) n None ≡ replicate (suc n) None ++ drop (suc n) row
emptied_set zero [] within = absurd (omega (arith, within))
emptied_set zero (x ∷ row) within = refl
emptied_set (suc n) [] within = absurd (omega (arith, within))
emptied_set (suc n) (x ∷ row) within = ap (λ l. None ∷ l) (emptied_set n row (omega (arith, within)))

-- One more slot was emptied, and its content was appended.
pub emptied_more :
    (table first new : List Entry) (row cur : List (Option Entry)) (n : ℕ) (x d : Option Entry)
    → n < length row → table ≡ first ++ row_entries (take n row) → cur ≡ replicate n None ++ drop n row → get_or cur n d ≡ x
    → new ≡ table ++ row_entries (x ∷ [])
    → (new ≡ first ++ row_entries (take (n + 1) row)) × (set cur n None ≡ replicate (n + 1) None ++ drop (n + 1) row)
emptied_more table first new row cur n x d within before is here made =
    let one : suc n ≡ n + 1 = omega arith in
    let value : x ≡ get_or row n d = sym here ∙ ap (λ l. get_or l n d) is ∙ emptied_next n row d within in
    let more : row_entries (take (n + 1) row) ≡ row_entries (take n row) ++ row_entries (x ∷ []) =
    ap row_entries (take_more row n d within) ∙ held-append (take n row) (get_or row n d ∷ []) ∙ ap (λ y. row_entries (take n row) ++ row_entries (y ∷ [])) (sym value) in (
      made ∙ ap (λ xs. xs ++ row_entries (x ∷ [])) before ∙ append_assoc first (row_entries (take n row)) (row_entries (x ∷ [])) ∙ ap (λ xs. first ++ xs) (sym more),
      ap (λ l. set l n None) is ∙ emptied_set n row within ∙ ap (λ k. replicate k None ++ drop k row) one,
    )

-- One more slot was empty.
pub emptied_none :
    (table first : List Entry) (row cur : List (Option Entry)) (n : ℕ) (d : Option Entry)
    → n < length row → n < length cur → table ≡ first ++ row_entries (take n row) → cur ≡ replicate n None ++ drop n row → get_or cur n d ≡ None
    → (table ≡ first ++ row_entries (take (n + 1) row)) × (cur ≡ replicate (n + 1) None ++ drop (n + 1) row)
emptied_none table first row cur n d within here before is none =
    let more = emptied_more table first table row cur n None d within before is none (sym (append-nil table)) in
    let present : slice_get cur n ≡ Some None = slice_get-get_or cur n d here ∙ ap Some none in
    (more.0, sym (set-get_same cur n None present) ∙ more.1)
