-- What stands in front of bytes stays there when more of them are appended.
use Rattle.std.proofs.Common.{◌≡◌, ◌++◌, List, ℕ, length, take, drop, sym, ap, ◌∙◌, append_assoc, arith}
use Rattle.std.proofs.lemmas.List.{take_all, take-append-le, take-append-drop}
use Rattle.std.specs.Prelude.{Result, Ok, Err, OnErr}

-- Bytes before others are the first ones.
front_first : (before rest : List ℕ) → take (length before) (before ++ rest) ≡ before
front_first before rest = take-append-le (length before) before rest (omega arith) ∙ take_all (length before) before (omega arith)

pub kept_by_append : (before after more : List ℕ) → after ≡ before ++ more → take (length before) after ≡ before
kept_by_append before after more longer = ap (take (length before)) longer ∙ front_first before more

-- Bytes with a front are the front and the rest.
apart : (before between : List ℕ) → take (length before) between ≡ before → between ≡ before ++ drop (length before) between
apart before between kept = sym (take-append-drop (length before) between) ∙ ap (λ (bs : List ℕ). bs ++ drop (length before) between) kept

-- More bytes were appended.
pub kept_in_front :
    (before between after more : List ℕ) → take (length before) between ≡ before → after ≡ between ++ more → take (length before) after ≡ before
kept_in_front before between after more kept longer =
    let rest = drop (length before) between in
    ap (take (length before)) (longer ∙ (ap (λ (bs : List ℕ). bs ++ more) (apart before between kept) ∙ append_assoc before rest more))
    ∙ front_first before (rest ++ more)

-- In two steps.
pub kept_through :
    (before between after : List ℕ) → take (length before) between ≡ before → take (length between) after ≡ between → take (length before) after ≡ before
kept_through before between after first second =
    kept_in_front before between after (drop (length between) after) first (apart between after second)

-- The same, where a refusal is returned.
pub kept_at_err :
    {A E : Type 0} (r : Result A E) (before between after : List ℕ) → take (length before) between ≡ before → take (length between) after ≡ between
    → OnErr r (take (length before) after ≡ before)
kept_at_err (Ok x) before between after first second = tt
kept_at_err (Err e) before between after first second = kept_through before between after first second

-- The same, where the last step left all as it was.
pub kept_same :
    {A E : Type 0} (r : Result A E) (before between after : List ℕ) → take (length before) between ≡ before → OnErr r (after ≡ between)
    → OnErr r (take (length before) after ≡ before)
kept_same (Ok x) before between after kept same = tt
kept_same (Err e) before between after kept same = ap (take (length before)) same ∙ kept
