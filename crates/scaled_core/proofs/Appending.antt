-- A step of a loop that appends what each item gives: the items after the last step, and that the front of the list does not change.
use Rattle.std.proofs.Common.{◌≡◌, ℕ, ◌+◌, ◌++◌, ◌<◌, List, length, drop, take, get_or, ap, sym, ◌∙◌, ◌≤◌, arith, append_assoc}
use Rattle.std.specs.List.{flat_map}
use Rattle.std.proofs.lemmas.List.{drop_more, length-take, take-append-le}

pub flat_turn : {X Y : Type 0} (f : X → List Y) (xs : List X) (i : ℕ) (d : X) (all held new : List Y) → i < length xs → held ++ flat_map f (drop i xs) ≡ all → new ≡ held ++ f (get_or xs i d) → new ++ flat_map f (drop (i + 1) xs) ≡ all
flat_turn f xs i d all held new h e en =
    rw en (append_assoc held (f (get_or xs i d)) (flat_map f (drop (i + 1) xs)) ∙ ap (λ ys. held ++ flat_map f ys) (sym (drop_more xs i d h)) ∙ e)

pub front_kept : {X : Type 0} (old held more new : List X) → take (length old) held ≡ old → new ≡ held ++ more → take (length old) new ≡ old
front_kept old held more new e n =
    let within : length old ≤ length held = omega (arith, ap length e, length-take (length old) held) in
    ap (take (length old)) n ∙ take-append-le (length old) held more within ∙ e
