-- Facts about lists that are not refused, and about lists that differ only in their last items.
use Rattle.std.proofs.Common.{◌≡◌, ◌≤◌, Bool, true, false, cond, List, length, refl, arith, Some, None}
use Rattle.std.specs.Prelude.{nat_lt}
use Rattle.std.specs.List.{list_any}
use Rattle.std.proofs.lemmas.Bool.Decides.{nat_tests}
use Rattle.node_core.specs.declared.tree.Node.{Node}
use Rattle.break_lines.specs.Problems.{max_places}
use Rattle.node_core.specs.Classes.{shrinks_infinitely}
use Rattle.break_lines.specs.Legal.{legal_places}
use Rattle.break_lines.specs.Facts.{refusal}

first_fails : {A : Type 0} (a b : Bool) (x y : A) → cond a (Some x) (cond b (Some y) None) ≡ None → a ≡ false
first_fails true b x y is = absurd (cc)
first_fails false b x y is = refl

second_fails : {A : Type 0} (a b : Bool) (x y : A) → cond a (Some x) (cond b (Some y) None) ≡ None → b ≡ false
second_fails true b x y is = absurd (cc)
second_fails false true x y is = absurd (cc)
second_fails false false x y is = refl

-- A list that is not refused has no glue that shrinks in an infinite order.
pub no_infinite_shrink : (list : List Node) → refusal list ≡ None → list_any shrinks_infinitely list ≡ false
no_infinite_shrink list is = first_fails (list_any shrinks_infinitely list) (nat_lt max_places (length (legal_places list))) _ _ is

-- A list that is not refused has at most 8,192 legal places.
pub few_places : (list : List Node) → refusal list ≡ None → length (legal_places list) ≤ max_places
few_places list is =
    let test : nat_lt max_places (length (legal_places list)) ≡ false =
    second_fails (list_any shrinks_infinitely list) (nat_lt max_places (length (legal_places list))) _ _ is in
    grind (arith, nat_tests)
