-- The end of a list is a legal place.
use Rattle.std.proofs.Common.{◌≡◌, ◌∙◌, suc, ◌+◌, ◌<◌, true, List, [], ◌∷◌, ◌++◌, length, length-append, ap, arith}
use Rattle.std.specs.Prelude.{slice_get}
use Rattle.std.specs.List.{filter}
use Rattle.std.proofs.lemmas.Bool.{cond-true}
use Rattle.std.proofs.lemmas.Option.{slice_get_past}
use Rattle.std.proofs.lemmas.List.Elements.{filter-append}
use Rattle.node_core.specs.declared.tree.Node.{Node}
use Rattle.break_lines.specs.Legal.{up_to, is_legal, is_break, node_before, legal_places}

-- The end is legal.
pub end_is_legal : (list : List Node) → is_legal list (length list) ≡ true
unfolding is_legal is_break
end_is_legal list =
    ap (λ node. is_break (node_before list (length list)) node (slice_get list (length list + 1))) (slice_get_past list (length list) (omega arith))

-- A list has at least one legal place.
pub some_place : (list : List Node) → 0 < length (legal_places list)
some_place list =
    let n = length list in
    let one : n + 1 ≡ suc n = omega arith in
    let all : legal_places list ≡ filter (is_legal list) (up_to n) ++ filter (is_legal list) (n ∷ []) =
    ap (λ k. filter (is_legal list) (up_to k)) one ∙ filter-append (is_legal list) (up_to n) (n ∷ []) in
    let last : filter (is_legal list) (n ∷ []) ≡ n ∷ [] = cond-true (is_legal list n) (n ∷ []) [] (end_is_legal list) in
    omega (arith, ap length all, ap length last, length-append (filter (is_legal list) (up_to n)) (filter (is_legal list) (n ∷ [])))
