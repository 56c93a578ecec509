-- For the instructions of a body, the passes give the reused body.
use Rattle.std.proofs.Common.{◌≡◌, ◌++◌, [], ◌∷◌, List, ℕ, ℤ, suc, Bool, false, ◌||◌, refl, sym, ◌∙◌, ap, append_assoc, append-nil, reverse}
use Rattle.std.proofs.lemmas.List.{reverse-append}
use Rattle.dvi_ops.specs.Instruction.{Axis, By, Set, Again, BodyLeaf, Move, Instruction, Do, Push, Pop}
use Rattle.dvi_ops.specs.Forest.{Forest, Empty, Then, Group, flat}
use Rattle.move_core.specs.Registers.{KnownRegisters, nothing_known, is_amount, written_leaf}
use Rattle.move_core.specs.Reused.{movement_along, plain_amount, has_move, comes_again, reused_from, grouped_body, pruned_body, reused_body}
use Rattle.move_core.specs.Private.Passes.{trimmed_instructions, amount_comes, again_in, outside_groups, rewritten_instructions}

-- A reversed list before another one.
onto : List Instruction → List Instruction → List Instruction
onto [] out = out
onto (i ∷ is) out = onto is (i ∷ out)

onto-append : (a b out : List Instruction) → onto (a ++ b) out ≡ onto b (onto a out)
unfolding onto
onto-append [] b out = refl
onto-append (i ∷ a) b out = onto-append a b (i ∷ out)

reverse-onto : (a out : List Instruction) → reverse (onto a out) ≡ reverse out ++ a
unfolding onto
reverse-onto [] out = sym (append-nil (reverse out))
reverse-onto (i ∷ a) out =
    reverse-onto a (i ∷ out) ∙ (ap (λ (is : List Instruction). is ++ a) (reverse-append (i ∷ []) out) ∙ append_assoc (reverse out) (i ∷ []) a)

IsNoPush : Instruction → Type 0
IsNoPush Push = ⊥
IsNoPush i = Unit {0}

-- After an instruction other than push, a pop stays.
keeps_pop : (last : Instruction) (rest out : List Instruction) → IsNoPush last → trimmed_instructions (Pop ∷ rest) (last ∷ out) ≡ trimmed_instructions rest (Pop ∷ last ∷ out)
unfolding IsNoPush
keeps_pop Push rest out h = absurd h
keeps_pop last rest out h = refl

-- The same after a body that follows an instruction other than push.
body_keeps_pop : (f : Forest) (last : Instruction) (rest out : List Instruction) → IsNoPush last →
    trimmed_instructions (Pop ∷ rest) (onto (flat f) (last ∷ out)) ≡ trimmed_instructions rest (Pop ∷ onto (flat f) (last ∷ out))
unfolding onto IsNoPush
body_keeps_pop Empty last rest out h = keeps_pop last rest out h
body_keeps_pop (Then leaf f) last rest out h = body_keeps_pop f (Do leaf) rest (last ∷ out) tt
body_keeps_pop (Group inner f) last rest out h =
    let after = onto (flat inner) (Push ∷ last ∷ out) in
    let e = onto-append (flat inner) (Pop ∷ flat f) (Push ∷ last ∷ out) in
    ap (λ (is : List Instruction). trimmed_instructions (Pop ∷ rest) is) e ∙ (body_keeps_pop f Pop rest after tt ∙ sym (ap (λ (is : List Instruction). trimmed_instructions rest (Pop ∷ is)) e))

-- What is kept at the pop of a group with the body f: nothing of the group, where f is empty.
closed : Forest → List Instruction → List Instruction
closed Empty out = out
closed f out = Pop ∷ onto (flat f) (Push ∷ out)

closes : (f : Forest) (rest out : List Instruction) → trimmed_instructions (Pop ∷ rest) (onto (flat f) (Push ∷ out)) ≡ trimmed_instructions rest (closed f out)
unfolding onto closed IsNoPush
closes Empty rest out = refl
closes (Then leaf f) rest out = body_keeps_pop f (Do leaf) rest (Push ∷ out) tt
closes (Group inner f) rest out =
    let after = onto (flat inner) (Push ∷ Push ∷ out) in
    let e = onto-append (flat inner) (Pop ∷ flat f) (Push ∷ Push ∷ out) in
    ap (λ (is : List Instruction). trimmed_instructions (Pop ∷ rest) is) e ∙ (body_keeps_pop f Pop rest after tt ∙ sym (ap (λ (is : List Instruction). trimmed_instructions rest (Pop ∷ is)) e))

closed-grouped : (f g : Forest) (out : List Instruction) → onto (flat g) (closed f out) ≡ onto (flat (grouped_body f g)) out
unfolding onto closed
closed-grouped Empty g out = refl
closed-grouped (Then leaf f) g out = sym (onto-append (flat (Then leaf f)) (Pop ∷ flat g) (Push ∷ out))
closed-grouped (Group inner f) g out = sym (onto-append (flat (Group inner f)) (Pop ∷ flat g) (Push ∷ out))

-- The first pass over a body and the rest after it.
trimmed_forest : (f : Forest) (out rest : List Instruction) → trimmed_instructions (flat f ++ rest) out ≡ trimmed_instructions rest (onto (flat (pruned_body f)) out)
unfolding onto
trimmed_forest Empty out rest = refl
trimmed_forest (Then leaf f) out rest = trimmed_forest f (Do leaf ∷ out) rest
trimmed_forest (Group inner f) out rest =
    ap (λ (is : List Instruction). trimmed_instructions is (Push ∷ out)) (append_assoc (flat inner) (Pop ∷ flat f) rest)
    ∙ (trimmed_forest inner (Push ∷ out) (Pop ∷ (flat f ++ rest))
    ∙ (closes (pruned_body inner) (flat f ++ rest) out
    ∙ (trimmed_forest f (closed (pruned_body inner) out) rest
    ∙ ap (λ (is : List Instruction). trimmed_instructions rest is) (closed-grouped (pruned_body inner) (pruned_body f) out))))

comes_deeper : (f : Forest) (rest : List Instruction) (pops : ℕ) (axis : Axis) (n : ℤ) → amount_comes (flat f ++ rest) (suc pops) axis n ≡ amount_comes rest (suc pops) axis n
comes_deeper Empty rest pops axis n = refl
comes_deeper (Then leaf f) rest pops axis n = comes_deeper f rest pops axis n
comes_deeper (Group inner f) rest pops axis n =
    ap (λ (is : List Instruction). amount_comes is (suc (suc pops)) axis n) (append_assoc (flat inner) (Pop ∷ flat f) rest)
    ∙ (comes_deeper inner (Pop ∷ (flat f ++ rest)) (suc pops) axis n ∙ comes_deeper f rest pops axis n)

-- No movement comes before the end of the open group.
Ends : List Instruction → Type 0
Ends rest = (axis : Axis) (n : ℤ) → amount_comes rest 0 axis n ≡ false

or_same : (a b c : Bool) → b ≡ c → (a || b) ≡ (a || c)
or_same a b c e = ap (λ (b : Bool). a || b) e

comes_forest : (f : Forest) (rest : List Instruction) (axis : Axis) (n : ℤ) → Ends rest → amount_comes (flat f ++ rest) 0 axis n ≡ has_move f axis n
unfolding Ends
comes_forest Empty rest axis n ends = ends axis n
comes_forest (Then leaf f) rest axis n ends =
    or_same (is_amount (plain_amount (movement_along axis leaf)) n) (amount_comes (flat f ++ rest) 0 axis n) (has_move f axis n) (comes_forest f rest axis n ends)
comes_forest (Group inner f) rest axis n ends =
    ap (λ (is : List Instruction). amount_comes is 1 axis n) (append_assoc (flat inner) (Pop ∷ flat f) rest)
    ∙ (comes_deeper inner (Pop ∷ (flat f ++ rest)) 0 axis n ∙ comes_forest f rest axis n ends)

again_same : (leaf : BodyLeaf) (f : Forest) (rest : List Instruction) → Ends rest → again_in (Do leaf) (flat f ++ rest) ≡ comes_again leaf (has_move f)
again_same (Move axis (By n)) f rest ends = comes_forest f rest axis n ends
again_same (Move axis (Set register n)) f rest ends = refl
again_same (Move axis (Again register)) f rest ends = refl
again_same leaf f rest ends = refl

-- The last pass over a body and the rest after it.
rewritten_forest : (f : Forest) (k : KnownRegisters) (outer : List KnownRegisters) (rest : List Instruction) → Ends rest →
    (q : KnownRegisters) × (rewritten_instructions (flat f ++ rest) (record { known = k; outer = outer }) ≡ flat (reused_from k f) ++ rewritten_instructions rest (record { known = q; outer = outer }))
unfolding Ends
rewritten_forest Empty k outer rest ends = (k, refl)
rewritten_forest (Then leaf f) k outer rest ends =
    let after = (written_leaf k leaf (comes_again leaf (has_move f))).known in
    let next = rewritten_forest f after outer rest ends in (
      next.0,
      ap (λ (again : Bool). Do (written_leaf k leaf again).leaf ∷ rewritten_instructions (flat f ++ rest) (record { known = (written_leaf k leaf again).known; outer = outer })) (again_same leaf f rest ends)
          ∙ ap (λ (is : List Instruction). Do (written_leaf k leaf (comes_again leaf (has_move f))).leaf ∷ is) next.1,
    )
rewritten_forest (Group inner f) k outer rest ends =
    let within = rewritten_forest inner k (k ∷ outer) (Pop ∷ (flat f ++ rest)) (λ axis n. refl) in
    let next = rewritten_forest f k outer rest ends in (
      next.0,
      ap (λ (is : List Instruction). Push ∷ rewritten_instructions is (record { known = k; outer = k ∷ outer })) (append_assoc (flat inner) (Pop ∷ flat f) rest)
          ∙ (ap (λ (is : List Instruction). Push ∷ is) within.1
          ∙ (ap (λ (is : List Instruction). Push ∷ (flat (reused_from k inner) ++ Pop ∷ is)) next.1
          ∙ ap (λ (is : List Instruction). Push ∷ is) (sym (append_assoc (flat (reused_from k inner)) (Pop ∷ flat (reused_from k f)) (rewritten_instructions rest (record { known = next.0; outer = outer })))))),
    )

-- All passes over a body.
pub passes_body : (f : Forest) → rewritten_instructions (trimmed_instructions (flat f) []) outside_groups ≡ flat (reused_body f)
unfolding onto Ends reused_body
passes_body f =
    let body = flat (pruned_body f) in
    let last = rewritten_forest (pruned_body f) nothing_known [] [] (λ axis n. refl) in
    ap (λ (is : List Instruction). rewritten_instructions is outside_groups)
    (ap (λ (is : List Instruction). trimmed_instructions is []) (sym (append-nil (flat f)))
    ∙ (trimmed_forest f [] [] ∙ (reverse-onto body [] ∙ sym (append-nil body))))
    ∙ (last.1 ∙ append-nil (flat (reused_from nothing_known (pruned_body f))))
