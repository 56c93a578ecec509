-- The greatest number of pushes that are open at once in a body is the depth of its groups.
use Rattle.std.proofs.Common.{◌≡◌, ℕ, ◌+◌, ◌-◌, ◌<◌, ◌≤◌, max, List, [], ◌∷◌, ◌++◌, length, map, take, drop, get_or, append_assoc, refl, ap, sym, ◌∙◌, add-one, drop-cons, arith}
use Rattle.std.proofs.lemmas.List.{append-nil, drop_all}
use Rattle.dvi_ops.specs.Instruction.{Instruction, Do, Push, Pop, Bop, Eop, Pre, Post, PostPost}
use Rattle.dvi_ops.specs.Forest.{Forest, Empty, Then, Group, flat, nests}
use Rattle.dvi_ops.specs.Runs.{characters, woven_instructions}
use Rattle.dvi_ops.specs.View.{body_view}
use Rattle.dvi_ops.specs.declared.body_op.BodyOp.{BodyOp}
use Rattle.ship_core.specs.Pushes.{pushed_after}
use Rattle.ship_core.specs.Private.Pushes.{max_pushed}

-- At least as many are open as before.
pushed_before : (pushed : ℕ) (is : List Instruction) → pushed ≤ max_pushed pushed is
pushed_before pushed [] = omega arith
pushed_before pushed (i ∷ is) = omega arith

popped : (pushed : ℕ) → pushed + 1 - 1 ≡ pushed
popped pushed = omega arith

-- A body before other instructions adds its depth, and leaves the number of open pushes as it was.
most_pushed-flat : (pushed : ℕ) (body : Forest) (is : List Instruction) → max_pushed pushed (flat body ++ is) ≡ max (pushed + nests body) (max_pushed pushed is)
most_pushed-flat pushed Empty is = omega (arith, pushed_before pushed is)
most_pushed-flat pushed (Then i rest) is = omega (arith, most_pushed-flat pushed rest is)
most_pushed-flat pushed (Group inner rest) is =
    let all = (flat inner ++ Pop ∷ flat rest) ++ is in
    let after = flat rest ++ is in
    let start : max_pushed pushed (flat (Group inner rest) ++ is) ≡ max pushed (max_pushed (pushed + 1) all) = refl in
    let back : max_pushed (pushed + 1) (Pop ∷ after) ≡ max (pushed + 1) (max_pushed pushed after) =
    ap (λ n. max (pushed + 1) (max_pushed n after)) (popped pushed) in
    omega (
      arith,
      start,
      ap (max_pushed (pushed + 1)) (append_assoc (flat inner) (Pop ∷ flat rest) is),
      most_pushed-flat (pushed + 1) inner (Pop ∷ after),
      back,
      most_pushed-flat pushed rest is,
    )

pub depth-flat : (body : Forest) → max_pushed 0 (flat body) ≡ nests body
depth-flat body = omega (arith, ap (max_pushed 0) (append-nil (flat body)), most_pushed-flat 0 body [])

-- The rest, together with what was seen, has the depth of the whole; and at most as many are open as instructions were seen.
pub record IsSeen (ops : List BodyOp) (index pushed deepest : ℕ) : Type 0 where
  pub value : max deepest (max_pushed pushed (map body_view (drop index ops))) ≡ max_pushed 0 (map body_view ops)
  pub seen : pushed ≤ deepest
  pub few : pushed ≤ index

-- The next instruction.
most_pushed-more :
    (pushed : ℕ) (xs : List BodyOp) (i : ℕ) (d : BodyOp) → i < length xs
    → max_pushed pushed (map body_view (drop i xs)) ≡ max pushed (max_pushed (pushed_after pushed (body_view (get_or xs i d))) (map body_view (drop (i + 1) xs)))
most_pushed-more pushed xs i d within = rw (add-one, drop-cons xs i d) refl

one_more : (pushed : ℕ) (i : Instruction) → pushed_after pushed i ≤ pushed + 1
one_more pushed (Do x) = omega arith
one_more pushed Push = omega arith
one_more pushed Pop = omega arith
one_more pushed (Bop counts pointer) = omega arith
one_more pushed Eop = omega arith
one_more pushed (Pre id units comment) = omega arith
one_more pushed (Post p) = omega arith
one_more pushed (PostPost place id) = omega arith

pub seen_more :
    (ops : List BodyOp) (i pushed deepest next deeper : ℕ) (d : BodyOp) → i < length ops → IsSeen ops i pushed deepest → next ≡ pushed_after pushed (body_view (get_or ops i d))
    → deeper ≡ max deepest next → IsSeen ops (i + 1) next deeper
seen_more ops i pushed deepest next deeper d within before is most =
    let rest = map body_view (drop (i + 1) ops) in
    record {
      value = omega (
        arith,
        most_pushed-more pushed ops i d within,
        ap (λ n. max_pushed n rest) is,
        pushed_before next rest,
        before.value,
        before.seen,
        most,
      );
      seen = omega (arith, most);
      few = omega (arith, is, one_more pushed (body_view (get_or ops i d)), before.few);
    }

pub seen_all : (ops : List BodyOp) (i pushed deepest : ℕ) → length ops ≤ i → IsSeen ops i pushed deepest → deepest ≡ max_pushed 0 (map body_view ops)
seen_all ops i pushed deepest past before =
    omega (arith, ap (λ (rest : List BodyOp). max_pushed pushed (map body_view rest)) (drop_all i ops past), before.value, before.seen)

-- Characters open nothing.
pushed-characters : (pushed : ℕ) (codes : List ℕ) (rest : List Instruction) → max_pushed pushed (characters codes ++ rest) ≡ max_pushed pushed rest
pushed-characters pushed [] rest = refl
pushed-characters pushed (c ∷ codes) rest = omega (arith, pushed-characters pushed codes rest, pushed_before pushed rest)

pushed-alone : (pushed : ℕ) (codes : List ℕ) → max_pushed pushed (characters codes) ≡ pushed
pushed-alone pushed codes = ap (max_pushed pushed) (sym (append-nil (characters codes))) ∙ pushed-characters pushed codes []

-- So the depth of a body is found without its characters.
pub pushed-woven :
    (pushed from : ℕ) (codes places : List ℕ) (is : List Instruction) → length places ≡ length is → max_pushed pushed (woven_instructions from codes places is) ≡ max_pushed pushed is
pushed-woven pushed from codes [] [] paired = pushed-alone pushed codes
pushed-woven pushed from codes [] (i ∷ is) paired = absurd (omega (arith, paired))
pushed-woven pushed from codes (place ∷ places) [] paired = absurd (omega (arith, paired))
pushed-woven pushed from codes (place ∷ places) (i ∷ is) paired =
    pushed-characters pushed (take (place - from) codes) (i ∷ woven_instructions place (drop (place - from) codes) places is)
    ∙ ap (max pushed) (pushed-woven (pushed_after pushed i) place (drop (place - from) codes) places is (omega (arith, paired)))
