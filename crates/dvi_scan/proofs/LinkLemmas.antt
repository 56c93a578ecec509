-- The places of the bops, and the pointers from the last one back.
use Rattle.std.proofs.Common.{◌≡◌, ◌≤◌, ◌+◌, ◌++◌, [], ◌∷◌, List, ℕ, ℤ, pos, negsuc, map, reverse, length, take, refl, sym, ◌∙◌, ap, subst, subst₂, append_assoc, length-append, arith}
use Rattle.std.proofs.lemmas.List.{drop_at, take_at, reverse-append}
use Rattle.std.specs.List.{AllByRecursion}
use Rattle.dvi_ops.specs.Instruction.{Instruction, Bop}
use Rattle.dvi_ops.specs.Table.{Spells}
use Rattle.dvi_ops.specs.Tokens.{Token, IsSpelled, token_instructions, token_bytes, bop_place, places, pointer_of, pointers}
use Rattle.dvi_scan.specs.Ends.{IsSpelledAt}
use Rattle.dvi_scan.specs.Chain.{Links, IsBrokenAt}
use Rattle.dvi_scan.proofs.PlaceLemmas.{one_spelled_at, spelled_wider}

-- An instruction is a bop, or it has no place of a bop and no pointer.
data BopOrNot (i : Instruction) : Type 0 where
  is_bop : (counts : List ℤ) (pointer : ℤ) → i ≡ Bop counts pointer → BopOrNot i
  no_bop : ((at : ℕ) → bop_place at i ≡ []) → pointer_of i ≡ [] → BopOrNot i

bop_or_not : (i : Instruction) → BopOrNot i
bop_or_not (Bop counts pointer) = is_bop counts pointer refl
bop_or_not i = no_bop (λ at. refl) refl

-- A larger bound.
links_wider : (bytes : List ℕ) (bound wider : ℕ) (pointer : ℤ) (chain : List ℕ) → bound ≤ wider → Links bytes bound pointer chain → Links bytes wider pointer chain
links_wider bytes bound wider pointer [] more links = links
links_wider bytes bound wider pointer (place ∷ earlier) more (e, counts, before, spelled_at, links) =
    (e, counts, before, spelled_wider bytes place bound wider (Bop counts before) more spelled_at, links)

-- The instruction after some bytes.
spelled_after : (a : List ℕ) (t : Token) (x : List ℕ) → IsSpelled t → IsSpelledAt (a ++ (t.bytes ++ x)) (length a) (length a + length t.bytes) t.says
spelled_after a t x spelled = (
  length t.bytes,
  omega arith,
  subst (λ (y : List ℕ). Spells t.says y) (sym (ap (λ (y : List ℕ). take (length t.bytes) y) (drop_at a (t.bytes ++ x) (length a) refl) ∙ take_at t.bytes x (length t.bytes) refl)) spelled,
)

-- The first of a list goes to the end of its reverse.
onto : (x : ℕ) (xs ys : List ℕ) → reverse (x ∷ xs) ++ ys ≡ reverse xs ++ (x ∷ ys)
onto x xs ys = ap (λ (zs : List ℕ). zs ++ ys) (reverse-append (x ∷ []) xs) ∙ append_assoc (reverse xs) (x ∷ []) ys

-- Where each bop names the one before it, the pointer after them leads to all of them.
pub linked_from : (bytes a : List ℕ) (more : List Token) (rest : List ℕ) (z last : ℤ) (earlier : List ℕ) → bytes ≡ a ++ (token_bytes more ++ rest) → AllByRecursion IsSpelled more
    → pointers (token_instructions more) ++ last ∷ [] ≡ z ∷ map (λ (n : ℕ). pos n) (places (length a) more) → Links bytes (length a) z earlier
    → Links bytes (length a + length (token_bytes more)) last (reverse (places (length a) more) ++ earlier)
linked_from bytes a [] rest z last earlier whole spelled e links =
    let same : last ≡ z = cc in
    links_wider bytes (length a) (length a + 0) last earlier (omega arith) (subst (λ (y : ℤ). Links bytes (length a) y earlier) (sym same) links)
linked_from bytes a (t ∷ more) rest z last earlier whole (here, spelled) e links =
    let regroup : a ++ (token_bytes (t ∷ more) ++ rest) ≡ (a ++ t.bytes) ++ (token_bytes more ++ rest) = simp append_assoc in
    let size : length (a ++ t.bytes) ≡ length a + length t.bytes = length-append a t.bytes in
    let spelled_at : IsSpelledAt bytes (length a) (length a + length t.bytes) t.says =
    subst (λ (x : List ℕ). IsSpelledAt x (length a) (length a + length t.bytes) t.says)
    (sym (whole ∙ ap (λ (x : List ℕ). a ++ x) (append_assoc t.bytes (token_bytes more) rest)))
    (spelled_after a t (token_bytes more ++ rest) here) in
    let ends : (length a + length t.bytes) + length (token_bytes more) ≡ length a + length (token_bytes (t ∷ more)) = omega (arith, length-append t.bytes (token_bytes more)) in
    elim (bop_or_not t.says) [
      | is_bop counts pointer is ↦
          (let there : pointer ∷ (pointers (token_instructions more) ++ last ∷ []) ≡ z ∷ (pos (length a) ∷ map (λ (n : ℕ). pos n) (places (length a + length t.bytes) more)) = rw is at e in
          let same : pointer ≡ z = cc in
          let later : pointers (token_instructions more) ++ last ∷ [] ≡ pos (length a) ∷ map (λ (n : ℕ). pos n) (places (length a + length t.bytes) more) = cc in
          let bop : IsSpelledAt bytes (length a) (length a + length t.bytes) (Bop counts pointer) =
          subst (λ (i : Instruction). IsSpelledAt bytes (length a) (length a + length t.bytes) i) is spelled_at in
          let now : Links bytes (length a + length t.bytes) (pos (length a)) (length a ∷ earlier) = (refl, counts, pointer, bop, subst (λ (y : ℤ). Links bytes (length a) y earlier) (sym same) links) in
          let all = linked_from bytes (a ++ t.bytes) more rest (pos (length a)) last (length a ∷ earlier) (whole ∙ regroup) spelled (rw size later) (rw size now) in
          let next : Links bytes ((length a + length t.bytes) + length (token_bytes more)) last (reverse (places (length a + length t.bytes) more) ++ (length a ∷ earlier)) =
          subst (λ (n : ℕ). Links bytes (n + length (token_bytes more)) last (reverse (places n more) ++ (length a ∷ earlier))) size all in
          let list : reverse (places (length a) (t ∷ more)) ++ earlier ≡ reverse (places (length a + length t.bytes) more) ++ (length a ∷ earlier) = rw is (onto (length a) (places (length a + length t.bytes) more) earlier) in
          subst₂ (λ (n : ℕ) (c : List ℕ). Links bytes n last c) ends (sym list) next)
      | no_bop no_place no_pointer ↦
          (let same : places (length a) (t ∷ more) ≡ places (length a + length t.bytes) more = rw (no_place (length a)) refl in
          let none : pointers (token_instructions (t ∷ more)) ≡ pointers (token_instructions more) = rw no_pointer refl in
          let later : pointers (token_instructions more) ++ last ∷ [] ≡ z ∷ map (λ (n : ℕ). pos n) (places (length a + length t.bytes) more) =
          ap (λ (ps : List ℤ). ps ++ last ∷ []) (sym none) ∙ (e ∙ ap (λ (ns : List ℕ). z ∷ map (λ (n : ℕ). pos n) ns) same) in
          let now = links_wider bytes (length a) (length a + length t.bytes) z earlier (omega arith) links in
          let all = linked_from bytes (a ++ t.bytes) more rest z last earlier (whole ∙ regroup) spelled (rw size later) (rw size now) in
          let next : Links bytes ((length a + length t.bytes) + length (token_bytes more)) last (reverse (places (length a + length t.bytes) more) ++ earlier) =
          subst (λ (n : ℕ). Links bytes (n + length (token_bytes more)) last (reverse (places n more) ++ earlier)) size all in
          subst₂ (λ (n : ℕ) (c : List ℕ). Links bytes n last c) ends (ap (λ (ns : List ℕ). reverse ns ++ earlier) (sym same)) next)
    ]

-- The pointer before some instructions, and a bound on the bop that it names.
pub record Before (bytes : List ℕ) (more : List Token) (at : ℕ) (last : ℤ) (earlier : List ℕ) : Type 0 where
  pub pointer : ℤ
  pub bound : ℕ
  pub equation : pointers (token_instructions more) ++ last ∷ [] ≡ pointer ∷ map (λ (n : ℕ). pos n) (places at more)
  pub links : Links bytes bound pointer earlier

-- Where a pointer leads to all bops, each names the one before it.
pub chained_from : (bytes a : List ℕ) (more : List Token) (rest : List ℕ) (bound : ℕ) (last : ℤ) (earlier : List ℕ) → bytes ≡ a ++ (token_bytes more ++ rest) → AllByRecursion IsSpelled more
    → Links bytes bound last (reverse (places (length a) more) ++ earlier) → Before bytes more (length a) last earlier
chained_from bytes a [] rest bound last earlier whole spelled links = record { pointer = last; bound = bound; equation = refl; links = links }
chained_from bytes a (t ∷ more) rest bound last earlier whole (here, spelled) links =
    let regroup : a ++ (token_bytes (t ∷ more) ++ rest) ≡ (a ++ t.bytes) ++ (token_bytes more ++ rest) = simp append_assoc in
    let size : length (a ++ t.bytes) ≡ length a + length t.bytes = length-append a t.bytes in
    let spelled_at : IsSpelledAt bytes (length a) (length a + length t.bytes) t.says =
    subst (λ (x : List ℕ). IsSpelledAt x (length a) (length a + length t.bytes) t.says)
    (sym (whole ∙ ap (λ (x : List ℕ). a ++ x) (append_assoc t.bytes (token_bytes more) rest)))
    (spelled_after a t (token_bytes more ++ rest) here) in
    elim (bop_or_not t.says) [
      | is_bop counts pointer is ↦
          (let bop : IsSpelledAt bytes (length a) (length a + length t.bytes) (Bop counts pointer) =
          subst (λ (i : Instruction). IsSpelledAt bytes (length a) (length a + length t.bytes) i) is spelled_at in
          let list : reverse (places (length a) (t ∷ more)) ++ earlier ≡ reverse (places (length a + length t.bytes) more) ++ (length a ∷ earlier) = rw is (onto (length a) (places (length a + length t.bytes) more) earlier) in
          let now : Links bytes bound last (reverse (places (length a + length t.bytes) more) ++ (length a ∷ earlier)) = subst (λ (c : List ℕ). Links bytes bound last c) list links in
          let found = chained_from bytes (a ++ t.bytes) more rest bound last (length a ∷ earlier) (whole ∙ regroup) spelled (rw size now) in
          let (named, others, other, there, further) = found.links in
          let same : Bop others other ≡ Bop counts pointer =
          one_spelled_at bytes (length a) found.bound (length a + length t.bytes) (Bop others other) (Bop counts pointer) there bop in
          let pointers_same : other ≡ pointer = cc in
          let later : pointers (token_instructions more) ++ last ∷ [] ≡ found.pointer ∷ map (λ (n : ℕ). pos n) (places (length a + length t.bytes) more) = subst (λ (n : ℕ). pointers (token_instructions more) ++ last ∷ [] ≡ found.pointer ∷ map (λ (n : ℕ). pos n) (places n more)) size found.equation in
          let whole_equation : pointers (token_instructions (t ∷ more)) ++ last ∷ [] ≡ pointer ∷ map (λ (n : ℕ). pos n) (places (length a) (t ∷ more)) =
          rw is (ap (λ (zs : List ℤ). pointer ∷ zs) (later ∙ ap (λ (y : ℤ). y ∷ map (λ (n : ℕ). pos n) (places (length a + length t.bytes) more)) named)) in
          record { pointer = pointer; bound = length a; equation = whole_equation; links = subst (λ (y : ℤ). Links bytes (length a) y earlier) pointers_same further })
      | no_bop no_place no_pointer ↦
          (let same : places (length a) (t ∷ more) ≡ places (length a + length t.bytes) more = rw (no_place (length a)) refl in
          let none : pointers (token_instructions (t ∷ more)) ≡ pointers (token_instructions more) = rw no_pointer refl in
          let now : Links bytes bound last (reverse (places (length a + length t.bytes) more) ++ earlier) = subst (λ (ns : List ℕ). Links bytes bound last (reverse ns ++ earlier)) same links in
          let found = chained_from bytes (a ++ t.bytes) more rest bound last earlier (whole ∙ regroup) spelled (rw size now) in
          let later : pointers (token_instructions more) ++ last ∷ [] ≡ found.pointer ∷ map (λ (n : ℕ). pos n) (places (length a + length t.bytes) more) = subst (λ (n : ℕ). pointers (token_instructions more) ++ last ∷ [] ≡ found.pointer ∷ map (λ (n : ℕ). pos n) (places n more)) size found.equation in
          record {
            pointer = found.pointer;
            bound = found.bound;
            equation = ap (λ (ps : List ℤ). ps ++ last ∷ []) none ∙ (later ∙ ap (λ (ns : List ℕ). found.pointer ∷ map (λ (n : ℕ). pos n) ns) (sym same));
            links = found.links;
          })
    ]

-- A pointer leads to at most one list of places.
pub one_chain : (bytes : List ℕ) (bound other : ℕ) (pointer : ℤ) (c d : List ℕ) → Links bytes bound pointer c → Links bytes other pointer d → c ≡ d
one_chain bytes bound other pointer [] [] l m = refl
one_chain bytes bound other pointer [] (q ∷ d) l m = let start : pointer ≡ negsuc 0 = l in let e : pointer ≡ pos q = m.0 in absurd cc
one_chain bytes bound other pointer (p ∷ c) [] l m = let start : pointer ≡ negsuc 0 = m in let e : pointer ≡ pos p = l.0 in absurd cc
one_chain bytes bound other pointer (p ∷ c) (q ∷ d) (e, counts, before, spelled_at, links) (e', counts', before', spelled_at', links') =
    let place : q ≡ p = cc in
    let there = subst (λ (n : ℕ). IsSpelledAt bytes n other (Bop counts' before')) place spelled_at' in
    let same : Bop counts before ≡ Bop counts' before' =
    one_spelled_at bytes p bound other (Bop counts before) (Bop counts' before') spelled_at there in
    let pointers_same : before' ≡ before = cc in
    let rest = one_chain bytes p q before c d links (subst (λ (y : ℤ). Links bytes q y d) pointers_same links') in
    cc

-- A broken chain leads to no list of places.
pub broken_chain : (bytes : List ℕ) (at bound : ℕ) (pointer : ℤ) (p : ℕ) (c : List ℕ) → IsBrokenAt bytes at bound pointer p → Links bytes bound pointer c → ⊥
broken_chain bytes at bound pointer p [] (IsBrokenAt.here lost) links = lost.other links
broken_chain bytes at bound pointer p (place ∷ c) (IsBrokenAt.here lost) (e, counts, before, spelled_at, links) =
    lost.no_bop place counts before e spelled_at
broken_chain bytes at bound pointer p [] (IsBrokenAt.before counts spelled_at b) links = absurd cc
broken_chain bytes at bound pointer p (place ∷ c) (IsBrokenAt.before {place = here} {earlier = earlier} counts spelled_at b)
    (e, counts', before, spelled_at', links) =
    let same_place : place ≡ here = cc in
    let there = subst (λ (n : ℕ). IsSpelledAt bytes n bound (Bop counts' before)) same_place spelled_at' in
    let same : Bop counts earlier ≡ Bop counts' before =
    one_spelled_at bytes here bound bound (Bop counts earlier) (Bop counts' before) spelled_at there in
    let pointers_same : before ≡ earlier = cc in
    broken_chain bytes (here + 41) here earlier p c b (subst₂ (λ (n : ℕ) (y : ℤ). Links bytes n y c) same_place pointers_same links)
