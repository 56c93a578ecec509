-- The places of the pages from the last one back.
use Rattle.std.proofs.Common.{◌≡◌, ◌≤◌, ◌+◌, ◌*◌, ◌++◌, [], ◌∷◌, List, ℕ, ℤ, pos, length, drop, refl, sym, ◌∙◌, ap, subst, inl, inr, append_assoc, append-nil, length-append, arith}
use Rattle.std.specs.Prelude.{◌⊎◌}
use Rattle.std.proofs.lemmas.List.{take-append-drop, drop_at, drop-drop, length-take}
use Rattle.dvi_ops.specs.Instruction.{Bop, Post, Postamble}
use Rattle.dvi_ops.specs.Table.{SpellsSigned, SaysEach, signed}
use Rattle.dvi_scan.specs.Ends.{IsSpelledAt}
use Rattle.dvi_scan.specs.Chain.{Links, NamesPage, IsBrokenAt, IsPageAt}
use Rattle.dvi_scan.specs.Private.Chain.{Names}
use Rattle.dvi_scan.specs.declared.page_chain.PointerTarget.{PointerTarget}
use Rattle.dvi_scan.specs.declared.page_chain.PointerTarget.TheVariants.{Start, Page, Nothing}

-- Four bytes have the same value with others after them.
pub says_front : (z : ℤ) (a x : List ℕ) → SpellsSigned z a → signed 4 (a ++ x) ≡ z
says_front z (b ∷ c ∷ d ∷ e ∷ []) x (size, says) = says
says_front z [] x (size, says) = absurd (omega arith)
says_front z (b ∷ []) x (size, says) = absurd (omega arith)
says_front z (b ∷ c ∷ []) x (size, says) = absurd (omega arith)
says_front z (b ∷ c ∷ d ∷ []) x (size, says) = absurd (omega arith)
says_front z (b ∷ c ∷ d ∷ e ∷ f ∷ a) x (size, says) = absurd (omega arith)

-- Numbers of four bytes.
each_size : (zs : List ℤ) (bytes : List ℕ) → SaysEach zs bytes → length bytes ≡ 4 * length zs
each_size [] bytes e = ap (λ (x : List ℕ). length x) e
each_size (z ∷ zs) bytes (a, rest, e, says, more) =
    let size = each_size zs rest more in
    omega (arith, ap (λ (x : List ℕ). length x) e, length-append a rest, says.0)

-- The pointer of a bop is its last four bytes.
pub bop_pointer : (bytes : List ℕ) (place bound : ℕ) (counts : List ℤ) (pointer : ℤ) → bound ≤ length bytes
    → IsSpelledAt bytes place bound (Bop counts pointer)
    → (signed 4 (drop (place + 41) bytes) ≡ pointer) × (place + 45 ≤ bound)
bop_pointer bytes place bound counts pointer within (size, space, (a, b, whole, ten, each, says)) =
    let forty : length a ≡ 40 = omega (arith, each_size counts a each) in
    let all : drop place bytes ≡ (139 ∷ a) ++ (b ++ drop size (drop place bytes)) =
    sym (take-append-drop size (drop place bytes)) ∙ (ap (λ (x : List ℕ). x ++ drop size (drop place bytes)) whole ∙ append_assoc (139 ∷ a) b (drop size (drop place bytes))) in
    let after : drop 41 (drop place bytes) ≡ b ++ drop size (drop place bytes) = ap (λ (x : List ℕ). drop 41 x) all ∙ drop_at (139 ∷ a) (b ++ drop size (drop place bytes)) 41 (omega arith) in
    let there : drop (place + 41) bytes ≡ b ++ drop size (drop place bytes) = sym (drop-drop 41 place bytes) ∙ after in (
      ap (λ (x : List ℕ). signed 4 x) there ∙ says_front pointer b (drop size (drop place bytes)) says,
      omega (arith, length-take size (drop place bytes), ap (λ (x : List ℕ). length x) whole, length-append a b, says.0),
    )

-- A bound on the rest of the walk.
abbrev pub size_of : PointerTarget → ℕ
size_of Start = 0
size_of (Page place) = place + 1
size_of (Nothing at) = 0

-- From a pointer the walk has found these places, and then a pointer that names this.
pub record Goes (bytes : List ℕ) (at bound : ℕ) (pointer : ℤ) (found : List ℕ) (named : PointerTarget) : Type 0 where
  pub at_now : ℕ
  pub bound_now : ℕ
  pub pointer_now : ℤ
  pub within : bound_now ≤ length bytes
  pub names : Names bytes at_now bound_now pointer_now named
  pub linked : (rest : List ℕ) → Links bytes bound_now pointer_now rest → Links bytes bound pointer (found ++ rest)
  pub broken : (p : ℕ) → IsBrokenAt bytes at_now bound_now pointer_now p → IsBrokenAt bytes at bound pointer p
  pub first : NamesPage bytes bound pointer ⊎ ((bound_now ≡ bound) × (pointer_now ≡ pointer))

-- At the start no place is found.
pub goes_first : (bytes : List ℕ) (at bound : ℕ) (named : PointerTarget) → bound ≤ length bytes
    → Names bytes at bound (signed 4 (drop at bytes)) named
    → Goes bytes at bound (signed 4 (drop at bytes)) [] named
goes_first bytes at bound named within names =
    record { at_now = at; bound_now = bound; pointer_now = signed 4 (drop at bytes); within = within; names = names; linked = λ rest links. links; broken = λ p b. b; first = inr (refl, refl) }

-- A named page is within the bytes.
pub page_space : (bytes : List ℕ) (at bound : ℕ) (pointer : ℤ) (found : List ℕ) (place : ℕ) → Goes bytes at bound pointer found (Page place)
    → place + 45 ≤ length bytes
page_space bytes at bound pointer found place g =
    let (e, low, (counts, before, spelled_at)) = g.names in
    let within = g.within in
    let there = bop_pointer bytes place g.bound_now counts before within spelled_at in
    omega arith

-- Where a page is named now, the first pointer names one.
pub goes_page : (bytes : List ℕ) (at bound : ℕ) (pointer : ℤ) (found : List ℕ) (place : ℕ) → Goes bytes at bound pointer found (Page place) → NamesPage bytes bound pointer
goes_page bytes at bound pointer found place g =
    let (e, low, page) = g.names in
    by_first g.first e page
  where
    by_first : NamesPage bytes bound pointer ⊎ ((g.bound_now ≡ bound) × (g.pointer_now ≡ pointer)) → g.pointer_now ≡ pos place → IsPageAt bytes place g.bound_now → NamesPage bytes bound pointer
    by_first (inl named) e page = named
    by_first (inr (bounds, pointers)) e page = (place, sym pointers ∙ e, subst (λ (n : ℕ). IsPageAt bytes place n) bounds page)

-- One more page.
pub goes_more : (bytes : List ℕ) (at bound : ℕ) (pointer : ℤ) (found : List ℕ) (place : ℕ) (next : PointerTarget)
    → Goes bytes at bound pointer found (Page place)
    → Names bytes (place + 41) place (signed 4 (drop (place + 41) bytes)) next → Goes bytes at bound pointer (found ++ place ∷ []) next
goes_more bytes at bound pointer found place next g names =
    let (e, low, (counts, before, spelled_at)) = g.names in
    let within = g.within in
    let there = bop_pointer bytes place g.bound_now counts before within spelled_at in
    record {
      at_now = place + 41;
      bound_now = place;
      pointer_now = before;
      within = omega arith;
      names = subst (λ (z : ℤ). Names bytes (place + 41) place z next) there.0 names;
      linked = λ rest links.
          subst (λ (all : List ℕ). Links bytes bound pointer all) (sym (append_assoc found (place ∷ []) rest))
          (g.linked (place ∷ rest) (e, counts, before, spelled_at, links));
      broken = λ p b. g.broken p (subst (λ (z : ℤ). IsBrokenAt bytes g.at_now g.bound_now z p) (sym e) (IsBrokenAt.before counts spelled_at b));
      first = inl (goes_page bytes at bound pointer found place g);
    }

-- The end of the walk.
pub goes_end : (bytes : List ℕ) (at bound : ℕ) (pointer : ℤ) (found : List ℕ) → Goes bytes at bound pointer found Start → Links bytes bound pointer found
goes_end bytes at bound pointer found g =
    subst (λ (all : List ℕ). Links bytes bound pointer all) (append-nil found) (g.linked [] g.names)

pub goes_lost : (bytes : List ℕ) (at bound : ℕ) (pointer : ℤ) (found : List ℕ) (p : ℕ) → Goes bytes at bound pointer found (Nothing p) → IsBrokenAt bytes at bound pointer p
goes_lost bytes at bound pointer found p g =
    let (e, lost) = g.names in
    g.broken p (subst (λ (n : ℕ). IsBrokenAt bytes g.at_now g.bound_now g.pointer_now n) (sym e) (IsBrokenAt.here lost))

-- What names neither a page nor nothing is the start.
pub start_left : (named : PointerTarget) → ((place : ℕ) → named ≡ Page place → ⊥) → ((place : ℕ) → named ≡ Nothing place → ⊥) → named ≡ Start
start_left Start no_page no_nothing = refl
start_left (Page place) no_page no_nothing = absurd (no_page place refl)
start_left (Nothing place) no_page no_nothing = absurd (no_nothing place refl)

-- The pointer of post is the four bytes after its code.
pub post_pointer : (bytes : List ℕ) (place bound : ℕ) (postamble : Postamble) → bound ≤ length bytes → IsSpelledAt bytes place bound (Post postamble)
    → (signed 4 (drop (place + 1) bytes) ≡ postamble.last_bop) × (place + 5 ≤ bound)
post_pointer bytes place bound postamble within
    (size, space, (last, units, tall, wide, deep, count, whole, says, said1, said2, said3, said4, said5)) =
    let rest = units ++ (tall ++ (wide ++ (deep ++ count))) in
    let after = drop size (drop place bytes) in
    let all : drop place bytes ≡ (248 ∷ []) ++ ((last ++ rest) ++ after) =
    sym (take-append-drop size (drop place bytes)) ∙ ap (λ (x : List ℕ). x ++ after) whole in
    let there : drop (place + 1) bytes ≡ last ++ (rest ++ after) =
    sym (drop-drop 1 place bytes) ∙ (ap (λ (x : List ℕ). drop 1 x) all ∙ append_assoc last rest after) in (
      ap (λ (x : List ℕ). signed 4 x) there ∙ says_front postamble.last_bop last (rest ++ after) says,
      omega (arith, length-take size (drop place bytes), ap (λ (x : List ℕ). length x) whole, length-append last rest, says.0),
    )
