-- Facts about two lists of instructions or of parts, one after the other.
use Rattle.std.proofs.Common.{◌≡◌, ◌+◌, ◌++◌, [], ◌∷◌, List, length, ℕ, suc, ℤ, Option, Some, None, Bool, true, false, if◌then◌else◌, refl, sym, ◌∙◌, ap, append_assoc, add_assoc, length-append, arith}
use Rattle.std.proofs.lemmas.List.{map-append}
use Rattle.std.proofs.lemmas.Grind.{flat_map-append}
use Rattle.std.specs.Ordering.{int_eq}
use Rattle.std.specs.List.{flat_map}
use Rattle.dvi_ops.specs.Instruction.{Definition, BodyLeaf, Instruction, Do, Push, Pop, Bop, Eop}
use Rattle.dvi_ops.specs.Body.{Meaning, Acts, start}
use Rattle.dvi_ops.specs.Tokens.{Token, token_instructions, token_bytes, bop_place, places, pointer_of, pointers}
use Rattle.dvi_ops.specs.Fonts.{definitions_in, definitions, selection_of, selections, first_definition_of, FontsAreRight, known_after}
use Rattle.dvi_ops.specs.Forest.{Forest, Empty, Then, Group, flat, meaning}
use Rattle.dvi_ops.specs.File.{FilePart, Idle, Defines, Shows, MarkedPage, page_then, pages_of, instructions}

-- The instructions, the bytes and what is collected from each instruction, for two lists.
pub says-append : (a b : List Token) → token_instructions (a ++ b) ≡ token_instructions a ++ token_instructions b
says-append a b = map-append (λ (t : Token). t.says) a b

pub written-append : (a b : List Token) → token_bytes (a ++ b) ≡ token_bytes a ++ token_bytes b
written-append a b = flat_map-append (λ (t : Token). t.bytes) a b

pub length-written-append : (a b : List Token) → length (token_bytes (a ++ b)) ≡ length (token_bytes a) + length (token_bytes b)
length-written-append a b = ap length (written-append a b) ∙ length-append (token_bytes a) (token_bytes b)

pub pointers-append : (a b : List Instruction) → pointers (a ++ b) ≡ pointers a ++ pointers b
pointers-append a b = flat_map-append pointer_of a b

pub definitions-append : (a b : List Instruction) → definitions (a ++ b) ≡ definitions a ++ definitions b
definitions-append a b = flat_map-append definitions_in a b

pub selections-append : (a b : List Instruction) → selections (a ++ b) ≡ selections a ++ selections b
selections-append a b = flat_map-append selection_of a b

pub instructions-append : (a b : List FilePart) → flat_map instructions (a ++ b) ≡ flat_map instructions a ++ flat_map instructions b
instructions-append a b = flat_map-append instructions a b

-- The places of the bops of two lists: those of the second list count from the end of the first.
pub places-append : (at : ℕ) (a b : List Token) → places at (a ++ b) ≡ places at a ++ places (at + length (token_bytes a)) b
places-append at [] b = ap (λ n. places n b) (omega arith)
places-append at (t ∷ a) b =
    ap (λ ns. bop_place at t.says ++ ns) (places-append (at + length t.bytes) a b)
    ∙ (sym (append_assoc (bop_place at t.says) (places (at + length t.bytes) a) (places ((at + length t.bytes) + length (token_bytes a)) b))
    ∙ ap (λ n. (bop_place at t.says ++ places (at + length t.bytes) a) ++ places n b) (add_assoc at (length t.bytes) (length (token_bytes a)) ∙ ap (λ n. at + n) (sym (length-append t.bytes (token_bytes a)))))

-- There are as many places as pointers.
pub length-places : (at : ℕ) (tokens : List Token) → length (places at tokens) ≡ length (pointers (token_instructions tokens))
length-places at [] = refl
length-places at (t ∷ tokens) =
    length-append (bop_place at t.says) (places (at + length t.bytes) tokens)
    ∙ (ap (λ n. length (bop_place at t.says) + n) (length-places (at + length t.bytes) tokens)
    ∙ (ap (λ n. n + length (pointers (token_instructions tokens))) (one_each at t.says)
    ∙ sym (length-append (pointer_of t.says) (pointers (token_instructions tokens)))))
  where
    one_each : (at : ℕ) (i : Instruction) → length (bop_place at i) ≡ length (pointer_of i)
    one_each at (Bop counts pointer) = refl
    one_each at i = refl

-- The fonts of two lists: those of the second are right where the definitions of the first are known.
pub known_after-append : (known : List Definition) (a b : List Instruction) → known_after known (a ++ b) ≡ known_after (known_after known a) b
known_after-append known [] b = refl
known_after-append known (i ∷ a) b = known_after-append (definitions_in i ++ known) a b

pub fonts_append : (known : List Definition) (a b : List Instruction) → FontsAreRight known a → FontsAreRight (known_after known a) b → FontsAreRight known (a ++ b)
fonts_append known [] b p q = q
fonts_append known (i ∷ a) b (here, p) q = (here, fonts_append (definitions_in i ++ known) a b p q)

pub fonts_front : (known : List Definition) (a b : List Instruction) → FontsAreRight known (a ++ b) → FontsAreRight known a
fonts_front known [] b p = tt
fonts_front known (i ∷ a) b (here, p) = (here, fonts_front (definitions_in i ++ known) a b p)

pub fonts_back : (known : List Definition) (a b : List Instruction) → FontsAreRight known (a ++ b) → FontsAreRight (known_after known a) b
fonts_back known [] b p = p
fonts_back known (i ∷ a) b (here, p) = fonts_back (definitions_in i ++ known) a b p

-- The first definition of a number in two lists.
abbrev pub first_of : Option Definition → Option Definition → Option Definition
first_of None other = other
first_of (Some d) other = Some d

pub defined-append : (f : ℤ) (a b : List Definition) → first_definition_of f (a ++ b) ≡ first_of (first_definition_of f a) (first_definition_of f b)
defined-append f [] b = refl
defined-append f (d ∷ a) b = by_test (int_eq f d.number) (defined-append f a b)
  where
    by_test : (same : Bool) → first_definition_of f (a ++ b) ≡ first_of (first_definition_of f a) (first_definition_of f b) → (if same then Some d else first_definition_of f (a ++ b)) ≡ first_of (if same then Some d else first_definition_of f a) (first_definition_of f b)
    by_test true e = refl
    by_test false e = e

-- The pages of two lists of parts.
abbrev pub both_pages : Option (List MarkedPage) → Option (List MarkedPage) → Option (List MarkedPage)
both_pages None others = None
both_pages (Some pages) None = None
both_pages (Some pages) (Some others) = Some (pages ++ others)

page_then-both : (counts : List ℤ) (m : Meaning) (pages others : Option (List MarkedPage)) → page_then counts m (both_pages pages others) ≡ both_pages (page_then counts m pages) others
page_then-both counts None pages others = refl
page_then-both counts (Some (marks, s)) None others = refl
page_then-both counts (Some (marks, s)) (Some pages) None = refl
page_then-both counts (Some (marks, s)) (Some pages) (Some others) = refl

both_pages-none : (others : Option (List MarkedPage)) → others ≡ both_pages (Some []) others
both_pages-none None = refl
both_pages-none (Some others) = refl

pub pages_of-append : (does : Acts) (a b : List FilePart) → pages_of does (a ++ b) ≡ both_pages (pages_of does a) (pages_of does b)
pages_of-append does [] b = both_pages-none (pages_of does b)
pages_of-append does (Idle ∷ a) b = pages_of-append does a b
pages_of-append does (Defines d ∷ a) b = pages_of-append does a b
pages_of-append does (Shows counts pointer body ∷ a) b =
    ap (page_then counts (meaning does body start)) (pages_of-append does a b) ∙ page_then-both counts (meaning does body start) (pages_of does a) (pages_of does b)

-- Where both lists have pages, the whole has them.
pub pages_joined : (does : Acts) (a b : List FilePart) (pages others : List MarkedPage) → pages_of does a ≡ Some pages → pages_of does b ≡ Some others → pages_of does (a ++ b) ≡ Some (pages ++ others)
pages_joined does a b pages others e e' = pages_of-append does a b ∙ (ap (λ (o : Option (List MarkedPage)). both_pages o (pages_of does b)) e ∙ ap (both_pages (Some pages)) e')

-- Where both lists together have pages, each of them has pages.
pub pages_parted : (does : Acts) (a b : List FilePart) (all : List MarkedPage) → pages_of does (a ++ b) ≡ Some all →
    (pages : List MarkedPage) × (others : List MarkedPage) × (pages_of does a ≡ Some pages) × (pages_of does b ≡ Some others) × (all ≡ pages ++ others)
pages_parted does a b all e = parted (pages_of does a) (pages_of does b) (sym (pages_of-append does a b) ∙ e)
  where
    parted : (x y : Option (List MarkedPage)) → both_pages x y ≡ Some all → (pages : List MarkedPage) × (others : List MarkedPage) × (x ≡ Some pages) × (y ≡ Some others) × (all ≡ pages ++ others)
    parted None y e = absurd cc
    parted (Some pages) None e = absurd cc
    parted (Some pages) (Some others) e = let same : pages ++ others ≡ all = cc in (pages, others, refl, refl, sym same)

-- What no leaf, push or pop contains is not in a body.
pub body_has_none : {X : Type 0} (of : Instruction → List X) → ((i : BodyLeaf) → of (Do i) ≡ []) → of Push ≡ [] → of Pop ≡ [] → (f : Forest) → flat_map of (flat f) ≡ []
body_has_none of leaf push pop Empty = refl
body_has_none of leaf push pop (Then i f) = ap (λ here. here ++ flat_map of (flat f)) (leaf i) ∙ body_has_none of leaf push pop f
body_has_none of leaf push pop (Group inner f) =
    ap (λ here. here ++ flat_map of (flat inner ++ (Pop ∷ flat f))) push
    ∙ (flat_map-append of (flat inner) (Pop ∷ flat f)
    ∙ (ap (λ here. here ++ flat_map of (Pop ∷ flat f)) (body_has_none of leaf push pop inner)
    ∙ (ap (λ here. here ++ flat_map of (flat f)) pop ∙ body_has_none of leaf push pop f)))

pub pointers-flat : (f : Forest) → pointers (flat f) ≡ []
pointers-flat f = body_has_none pointer_of (λ i. refl) refl refl f

pub pointers-page : (counts : List ℤ) (pointer : ℤ) (f : Forest) → pointers (instructions (Shows counts pointer f)) ≡ pointer ∷ []
pointers-page counts pointer f =
    ap (λ ps. pointer ∷ ps) (pointers-append (flat f) (Eop ∷ []) ∙ ap (λ ps. ps ++ pointers (Eop ∷ [])) (pointers-flat f))

-- There are as many pages as bops.
pub length-pages : (does : Acts) (parts : List FilePart) (pages : List MarkedPage) → pages_of does parts ≡ Some pages → length (pointers (flat_map instructions parts)) ≡ length pages
length-pages does [] pages e = let same : [] ≡ pages = cc in ap length same
length-pages does (Idle ∷ parts) pages e = length-pages does parts pages e
length-pages does (Defines d ∷ parts) pages e = length-pages does parts pages e
length-pages does (Shows counts pointer body ∷ parts) pages e =
    let after = rest_of (meaning does body start) (pages_of does parts) e in
    ap length (pointers-append (instructions (Shows counts pointer body)) (flat_map instructions parts) ∙ ap (λ ps. ps ++ pointers (flat_map instructions parts)) (pointers-page counts pointer body))
    ∙ (ap suc (length-pages does parts after.0 after.1) ∙ sym after.2)
  where
    rest_of : (m : Meaning) (o : Option (List MarkedPage)) → page_then counts m o ≡ Some pages → (more : List MarkedPage) × (o ≡ Some more) × (length pages ≡ suc (length more))
    rest_of None o e = absurd cc
    rest_of (Some (marks, s)) None e = absurd cc
    rest_of (Some (marks, s)) (Some more) e =
        let page : MarkedPage = record { counts = counts; marks = marks } in let same : page ∷ more ≡ pages = cc in (more, refl, ap length (sym same))
