-- Bytes that break a rule of the end or of the chain are no file.
use Rattle.std.proofs.Common.{◌≡◌, ◌+◌, ◌-◌, ◌%◌, ◌++◌, [], ◌∷◌, List, ℕ, ℤ, pos, negsuc, map, reverse, length, drop, slice_index, refl, sym, ◌∙◌, ap, subst, subst₂, append-nil, arith}
use Rattle.std.proofs.lemmas.List.{length-reverse}
use Rattle.std.specs.List.{AllByRecursion}
use Rattle.dvi_ops.specs.Instruction.{Postamble, Post}
use Rattle.dvi_ops.specs.Table.{signed}
use Rattle.dvi_ops.specs.Tokens.{Token, IsSpelled, token_instructions, token_bytes, places, pointers}
use Rattle.dvi_ops.specs.Body.{instruction_acts, bounded_acts}
use Rattle.dvi_ops.specs.File.{Frame, IsFile, MarkedPage}
use Rattle.dvi_ops.specs.Fonts.{WidthsByName, definitions, widths_of}
use Rattle.dvi_ops.proofs.Appends.{length-places, length-pages}
use Rattle.dvi_scan.specs.declared.fault.DviCause.{DviCause}
use Rattle.dvi_scan.specs.declared.fault.DviCause.TheVariants.{Trailer, Version, Opcode, Pointer, Count}
use Rattle.dvi_scan.specs.Ends.{IsSpelledAt, HasPostamble, BreaksEnd}
use Rattle.dvi_scan.specs.Chain.{Links, BreaksChain}
use Rattle.dvi_scan.proofs.EndLemmas.{one_trail, one_end, frame_ends}
use Rattle.dvi_scan.proofs.LinkLemmas.{linked_from, chained_from, one_chain, broken_chain}

-- A broken rule of the end.
pub breaks_end : (bytes : List ℕ) (place : ℕ) (cause : DviCause) (post e : ℕ) (postamble : Postamble) → HasPostamble bytes post e postamble
    → BreaksEnd bytes place cause → ⊥
breaks_end bytes place Trailer post e postamble ends (at, none) = none e ends.closed.trailed
breaks_end bytes place Version post e postamble ends (trailed, other) =
    let same : place ≡ e = one_trail bytes place e trailed ends.closed.trailed in
    other (subst (λ (n : ℕ). slice_index bytes n ≡ 2) (sym same) ends.closed.version)
breaks_end bytes place Opcode post e postamble ends (trailed, version, other) =
    let same : place + 5 ≡ e = one_trail bytes (place + 5) e trailed ends.closed.trailed in
    let back : e - 5 ≡ place = omega arith in
    other (subst (λ (n : ℕ). slice_index bytes n ≡ 249) back ends.closed.opcode)
breaks_end bytes place Pointer post e postamble ends (closed, none) =
    let same : place + 4 ≡ e = one_trail bytes (place + 4) e closed.trailed ends.closed.trailed in
    let back : e - 4 ≡ place = omega arith in
    let before : e - 5 ≡ place - 1 = omega arith in
    none post postamble (subst (λ (n : ℕ). signed 4 (drop n bytes) ≡ pos post) back ends.named)
    (subst (λ (n : ℕ). IsSpelledAt bytes post n (Post postamble)) before ends.spelled_at)
breaks_end bytes place cause post e postamble ends broken = absurd broken

pub end_fault : (bytes : List ℕ) (place : ℕ) (cause : DviCause) → BreaksEnd bytes place cause → Frame bytes → ⊥
end_fault bytes place cause broken f =
    let found = frame_ends bytes f in breaks_end bytes place cause (length (token_bytes f.front)) found.0 f.postamble found.1 broken

-- The chain from the first bop to the last.
pub linked : (bytes : List ℕ) (front : List Token) (rest : List ℕ) (last : ℤ) → bytes ≡ token_bytes front ++ rest → AllByRecursion IsSpelled front
    → pointers (token_instructions front) ++ last ∷ [] ≡ negsuc 0 ∷ map pos (places 0 front) → Links bytes (length (token_bytes front)) last (reverse (places 0 front))
linked bytes front rest last whole spelled e =
    let all = linked_from bytes [] front rest (negsuc 0) last [] whole spelled e refl in
    let size : 0 + length (token_bytes front) ≡ length (token_bytes front) = omega arith in
    subst₂ (λ (n : ℕ) (c : List ℕ). Links bytes n last c) size (append-nil (reverse (places 0 front))) all

pub chained : (bytes : List ℕ) (front : List Token) (rest : List ℕ) (bound : ℕ) (last : ℤ) → bytes ≡ token_bytes front ++ rest → AllByRecursion IsSpelled front
    → Links bytes bound last (reverse (places 0 front)) → pointers (token_instructions front) ++ last ∷ [] ≡ negsuc 0 ∷ map pos (places 0 front)
chained bytes front rest bound last whole spelled links =
    let found = chained_from bytes [] front rest bound last [] whole spelled (subst (λ (c : List ℕ). Links bytes bound last c) (sym (append-nil (reverse (places 0 front)))) links) in
    let start : found.pointer ≡ negsuc 0 = found.links in
    found.equation ∙ ap (λ (z : ℤ). z ∷ map pos (places 0 front)) start

-- The chain of a file.
pub file_chain : (metrics : WidthsByName) (bytes : List ℕ) (pages : List MarkedPage) (f : IsFile metrics bytes pages)
    → Links bytes (length (token_bytes f.frame.front)) f.frame.postamble.last_bop (reverse (places 0 f.frame.front))
file_chain metrics bytes pages f = linked bytes f.frame.front _ f.frame.postamble.last_bop f.frame.whole f.frame.front_spelled f.chain

pub file_count : (metrics : WidthsByName) (bytes : List ℕ) (pages : List MarkedPage) (f : IsFile metrics bytes pages)
    → f.frame.postamble.pages ≡ length (places 0 f.frame.front) % 65536
file_count metrics bytes pages f =
    let bops = length-pages (bounded_acts (instruction_acts (widths_of metrics (definitions (token_instructions f.frame.tail))))) f.parts pages f.shows in
    let same : length (places 0 f.frame.front) ≡ length pages = length-places 0 f.frame.front ∙ (ap (λ is. length (pointers is)) f.front_is ∙ bops) in
    f.count ∙ ap (λ n. n % 65536) (sym same)

-- A broken rule of the chain.
pub breaks_chain : (bytes : List ℕ) (post place : ℕ) (postamble : Postamble) (cause : DviCause) (chain : List ℕ)
    → BreaksChain bytes post postamble place cause → Links bytes post postamble.last_bop chain
    → postamble.pages ≡ length chain % 65536 → ⊥
breaks_chain bytes post place postamble Pointer chain broken links count =
    broken_chain bytes (post + 1) post postamble.last_bop place chain broken links
breaks_chain bytes post place postamble Count chain (at, other_chain, links', other) links count =
    let same : other_chain ≡ chain = one_chain bytes post post postamble.last_bop other_chain chain links' links in
    other (count ∙ ap (λ (c : List ℕ). length c % 65536) (sym same))
breaks_chain bytes post place postamble cause chain broken links count = absurd broken

-- The same in a file.
pub chain_fault : (metrics : WidthsByName) (bytes : List ℕ) (pages : List MarkedPage) (post e place : ℕ) (postamble : Postamble) (cause : DviCause)
    → HasPostamble bytes post e postamble → BreaksChain bytes post postamble place cause → IsFile metrics bytes pages → ⊥
chain_fault metrics bytes pages post e place postamble cause ends broken f =
    let found = frame_ends bytes f.frame in
    let (last, posts, nothing_idle) = one_end bytes post e (length (token_bytes f.frame.front)) found.0 postamble f.frame.postamble ends found.1 in
    let links : Links bytes post postamble.last_bop (reverse (places 0 f.frame.front)) =
    subst₂ (λ (n : ℕ) (s : Postamble). Links bytes n s.last_bop (reverse (places 0 f.frame.front))) (sym posts) (sym nothing_idle)
    (file_chain metrics bytes pages f) in
    let count : postamble.pages ≡ length (reverse (places 0 f.frame.front)) % 65536 =
    ap (λ (s : Postamble). s.pages) nothing_idle
    ∙ (file_count metrics bytes pages f ∙ ap (λ n. n % 65536) (sym (length-reverse (places 0 f.frame.front)))) in
    breaks_chain bytes post place postamble cause (reverse (places 0 f.frame.front)) broken links count
