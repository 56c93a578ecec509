-- What is seen of the pages of a file, one instruction after the other.
use Rattle.std.proofs.Common.{◌≡◌, ◌≢◌, ◌+◌, ◌++◌, if◌then◌else◌, [], ◌∷◌, Bool, true, false, List, codes, decimal, length, map, nat_lt, ℕ, ℤ, Option, Some, None, append-nil, append_assoc, refl, sym, ◌∙◌, ap}
use Rattle.std.specs.List.{flat_map}
use Rattle.std.proofs.lemmas.Grind.{flat_map-append}
use Rattle.std.proofs.lemmas.List.{append_cancel_left, map-append}
use Rattle.scaled_core.specs.Mark.{Mark}
use Rattle.dvi_ops.specs.Body.{Position, DviState, Meaning, Acts, start}
use Rattle.dvi_ops.specs.File.{MarkedPage}
use Rattle.dvi_ops.specs.Instruction.{Nop, FontDef, Instruction, Do, Push, Pop, Bop, Eop}
use Rattle.dvi_scan.specs.Pass.{PassStateView, Between, Inside, execute, passes, then_pass, with_marks}
use Rattle.dvi_read.specs.Listing.{line, mark_line, page_lines, pages_lines}
use Rattle.dvi_read.specs.Seen.{SeenItemView, Counts, Marked, seen_lines, seen_of, seen_on, seen_so_far}

-- What is seen of an instruction comes after what was seen so far.
abbrev pub Grows : PassStateView → PassStateView → Type 0
Grows p q = (more : List SeenItemView) × (seen_so_far q ≡ seen_so_far p ++ more)

stays : (p q : PassStateView) → p ≡ q → Grows p q
stays p q same = ([], sym (ap seen_so_far same) ∙ sym (append-nil (seen_so_far p)))

-- Marks come after the marks of the open page.
pub more_marks : (pages : List MarkedPage) (counts : List ℤ) (marks more : List Mark)
    → seen_of pages ++ (Counts counts ∷ map Marked (marks ++ more)) ≡ (seen_of pages ++ (Counts counts ∷ map Marked marks)) ++ map Marked more
more_marks pages counts marks more =
    ap (λ (ms : List SeenItemView). seen_of pages ++ (Counts counts ∷ ms)) (map-append Marked marks more)
    ∙ sym (append_assoc (seen_of pages) (Counts counts ∷ map Marked marks) (map Marked more))

-- A page that has ended was seen.
pub page_seen : (pages : List MarkedPage) (page : MarkedPage) → seen_of (pages ++ page ∷ []) ≡ seen_of pages ++ seen_on page
page_seen pages page = flat_map-append seen_on pages (page ∷ []) ∙ ap (λ (ss : List SeenItemView). seen_of pages ++ ss) (append-nil (seen_on page))

push_grows : (b : Bool) (pages : List MarkedPage) (counts : List ℤ) (marks : List Mark) (stack more : List Position) (s : DviState) (q : PassStateView)
    → (if b then Some (Inside pages counts marks more s) else None) ≡ Some q → Grows (Inside pages counts marks stack s) q
push_grows true pages counts marks stack more s q e =
    let same : Inside pages counts marks more s ≡ q = cc in ([], sym (ap seen_so_far same) ∙ sym (append-nil (seen_so_far (Inside pages counts marks more s))))
push_grows false pages counts marks stack more s q e = absurd cc

drawn_grows : (pages : List MarkedPage) (counts : List ℤ) (marks : List Mark) (stack : List Position) (s : DviState) (m : Meaning) (q : PassStateView)
    → with_marks pages counts marks stack m ≡ Some q → Grows (Inside pages counts marks stack s) q
drawn_grows pages counts marks stack s None q e = absurd cc
drawn_grows pages counts marks stack s (Some (more, t)) q e =
    let same : Inside pages counts (marks ++ more) stack t ≡ q = cc in (map Marked more, sym (ap seen_so_far same) ∙ more_marks pages counts marks more)

pub turn_grows : (does : Acts) (most : ℕ) (i : Instruction) (p q : PassStateView) → execute does most i p ≡ Some q → Grows p q
turn_grows does most (Do Nop) (Between pages) q e = let same : Between pages ≡ q = cc in stays (Between pages) q same
turn_grows does most (Do (FontDef d)) (Between pages) q e = let same : Between pages ≡ q = cc in stays (Between pages) q same
turn_grows does most (Bop counts pointer) (Between pages) q e =
    let same : Inside pages counts [] [] start ≡ q = cc in (Counts counts ∷ [], sym (ap seen_so_far same))
turn_grows does most i (Between pages) q e = absurd cc
turn_grows does most (Do leaf) (Inside pages counts marks stack s) q e = drawn_grows pages counts marks stack s (does leaf s) q e
turn_grows does most Push (Inside pages counts marks stack s) q e = push_grows (nat_lt (length stack) most) pages counts marks stack (s.place ∷ stack) s q e
turn_grows does most Pop (Inside pages counts marks [] s) q e = absurd cc
turn_grows does most Pop (Inside pages counts marks (p ∷ stack) s) q e =
    let same : Inside pages counts marks stack (record { place = p; font = s.font }) ≡ q = cc in
    ([], sym (ap seen_so_far same) ∙ sym (append-nil (seen_so_far (Inside pages counts marks stack s))))
turn_grows does most Eop (Inside pages counts marks [] s) q e =
    let page : MarkedPage = record { counts = counts; marks = marks } in
    let same : Between (pages ++ page ∷ []) ≡ q = cc in
    ([], sym (ap seen_so_far same) ∙ (page_seen pages page ∙ sym (append-nil (seen_of pages ++ seen_on page))))
turn_grows does most Eop (Inside pages counts marks (p ∷ stack) s) q e = absurd cc
turn_grows does most i (Inside pages counts marks stack s) q e = absurd cc

-- The same for all instructions that are still to come.
pub pass_grows : (does : Acts) (most : ℕ) (is : List Instruction) (p q : PassStateView) → passes does most is p ≡ Some q → Grows p q
pass_grows does most [] p q e = let same : p ≡ q = cc in stays p q same
pass_grows does most (i ∷ is) p q e = by_turn (execute does most i p) refl (λ r later. pass_grows does most is r q later) e
  where
    by_turn : (o : Option PassStateView) → execute does most i p ≡ o → ((r : PassStateView) → passes does most is r ≡ Some q → Grows r q) → then_pass (passes does most is) o ≡ Some q → Grows p q
    by_turn None turn later e = absurd cc
    by_turn (Some r) turn later e =
        let (first, one) = turn_grows does most i p r turn in
        let (more, rest) = later r e in
        (first ++ more, rest ∙ (ap (λ (ss : List SeenItemView). ss ++ more) one ∙ append_assoc (seen_so_far p) first more))

-- The first instruction of a pass that goes on.
pub record Continues (does : Acts) (most : ℕ) (i : Instruction) (is : List Instruction) (p q : PassStateView) : Type 0 where
  pub after : PassStateView
  pub turns : execute does most i p ≡ Some after
  pub later : passes does most is after ≡ Some q

pub first_turn : (does : Acts) (most : ℕ) (i : Instruction) (is : List Instruction) (p q : PassStateView) → passes does most (i ∷ is) p ≡ Some q → Continues does most i is p q
first_turn does most i is p q e = by_turn (execute does most i p) refl e
  where
    by_turn : (o : Option PassStateView) → execute does most i p ≡ o → then_pass (passes does most is) o ≡ Some q → Continues does most i is p q
    by_turn None turn e = absurd cc
    by_turn (Some r) turn e = record { after = r; turns = turn; later = e }

-- The rest of what is seen, where some of it was seen at an instruction.
pub rest_seen : (does : Acts) (most : ℕ) (is : List Instruction) (p after : PassStateView) (all : List MarkedPage) (new seen : List SeenItemView)
    → passes does most is after ≡ Some (Between all)
    → seen_of all ≡ seen_so_far p ++ seen → seen_so_far after ≡ seen_so_far p ++ new → (rest : List SeenItemView) × (seen ≡ new ++ rest)
    × (seen_of all ≡ seen_so_far after ++ rest)
rest_seen does most is p after all new seen later seen_is new_is =
    let (rest, rest_is) = pass_grows does most is after (Between all) later in
    let whole : seen_so_far p ++ seen ≡ seen_so_far p ++ (new ++ rest) =
    sym seen_is ∙ (rest_is ∙ (ap (λ (ss : List SeenItemView). ss ++ rest) new_is ∙ append_assoc (seen_so_far p) new rest)) in
    (rest, append_cancel_left (seen_so_far p) seen (new ++ rest) whole, rest_is)

-- Between pages an instruction that is accepted changes nothing, if it begins no page.
pub idle_turn : (does : Acts) (most : ℕ) (i : Instruction) (pages : List MarkedPage) (q : PassStateView) → ((counts : List ℤ) (pointer : ℤ) → i ≢ Bop counts pointer) → execute does most i (Between pages) ≡ Some q
    → Between pages ≡ q
idle_turn does most (Do Nop) pages q other e = cc
idle_turn does most (Do (FontDef d)) pages q other e = cc
idle_turn does most (Bop counts pointer) pages q other e = absurd (other counts pointer refl)
idle_turn does most i pages q other e = absurd cc

-- An eop that is accepted ends the page.
pub end_turn : (does : Acts) (most : ℕ) (pages : List MarkedPage) (counts : List ℤ) (marks : List Mark) (stack : List Position) (s : DviState) (q : PassStateView)
    → execute does most Eop (Inside pages counts marks stack s) ≡ Some q → q ≡ Between (pages ++ record { counts = counts; marks = marks } ∷ [])
end_turn does most pages counts marks [] s q e = cc
end_turn does most pages counts marks (p ∷ stack) s q e = absurd cc

-- The counts of an open page stay.
abbrev pub counts_or : List ℤ → PassStateView → List ℤ
counts_or counts (Between pages) = counts
counts_or counts (Inside pages found marks stack s) = found

same_counts : (counts : List ℤ) (p q : PassStateView) → counts_or counts p ≡ counts → p ≡ q → counts_or counts q ≡ counts
same_counts counts p q here same = sym (ap (counts_or counts) same) ∙ here

pub counts_stay : (does : Acts) (most : ℕ) (i : Instruction) (pages : List MarkedPage) (counts : List ℤ) (marks : List Mark) (stack : List Position) (s : DviState) (q : PassStateView)
    → execute does most i (Inside pages counts marks stack s) ≡ Some q → counts_or counts q ≡ counts
counts_stay does most (Do leaf) pages counts marks stack s q e = by_meaning (does leaf s) e
  where
    by_meaning : (m : Meaning) → with_marks pages counts marks stack m ≡ Some q → counts_or counts q ≡ counts
    by_meaning None e = absurd cc
    by_meaning (Some (more, t)) e = let same : Inside pages counts (marks ++ more) stack t ≡ q = cc in same_counts counts (Inside pages counts (marks ++ more) stack t) q refl same
counts_stay does most Push pages counts marks stack s q e = by_test (nat_lt (length stack) most) e
  where
    by_test : (b : Bool) → (if b then Some (Inside pages counts marks (s.place ∷ stack) s) else None) ≡ Some q → counts_or counts q ≡ counts
    by_test true e = let same : Inside pages counts marks (s.place ∷ stack) s ≡ q = cc in same_counts counts (Inside pages counts marks (s.place ∷ stack) s) q refl same
    by_test false e = absurd cc
counts_stay does most Pop pages counts marks [] s q e = absurd cc
counts_stay does most Pop pages counts marks (p ∷ stack) s q e =
    let same : Inside pages counts marks stack (record { place = p; font = s.font }) ≡ q = cc in same_counts counts (Inside pages counts marks stack (record { place = p; font = s.font })) q refl same
counts_stay does most Eop pages counts marks [] s q e =
    let same : Between (pages ++ record { counts = counts; marks = marks } ∷ []) ≡ q = cc in same_counts counts (Between (pages ++ record { counts = counts; marks = marks } ∷ [])) q refl same
counts_stay does most Eop pages counts marks (p ∷ stack) s q e = absurd cc
counts_stay does most i pages counts marks stack s q e = absurd cc

-- The lines of what is seen of all pages are those of the listing.
marks_lines : (number : ℕ) (marks : List Mark) (rest : List SeenItemView)
    → seen_lines number (map Marked marks ++ rest) ≡ flat_map mark_line marks ++ seen_lines number rest
marks_lines number [] rest = refl
marks_lines number (mark ∷ marks) rest =
    ap (λ (bs : List ℕ). mark_line mark ++ bs) (marks_lines number marks rest) ∙ sym (append_assoc (mark_line mark) (flat_map mark_line marks) (seen_lines number rest))

pub pages_seen : (number : ℕ) (pages : List MarkedPage) → seen_lines number (seen_of pages) ≡ pages_lines number pages
unfolding page_lines
pages_seen number [] = refl
pages_seen number (page ∷ pages) =
    let counts = line (codes "page " ++ (decimal number ++ codes " counts")) page.counts in
    ap (λ (bs : List ℕ). counts ++ bs) (marks_lines (number + 1) page.marks (seen_of pages) ∙ ap (λ (bs : List ℕ). flat_map mark_line page.marks ++ bs) (pages_seen (number + 1) pages))
    ∙ sym (append_assoc counts (flat_map mark_line page.marks) (pages_lines (number + 1) pages))
