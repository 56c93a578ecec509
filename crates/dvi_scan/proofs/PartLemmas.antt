-- The pass over parts gives their pages, and instructions that the pass accepts are parts.
use Rattle.std.proofs.Common.{◌≡◌, ◌≤◌, ◌<◌, ◌+◌, ◌++◌, [], ◌∷◌, List, length, ℕ, ℤ, Bool, true, false, cond, nat_lt, Option, Some, None, refl, sym, ◌∙◌, ap, ap₂, subst, append_assoc, append-nil, arith}
use Rattle.std.proofs.lemmas.Bool.{lt-ltb, ltb-true}
use Rattle.std.specs.List.{AllByRecursion, flat_map}
use Rattle.dvi_ops.specs.Instruction.{BodyLeaf, Nop, FontDef, Instruction, Do, Push, Pop, Bop, Eop}
use Rattle.dvi_ops.specs.Body.{Position, DviState, Meaning, Acts, start}
use Rattle.scaled_core.specs.Mark.{Mark}
use Rattle.dvi_ops.specs.Forest.{Forest, Empty, Then, Group, flat, meaning, nests, and_then, marks_before, restored_meaning}
use Rattle.dvi_ops.specs.File.{FilePart, Idle, Defines, Shows, instructions, MarkedPage, page_then, pages_of, push_depth_of}
use Rattle.dvi_scan.specs.Pass.{PassStateView, Between, Inside, with_marks, execute, then_pass, passes}

-- The pass over two lists.
pub passes-append : (does : Acts) (most : ℕ) (is js : List Instruction) (p q : PassStateView) → passes does most is p ≡ Some q → passes does most (is ++ js) p ≡ passes does most js q
passes-append does most [] js p q e = let same : p ≡ q = cc in ap (passes does most js) same
passes-append does most (i ∷ is) js p q e = step (λ r. passes-append does most is js r q) (execute does most i p) e
  where
    step : ((r : PassStateView) → passes does most is r ≡ Some q → passes does most (is ++ js) r ≡ passes does most js q) → (o : Option PassStateView) → then_pass (passes does most is) o ≡ Some q → then_pass (passes does most (is ++ js)) o ≡ passes does most js q
    step next None e = absurd cc
    step next (Some r) e = next r e

pub passes-none : (does : Acts) (most : ℕ) (is js : List Instruction) (p : PassStateView) → passes does most is p ≡ None → passes does most (is ++ js) p ≡ None
passes-none does most [] js p e = absurd cc
passes-none does most (i ∷ is) js p e = step (λ r. passes-none does most is js r) (execute does most i p) e
  where
    step : ((r : PassStateView) → passes does most is r ≡ None → passes does most (is ++ js) r ≡ None) → (o : Option PassStateView) → then_pass (passes does most is) o ≡ None → then_pass (passes does most (is ++ js)) o ≡ None
    step next None e = refl
    step next (Some r) e = next r e

-- Two meanings that are equal.
same_out : (a b : List Mark) (s t : DviState) → ◌≡◌ {A = Meaning} (Some (a, s)) (Some (b, t)) → (a ≡ b) × (s ≡ t)
same_out a b s t e =
    let pair : ◌≡◌ {A = List Mark × DviState} (a, s) (b, t) = cc in (ap (λ (p : List Mark × DviState). p.0) pair, ap (λ (p : List Mark × DviState). p.1) pair)

-- The pass over a body, and then over the rest.
pub passes-flat : (does : Acts) (most : ℕ) (f : Forest) (rest : List Instruction) (pages : List MarkedPage) (counts : List ℤ) (marks more : List Mark) (stack : List Position) (s t : DviState)
    → meaning does f s ≡ Some (more, t) → nests f + length stack ≤ most
    → passes does most (flat f ++ rest) (Inside pages counts marks stack s) ≡ passes does most rest (Inside pages counts (marks ++ more) stack t)
passes-flat does most Empty rest pages counts marks more stack s t e deep =
    let (none, same) = same_out [] more s t e in
    ap₂ (λ (m : List Mark) (u : DviState). passes does most rest (Inside pages counts m stack u)) (sym (append-nil marks) ∙ ap (λ (m : List Mark). marks ++ m) none) same
passes-flat does most (Then i f) rest pages counts marks more stack s t e deep =
    step (λ front later u w is. passes-flat does most f rest pages counts front later stack u w is deep) (does i s) e
  where
    step : ((front later : List Mark) (u w : DviState) → meaning does f u ≡ Some (later, w)
        → passes does most (flat f ++ rest) (Inside pages counts front stack u) ≡ passes does most rest (Inside pages counts (front ++ later) stack w)) → (m : Meaning) → and_then m (λ u. meaning does f u) ≡ Some (more, t)
        → then_pass (passes does most (flat f ++ rest)) (with_marks pages counts marks stack m) ≡ passes does most rest (Inside pages counts (marks ++ more) stack t)
    step next None e = absurd cc
    step next (Some (here, u)) e = after (meaning does f u) refl e
      where
        after : (m : Meaning) → meaning does f u ≡ m → marks_before here m ≡ Some (more, t)
            → passes does most (flat f ++ rest) (Inside pages counts (marks ++ here) stack u) ≡ passes does most rest (Inside pages counts (marks ++ more) stack t)
        after None is e = absurd cc
        after (Some (later, w)) is e =
            let (all, same) = same_out (here ++ later) more w t e in
            next (marks ++ here) later u w is
            ∙ ap₂ (λ (m : List Mark) (u : DviState). passes does most rest (Inside pages counts m stack u)) (append_assoc marks here later ∙ ap (λ (m : List Mark). marks ++ m) all) same
passes-flat does most (Group inner f) rest pages counts marks more stack s t e deep =
    let space : length stack < most = omega arith in
    let wide : nat_lt (length stack) most ≡ true = lt-ltb (length stack) most space in
    rw wide
    (ap (λ is. passes does most is (Inside pages counts marks (s.place ∷ stack) s)) (append_assoc (flat inner) (Pop ∷ flat f) rest)
    ∙ within (λ here u is. passes-flat does most inner (Pop ∷ (flat f ++ rest)) pages counts marks here (s.place ∷ stack) s u is (omega arith))
    (λ front later u w is. passes-flat does most f rest pages counts front later stack u w is (omega arith)) (meaning does inner s) refl e)
  where
    within : ((here : List Mark) (u : DviState) → meaning does inner s ≡ Some (here, u)
        → passes does most (flat inner ++ (Pop ∷ (flat f ++ rest))) (Inside pages counts marks (s.place ∷ stack) s) ≡ passes does most (Pop ∷ (flat f ++ rest)) (Inside pages counts (marks ++ here) (s.place ∷ stack) u))
        → ((front later : List Mark) (u w : DviState) → meaning does f u ≡ Some (later, w)
        → passes does most (flat f ++ rest) (Inside pages counts front stack u) ≡ passes does most rest (Inside pages counts (front ++ later) stack w)) → (m : Meaning) → meaning does inner s ≡ m → and_then (restored_meaning s.place m) (λ u. meaning does f u) ≡ Some (more, t)
        → passes does most (flat inner ++ (Pop ∷ (flat f ++ rest))) (Inside pages counts marks (s.place ∷ stack) s) ≡ passes does most rest (Inside pages counts (marks ++ more) stack t)
    within first next None is e = absurd cc
    within first next (Some (here, u)) is e =
        first here u is
        ∙ after (meaning does f (record { place = s.place; font = u.font })) refl e
      where
        after : (m : Meaning) → meaning does f (record { place = s.place; font = u.font }) ≡ m → marks_before here m ≡ Some (more, t)
            → passes does most (flat f ++ rest) (Inside pages counts (marks ++ here) stack (record { place = s.place; font = u.font })) ≡ passes does most rest (Inside pages counts (marks ++ more) stack t)
        after None is e = absurd cc
        after (Some (later, w)) is e =
            let (all, same) = same_out (here ++ later) more w t e in
            next (marks ++ here) later (record { place = s.place; font = u.font }) w is
            ∙ ap₂ (λ (m : List Mark) (u : DviState). passes does most rest (Inside pages counts m stack u)) (append_assoc marks here later ∙ ap (λ (m : List Mark). marks ++ m) all) same

-- The pass over parts, after some pages.
pub passes-parts : (does : Acts) (most : ℕ) (parts : List FilePart) (before pages : List MarkedPage) → pages_of does parts ≡ Some pages
    → AllByRecursion (λ part. push_depth_of part ≤ most) parts → passes does most (flat_map instructions parts) (Between before) ≡ Some (Between (before ++ pages))
passes-parts does most [] before pages e deep =
    let none : [] ≡ pages = cc in ap (λ (all : List MarkedPage). Some (Between all)) (sym (append-nil before) ∙ ap (λ (all : List MarkedPage). before ++ all) none)
passes-parts does most (Idle ∷ rest) before pages e (here, deep) = passes-parts does most rest before pages e deep
passes-parts does most (Defines d ∷ rest) before pages e (here, deep) = passes-parts does most rest before pages e deep
passes-parts does most (Shows counts pointer body ∷ rest) before pages e (here, deep) =
    shown (λ first more other. passes-parts does most rest first more other deep) (meaning does body start) refl (pages_of does rest) refl e
  where
    shown : ((first more : List MarkedPage) → pages_of does rest ≡ Some more → passes does most (flat_map instructions rest) (Between first) ≡ Some (Between (first ++ more))) → (m : Meaning) → meaning does body start ≡ m → (o : Option (List MarkedPage)) → pages_of does rest ≡ o → page_then counts m o ≡ Some pages
        → passes does most ((flat body ++ Eop ∷ []) ++ flat_map instructions rest) (Inside before counts [] [] start) ≡ Some (Between (before ++ pages))
    shown next None is o other e = absurd cc
    shown next (Some (marks, t)) is None other e = absurd cc
    shown next (Some (marks, t)) is (Some more) other e =
        let page : MarkedPage = record { counts = counts; marks = marks } in
        let all : page ∷ more ≡ pages = cc in
        ap (λ is. passes does most is (Inside before counts [] [] start)) (append_assoc (flat body) (Eop ∷ []) (flat_map instructions rest))
        ∙ (passes-flat does most body (Eop ∷ flat_map instructions rest) before counts [] marks [] start t is (omega arith)
        ∙ (next (before ++ page ∷ []) more other
        ∙ ap (λ (all : List MarkedPage). Some (Between all)) (append_assoc before (page ∷ []) more ∙ ap (λ (all : List MarkedPage). before ++ all) all)))

-- The parts that follow some pages.
pub record Found (does : Acts) (most : ℕ) (is : List Instruction) (before all : List MarkedPage) : Type 0 where
  pub parts : List FilePart
  pub pages : List MarkedPage
  pub whole : is ≡ flat_map instructions parts
  pub shows : pages_of does parts ≡ Some pages
  pub deep : AllByRecursion (λ part. push_depth_of part ≤ most) parts
  pub ends : all ≡ before ++ pages

-- The end of a page in which some pushes are open.
Closes : Acts → (most : ℕ) → List Instruction → (before all : List MarkedPage) → (counts : List ℤ) → (marks : List Mark) → (stack : List Position) → DviState → Type 0
Closes does most is before all counts marks [] s =
    (f : Forest) × (rest : List Instruction) × (more : List Mark) × (t : DviState) × (is ≡ flat f ++ (Eop ∷ rest)) × (meaning does f s ≡ Some (more, t)) × (nests f ≤ most)
    × Found does most rest (before ++ record { counts = counts; marks = marks ++ more } ∷ []) all
Closes does most is before all counts marks (p ∷ stack) s =
    (f : Forest) × (rest : List Instruction) × (more : List Mark) × (t : DviState) × (is ≡ flat f ++ (Pop ∷ rest)) × (meaning does f s ≡ Some (more, t)) × (nests f + length (p ∷ stack) ≤ most)
    × Closes does most rest before all counts (marks ++ more) stack (record { place = p; font = t.font })

-- The marks of a body that begins with an instruction, or with a group.
then_means : (does : Acts) (i : BodyLeaf) (f : Forest) (s u : DviState) (here more : List Mark) (t : DviState) → does i s ≡ Some (here, u) → meaning does f u ≡ Some (more, t)
    → meaning does (Then i f) s ≡ Some (here ++ more, t)
then_means does i f s u here more t is means = rw is (rw means refl)

group_means : (does : Acts) (inner f : Forest) (s u : DviState) (here more : List Mark) (t : DviState) → meaning does inner s ≡ Some (here, u)
    → meaning does f (record { place = s.place; font = u.font }) ≡ Some (more, t) → meaning does (Group inner f) s ≡ Some (here ++ more, t)
group_means does inner f s u here more t is means = rw is (rw means refl)

page_with : List ℤ → List Mark → MarkedPage
page_with counts marks = record { counts = counts; marks = marks }

-- One instruction before the end of a page.
then_closes : (does : Acts) (most : ℕ) (i : BodyLeaf) (is : List Instruction) (before all : List MarkedPage) (counts : List ℤ) (marks here : List Mark) (stack : List Position) (s u : DviState)
    → does i s ≡ Some (here, u) → Closes does most is before all counts (marks ++ here) stack u → Closes does most (Do i ∷ is) before all counts marks stack s
unfolding Closes page_with
then_closes does most i is before all counts marks here [] s u act (f, rest, more, t, whole, means, deep, found) = (
  Then i f,
  rest,
  here ++ more,
  t,
  ap (λ is. Do i ∷ is) whole,
  then_means does i f s u here more t act means,
  deep,
  subst (λ (m : List Mark). Found does most rest (before ++ page_with counts m ∷ []) all) (append_assoc marks here more) found,
)
then_closes does most i is before all counts marks here (p ∷ stack) s u act (f, rest, more, t, whole, means, deep, found) = (
  Then i f,
  rest,
  here ++ more,
  t,
  ap (λ is. Do i ∷ is) whole,
  then_means does i f s u here more t act means,
  deep,
  subst (λ (m : List Mark). Closes does most rest before all counts m stack (record { place = p; font = t.font })) (append_assoc marks here more) found,
)

-- A group before the end of a page.
group_closes : (does : Acts) (most : ℕ) (is : List Instruction) (before all : List MarkedPage) (counts : List ℤ) (marks : List Mark) (stack : List Position) (s : DviState)
    → Closes does most is before all counts marks (s.place ∷ stack) s → Closes does most (Push ∷ is) before all counts marks stack s
unfolding Closes page_with
group_closes does most is before all counts marks [] s (inner, rest, here, u, whole, means, deep, (f, rest', more, t, whole', means', deep', found)) = (
  Group inner f,
  rest',
  here ++ more,
  t,
  ap (λ is. Push ∷ is) (whole ∙ (ap (λ is. flat inner ++ (Pop ∷ is)) whole' ∙ sym (append_assoc (flat inner) (Pop ∷ flat f) (Eop ∷ rest')))),
  group_means does inner f s u here more t means means',
  omega arith,
  subst (λ (m : List Mark). Found does most rest' (before ++ page_with counts m ∷ []) all) (append_assoc marks here more) found,
)
group_closes does most is before all counts marks (p ∷ stack) s (inner, rest, here, u, whole, means, deep, (f, rest', more, t, whole', means', deep', found)) = (
  Group inner f,
  rest',
  here ++ more,
  t,
  ap (λ is. Push ∷ is) (whole ∙ (ap (λ is. flat inner ++ (Pop ∷ is)) whole' ∙ sym (append_assoc (flat inner) (Pop ∷ flat f) (Pop ∷ rest')))),
  group_means does inner f s u here more t means means',
  omega arith,
  subst (λ (m : List Mark). Closes does most rest' before all counts m stack (record { place = p; font = t.font })) (append_assoc marks here more) found,
)

-- The rest, by the state of the pass.
Rests : Acts → (most : ℕ) → List Instruction → PassStateView → (all : List MarkedPage) → Type 0
Rests does most is (Between before) all = Found does most is before all
Rests does most is (Inside before counts marks stack s) all = Closes does most is before all counts marks stack s

-- No more pushes are open than allowed.
pub IsShallow : (most : ℕ) → PassStateView → Type 0
IsShallow most (Between pages) = Unit {0}
IsShallow most (Inside pages counts marks stack s) = length stack ≤ most

rests : (does : Acts) (most : ℕ) (is : List Instruction) (p : PassStateView) (all : List MarkedPage) → IsShallow most p → passes does most is p ≡ Some (Between all) → Rests does most is p all
unfolding Rests Closes IsShallow page_with
rests does most [] (Between before) all shallow e =
    let same : before ≡ all = cc in record { parts = []; pages = []; whole = refl; shows = refl; deep = tt; ends = sym same ∙ sym (append-nil before) }
rests does most [] (Inside before counts marks stack s) all shallow e = absurd cc
rests does most (Do Nop ∷ is) (Between before) all shallow e =
    let found = rests does most is (Between before) all tt e in
    record { parts = Idle ∷ found.parts; pages = found.pages; whole = ap (λ is. Do Nop ∷ is) found.whole; shows = found.shows; deep = (omega arith, found.deep); ends = found.ends }
rests does most (Do (FontDef d) ∷ is) (Between before) all shallow e =
    let found = rests does most is (Between before) all tt e in
    record { parts = Defines d ∷ found.parts; pages = found.pages; whole = ap (λ is. Do (FontDef d) ∷ is) found.whole; shows = found.shows; deep = (omega arith, found.deep); ends = found.ends }
rests does most (Bop counts pointer ∷ is) (Between before) all shallow e =
    let (f, rest, more, t, whole, means, deep, found) = rests does most is (Inside before counts [] [] start) all (omega arith) e in
    record {
      parts = Shows counts pointer f ∷ found.parts;
      pages = page_with counts more ∷ found.pages;
      whole = ap (λ is. Bop counts pointer ∷ is) (whole ∙ (ap (λ is. flat f ++ (Eop ∷ is)) found.whole ∙ sym (append_assoc (flat f) (Eop ∷ []) (flat_map instructions found.parts))));
      shows = rw means (rw (found.shows) refl);
      deep = (deep, found.deep);
      ends = found.ends ∙ append_assoc before (page_with counts more ∷ []) found.pages;
    }
rests does most (i ∷ is) (Between before) all shallow e = absurd cc
rests does most (Do leaf ∷ is) (Inside before counts marks stack s) all shallow e =
    step (λ here u e. rests does most is (Inside before counts (marks ++ here) stack u) all shallow e) (does leaf s) refl e
  where
    step : ((here : List Mark) (u : DviState) → passes does most is (Inside before counts (marks ++ here) stack u) ≡ Some (Between all) → Closes does most is before all counts (marks ++ here) stack u)
        → (m : Meaning) → does leaf s ≡ m → then_pass (passes does most is) (with_marks before counts marks stack m) ≡ Some (Between all) → Closes does most (Do leaf ∷ is) before all counts marks stack s
    step next None act e = absurd cc
    step next (Some (here, u)) act e = then_closes does most leaf is before all counts marks here stack s u act (next here u e)
rests does most (Push ∷ is) (Inside before counts marks stack s) all shallow e =
    step (λ space e. rests does most is (Inside before counts marks (s.place ∷ stack) s) all space e) (nat_lt (length stack) most) refl e
  where
    step : (length (s.place ∷ stack) ≤ most → passes does most is (Inside before counts marks (s.place ∷ stack) s) ≡ Some (Between all) → Closes does most is before all counts marks (s.place ∷ stack) s)
        → (b : Bool) → nat_lt (length stack) most ≡ b → then_pass (passes does most is) (cond b (Some (Inside before counts marks (s.place ∷ stack) s)) None) ≡ Some (Between all)
        → Closes does most (Push ∷ is) before all counts marks stack s
    step next false test e = absurd cc
    step next true test e =
        let space = ltb-true (length stack) most test in
        group_closes does most is before all counts marks stack s (next (omega arith) e)
rests does most (Pop ∷ is) (Inside before counts marks [] s) all shallow e = absurd cc
rests does most (Pop ∷ is) (Inside before counts marks (p ∷ stack) s) all shallow e =
    let rest = rests does most is (Inside before counts marks stack (record { place = p; font = s.font })) all (omega arith) e in
    (Empty, is, [], s, refl, refl, omega arith, subst (λ (m : List Mark). Closes does most is before all counts m stack (record { place = p; font = s.font })) (sym (append-nil marks)) rest)
rests does most (Eop ∷ is) (Inside before counts marks [] s) all shallow e =
    let rest = rests does most is (Between (before ++ page_with counts marks ∷ [])) all tt e in
    (Empty, is, [], s, refl, refl, omega arith, subst (λ (m : List Mark). Found does most is (before ++ page_with counts m ∷ []) all) (sym (append-nil marks)) rest)
rests does most (Eop ∷ is) (Inside before counts marks (p ∷ stack) s) all shallow e = absurd cc
rests does most (i ∷ is) (Inside before counts marks stack s) all shallow e = absurd cc

pub passed_parts : (does : Acts) (most : ℕ) (is : List Instruction) (pages : List MarkedPage) → passes does most is (Between []) ≡ Some (Between pages)
    → (parts : List FilePart) × (is ≡ flat_map instructions parts) × (pages_of does parts ≡ Some pages) × AllByRecursion (λ part. push_depth_of part ≤ most) parts
unfolding Rests IsShallow
passed_parts does most is pages e =
    let found = rests does most is (Between []) pages tt e in
    (found.parts, found.whole, found.shows ∙ ap (λ (p : List MarkedPage). Some p) (sym found.ends), found.deep)
