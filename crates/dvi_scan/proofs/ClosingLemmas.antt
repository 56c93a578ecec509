-- The instructions between post and post_post, one by one.
use Rattle.std.proofs.Common.{◌≡◌, ◌≤◌, ◌<◌, ◌+◌, ◌-◌, ◌++◌, [], ◌∷◌, List, length, take, drop, ℕ, refl, sym, ◌∙◌, ap, ap₂, subst, subst₂, inl, inr, append_assoc, append-nil, length-append, arith}
use Rattle.std.proofs.lemmas.List.{take-take, take_at, drop-drop, length-drop, length-take-le}
use Rattle.std.specs.List.{AllByRecursion}
use Rattle.dvi_ops.specs.Instruction.{Definition, FontDef, Instruction, Do}
use Rattle.dvi_ops.specs.File.{IsIdle}
use Rattle.dvi_ops.specs.Fonts.{FontsAreRight, IsRightAfter, IsFontSize, definitions_in, definitions, known_after}
use Rattle.dvi_ops.specs.Table.{Spells}
use Rattle.dvi_ops.specs.Tokens.{Token, IsSpelled, token_instructions, token_bytes}
use Rattle.scaled_core.proofs.EachOf.{all_append, all_back}
use Rattle.dvi_ops.proofs.Appends.{says-append, written-append, definitions-append, fonts_append, fonts_back}
use Rattle.dvi_ops.proofs.Frames.{begins}
use Rattle.dvi_scan.specs.Ends.{IsSpelledAt}
use Rattle.dvi_scan.specs.declared.fault.BadDvi.{BadDvi}
use Rattle.dvi_scan.specs.declared.fault.DviCause.{DviCause}
use Rattle.dvi_scan.specs.declared.fault.DviCause.TheVariants.{Opcode, Truncated, Font}
use Rattle.dvi_scan.specs.declared.fault.FrameFault.{FrameFault}
use Rattle.dvi_scan.specs.declared.fault.FrameFault.TheVariants.{OutOfMemory, Bad}
use Rattle.dvi_scan.proofs.PlaceLemmas.{one_spelled_at}
use Rattle.dvi_scan.specs.Known.{HasSame}
use Rattle.dvi_scan.specs.Execution.{fault_at}
use Rattle.dvi_scan.specs.declared.executing.PassFault.{PassFault}
use Rattle.dvi_scan.specs.declared.executing.PassFault.TheVariants as faults
use Rattle.dvi_scan.specs.Closing.{BreaksClosing, Closes, ClosesTo, IsClosingFault, IsDefinitionFault}
use Rattle.dvi_scan.specs.Private.Closing.{ClosesOne, IsFaultAt}
use Rattle.dvi_scan.proofs.KnownLemmas.{same_after, same_right, same_self, same_sym}
use Rattle.dvi_scan.proofs.ReachedLemmas.{take_next}

-- The instruction that was read is there.
pub read_found : (bytes : List ℕ) (place next bound : ℕ) (i j : Instruction) → place < next → next ≤ bound
    → Spells i (take (next - place) (drop place bytes)) → i ≡ j → IsSpelledAt bytes place bound j
read_found bytes place next bound i j forward within spelled same =
    (next - place, omega arith, subst (λ (i : Instruction). Spells i (take (next - place) (drop place bytes))) same spelled)

-- The bytes from a place to another, and on to a third.
pub span_next : (bytes : List ℕ) (from at next : ℕ) → from ≤ at → at ≤ next → next ≤ length bytes
    → take (next - from) (drop from bytes) ≡ take (at - from) (drop from bytes) ++ take (next - at) (drop at bytes)
span_next bytes from at next low mid high =
    let size = length-drop from bytes in
    let step : next - from - (at - from) ≡ next - at = omega arith in
    let place : from + (at - from) ≡ at = omega arith in
    take_next (drop from bytes) (at - from) (next - from) (omega arith) (omega arith)
    ∙ ap (λ (x : List ℕ). take (at - from) (drop from bytes) ++ x)
    (ap₂ (λ (n : ℕ) (x : List ℕ). take n x) step (drop-drop (at - from) from bytes ∙ ap (λ (n : ℕ). drop n bytes) place))

-- No instruction yet.
pub closes_none : (bytes : List ℕ) (from : ℕ) (known : List Definition) → ClosesTo bytes from from known known
closes_none bytes from known =
    let zero : from - from ≡ 0 = omega arith in
    ([], record { spelled = tt; whole = sym (ap (λ (n : ℕ). take n (drop from bytes)) zero); idle = tt; fonts = tt }, sym (append-nil known))

-- One more instruction.
pub closes_more : (bytes : List ℕ) (from at to next : ℕ) (old mid new : List Definition) → from ≤ at → to ≤ length bytes → ClosesTo bytes from at old mid → ClosesOne bytes at to mid new next
    → ClosesTo bytes from next old new
closes_more bytes from at to next old mid new low high (tail, closes, mid_is) one =
    let forward = one.forward in
    let within = one.within in
    let t : Token = record { says = one.here; bytes = take (next - at) (drop at bytes) } in
    let more : token_instructions (tail ++ t ∷ []) ≡ token_instructions tail ++ one.here ∷ [] = says-append tail (t ∷ []) in
    let here = same_right mid (known_after old (token_instructions tail)) one.here (subst (λ (ds : List Definition). HasSame ds (known_after old (token_instructions tail))) (sym mid_is) (same_after old old (token_instructions tail) (same_self old))) one.right in (
      tail ++ t ∷ [],
      record {
        spelled = all_append IsSpelled tail (t ∷ []) closes.spelled (one.spelled, tt);
        whole =
            written-append tail (t ∷ [])
            ∙ (ap₂ (λ (x y : List ℕ). x ++ y) closes.whole (append-nil (take (next - at) (drop at bytes))) ∙ sym (span_next bytes from at next low (omega arith) (omega arith)));
        idle = subst (λ (is : List Instruction). AllByRecursion IsIdle is) (sym more) (all_append IsIdle (token_instructions tail) (one.here ∷ []) closes.idle (one.idle, tt));
        fonts = subst (λ (is : List Instruction). FontsAreRight old is) (sym more) (fonts_append old (token_instructions tail) (one.here ∷ []) closes.fonts (here, tt));
      },
      one.new_is
          ∙ (ap (λ (ds : List Definition). ds ++ definitions_in one.here) mid_is
          ∙ (append_assoc old (definitions (token_instructions tail)) (definitions_in one.here)
          ∙ ap (λ (ds : List Definition). old ++ ds) (sym (ap (λ (is : List Instruction). definitions is) more ∙ (definitions-append (token_instructions tail) (one.here ∷ []) ∙ ap (λ (ds : List Definition). definitions (token_instructions tail) ++ ds) (append-nil (definitions_in one.here))))))),
    )

-- A fault on the way.
pub fault_on_the_way : (bytes : List ℕ) (from at to : ℕ) (old mid new : List Definition) (fault : FrameFault) → from ≤ at → at < to → ClosesTo bytes from at old mid → IsFaultAt bytes at to mid new fault
    → IsClosingFault bytes from to old new fault
fault_on_the_way bytes from at to old mid new OutOfMemory low high closes (same, d, spelled_at, right) =
    let mids : mid ≡ new = sym same in (
      at,
      low,
      high,
      subst (λ (ds : List Definition). ClosesTo bytes from at old ds) mids closes,
      d,
      spelled_at,
      subst (λ (ds : List Definition). IsRightAfter ds (Do (FontDef d))) mids right,
    )
fault_on_the_way bytes from at to old mid new (Bad fault) low high closes (place, same, broken) =
    let mids : mid ≡ new = sym same in
    let places : at ≡ fault.place = sym place in
    let both = subst₂ (λ (ds : List Definition) (n : ℕ). ClosesTo bytes from n old ds) mids places closes in
    let breaks = subst₂ (λ (ds : List Definition) (n : ℕ). BreaksClosing bytes n to ds fault.cause) mids places broken in
    (omega arith, omega arith, both, breaks)

-- A broken rule contradicts an instruction that is right there.
broken_here : (bytes : List ℕ) (place to : ℕ) (known : List Definition) (cause : DviCause) (i : Instruction)
    → BreaksClosing bytes place to known cause → IsSpelledAt bytes place to i → IsIdle i → IsRightAfter known i → ⊥
broken_here bytes place to known Truncated i (begins, none) spelled_at idle right = none i spelled_at
broken_here bytes place to known Opcode i (inl (code, none)) spelled_at idle right = none i spelled_at
broken_here bytes place to known Opcode i (inr (j, other, wrong)) spelled_at idle right =
    wrong (subst (λ (i : Instruction). IsIdle i) (one_spelled_at bytes place to to i j spelled_at other) idle)
broken_here bytes place to known Font i (d, other, wrong) spelled_at idle right =
    wrong (subst (λ (i : Instruction). IsRightAfter known i) (one_spelled_at bytes place to to i (Do (FontDef d)) spelled_at other) right)
broken_here bytes place to known cause i broken spelled_at idle right = absurd broken

-- The instruction that begins spelled bytes is there.
pub first_spelled : (bytes : List ℕ) (place to : ℕ) (t : Token) (more : List Token) → place ≤ to → to ≤ length bytes → IsSpelled t
    → t.bytes ++ token_bytes more ≡ take (to - place) (drop place bytes) → IsSpelledAt bytes place to t.says
first_spelled bytes place to t more low high spelled whole =
    let space = length-drop place bytes in
    let size : length t.bytes + length (token_bytes more) ≡ to - place =
    sym (length-append t.bytes (token_bytes more)) ∙ (ap (λ (x : List ℕ). length x) whole ∙ length-take-le (to - place) (drop place bytes) (omega arith)) in
    let cut : take (length t.bytes) (drop place bytes) ≡ t.bytes =
    sym (take-take (length t.bytes) (to - place) (drop place bytes) (omega arith)) ∙ (ap (λ (x : List ℕ). take (length t.bytes) x) (sym whole) ∙ take_at t.bytes (token_bytes more) (length t.bytes) refl) in
    (length t.bytes, omega arith, subst (λ (x : List ℕ). Spells t.says x) (sym cut) spelled)

-- Where a rule is broken on the way, the instructions there are not all right.
pub broken_closing : (bytes : List ℕ) (from to : ℕ) (old new known : List Definition) (fault : BadDvi) (tail : List Token) → to ≤ length bytes → HasSame old known → IsClosingFault bytes from to old new (Bad fault)
    → Closes bytes from to known tail → ⊥
broken_closing bytes from to old new known fault tail high same (low, below, (front, closes, new_is), broken) all =
    let cut : token_bytes front ++ take (to - fault.place) (drop fault.place bytes) ≡ token_bytes tail =
    ap (λ (x : List ℕ). x ++ take (to - fault.place) (drop fault.place bytes)) closes.whole ∙ (sym (span_next bytes from fault.place to low (omega arith) high) ∙ sym all.whole) in
    let (more, whole, spelled, rest) = begins front tail (take (to - fault.place) (drop fault.place bytes)) closes.spelled all.spelled cut in
    let tokens : token_instructions tail ≡ token_instructions front ++ token_instructions more = ap (λ (ts : List Token). token_instructions ts) whole ∙ says-append front more in
    let idle = all_back IsIdle (token_instructions front) (token_instructions more) (subst (λ (is : List Instruction). AllByRecursion IsIdle is) tokens all.idle) in
    let fonts = fonts_back known (token_instructions front) (token_instructions more) (subst (λ (is : List Instruction). FontsAreRight known is) tokens all.fonts) in
    let ones = same_sym (old ++ definitions (token_instructions front)) (known_after known (token_instructions front)) (same_after old known (token_instructions front) same) in
    by_first more spelled rest idle (known_after known (token_instructions front)) fonts (subst (λ (ds : List Definition). HasSame (known_after known (token_instructions front)) ds) (sym new_is) ones)
  where
    by_first : (more : List Token) → AllByRecursion IsSpelled more → token_bytes more ≡ take (to - fault.place) (drop fault.place bytes) → AllByRecursion IsIdle (token_instructions more) → (ds : List Definition)
        → FontsAreRight ds (token_instructions more) → HasSame ds new → ⊥
    by_first [] spelled rest idle ds fonts ones =
        let none : 0 ≡ length (take (to - fault.place) (drop fault.place bytes)) = ap (λ (x : List ℕ). length x) rest in
        let some = length-take-le (to - fault.place) (drop fault.place bytes) (omega (arith, length-drop fault.place bytes)) in
        absurd (omega arith)
    by_first (t ∷ more) (here, spelled) rest (first, idle) ds (right, fonts) ones =
        broken_here bytes fault.place to new fault.cause t.says broken (first_spelled bytes fault.place to t more (omega arith) high here rest) first
        (same_right ds new t.says ones right)

-- Definitions that are right have a size.
sized_one : (known : List Definition) (i : Instruction) → IsRightAfter known i → AllByRecursion (λ d. IsFontSize d.size) (definitions_in i)
sized_one known (Do (FontDef d)) (size, agrees) = (size, tt)
sized_one known i right = tt

pub sized_all : (known : List Definition) (is : List Instruction) → FontsAreRight known is → AllByRecursion (λ d. IsFontSize d.size) (definitions is)
sized_all known [] right = tt
sized_all known (i ∷ is) (here, right) = all_append (λ d. IsFontSize d.size) (definitions_in i) (definitions is) (sized_one known i here) (sized_all (definitions_in i ++ known) is right)

-- A definition that is there is refused.
pub definition_fault : (bytes : List ℕ) (at to : ℕ) (old new : List Definition) (d : Definition) (fault : PassFault) → new ≡ old
    → IsSpelledAt bytes at to (Do (FontDef d)) → IsDefinitionFault old d fault
    → IsFaultAt bytes at to old new (fault_at at fault)
definition_fault bytes at to old new d faults.OutOfMemory same spelled_at right = (same, d, spelled_at, right)
definition_fault bytes at to old new d (faults.Broken cause) same spelled_at (is, wrong) =
    (refl, same, subst (λ (cause : DviCause). BreaksClosing bytes at to old cause) (sym is) (d, spelled_at, wrong))
