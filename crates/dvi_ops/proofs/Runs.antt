-- How a body whose characters stand apart grows, and what is left of it on the way through it.
use Rattle.std.proofs.Common.{◌≡◌, ◌≤◌, ◌<◌, ◌+◌, ◌-◌, ◌++◌, ℕ, List, [], ◌∷◌, length, map, take, drop, get_or, refl, sym, ap, ◌∙◌, subst, append_assoc, arith}
use Rattle.std.specs.Prelude.{pos, Result, Ok, Err, OnOk, OnErr}
use Rattle.std.specs.List.{AllByRecursion}
use Rattle.std.proofs.lemmas.Grind.{flat_map-append}
use Rattle.scaled_core.proofs.EachOf.{all_back}
use Rattle.std.proofs.lemmas.List.{map-append, take_all, drop_all, take-append-le, drop-append-le, length-drop, length-append, drop_more, take-append-drop}
use Rattle.dvi_ops.specs.Instruction.{SetChar, Instruction, Do}
use Rattle.dvi_ops.specs.Layout.{bytes_of}
use Rattle.dvi_ops.specs.Private.Rising.{IsRising}
use Rattle.dvi_ops.specs.Runs.{characters, woven_instructions}
use Rattle.dvi_ops.specs.Spelling.{HasSpelling, spelling}
use Rattle.dvi_ops.specs.View.{body_view}
use Rattle.dvi_ops.specs.declared.body_op.BodyOp.{BodyOp}

-- The end of rising numbers may be greater, and is one more number of them.
pub rising_further : (from : ℕ) (ns : List ℕ) (end further : ℕ) → IsRising from ns end → end ≤ further → IsRising from ns further
rising_further from [] end further h more = omega (arith, h, more)
rising_further from (n ∷ ns) end further (here, h) more = (here, rising_further n ns end further h more)

pub rising_end : (from : ℕ) (ns : List ℕ) (end : ℕ) → IsRising from ns end → IsRising from (ns ++ end ∷ []) end
rising_end from [] end h = (h, omega arith)
rising_end from (n ∷ ns) end (here, h) = (here, rising_end n ns end h)

-- The end is no less than the start.
rising_bound : (from : ℕ) (ns : List ℕ) (end : ℕ) → IsRising from ns end → from ≤ end
rising_bound from [] end h = h
rising_bound from (n ∷ ns) end (here, h) = omega (arith, here, rising_bound n ns end h)

-- A character after a body.
pub woven-character :
    (from : ℕ) (codes places : List ℕ) (is : List Instruction) (c end : ℕ) → from + length codes ≡ end → IsRising from places end
    → woven_instructions from (codes ++ c ∷ []) places is ≡ woven_instructions from codes places is ++ Do (SetChar (pos c)) ∷ []
woven-character from codes [] is c end whole h = map-append (λ (n : ℕ). Do (SetChar (pos n))) codes (c ∷ [])
woven-character from codes (place ∷ places) [] c end whole h = map-append (λ (n : ℕ). Do (SetChar (pos n))) codes (c ∷ [])
woven-character from codes (place ∷ places) (i ∷ is) c end whole (here, h) =
    let bound = rising_bound place places end h in
    let short : place - from ≤ length codes = omega (arith, whole, here, bound) in
    let left : place + length (drop (place - from) codes) ≡ end = omega (arith, length-drop (place - from) codes, whole, here, bound) in
    rw (take-append-le (place - from) codes (c ∷ []) short, drop-append-le (place - from) codes (c ∷ []) short)
    (rw (woven-character place (drop (place - from) codes) places is c end left h)
    (sym (append_assoc (characters (take (place - from) codes)) (i ∷ woven_instructions place (drop (place - from) codes) places is) (Do (SetChar (pos c)) ∷ []))))

-- Another instruction after a body.
pub woven-op :
    (from : ℕ) (codes places : List ℕ) (is : List Instruction) (i : Instruction) (end : ℕ) → from + length codes ≡ end → length places ≡ length is
    → IsRising from places end
    → woven_instructions from codes (places ++ end ∷ []) (is ++ i ∷ []) ≡ woven_instructions from codes places is ++ i ∷ []
woven-op from codes [] [] i end whole paired h =
    let all : length codes ≤ end - from = omega (arith, whole) in
    rw (take_all (end - from) codes all, drop_all (end - from) codes all) refl
woven-op from codes [] (j ∷ is) i end whole paired h = absurd (omega (arith, paired))
woven-op from codes (place ∷ places) [] i end whole paired h = absurd (omega (arith, paired))
woven-op from codes (place ∷ places) (j ∷ is) i end whole paired (here, h) =
    let bound = rising_bound place places end h in
    let left : place + length (drop (place - from) codes) ≡ end = omega (arith, length-drop (place - from) codes, whole, here, bound) in
    rw (woven-op place (drop (place - from) codes) places is i end left (omega (arith, paired)) h)
    (sym (append_assoc (characters (take (place - from) codes)) (j ∷ woven_instructions place (drop (place - from) codes) places is) (i ∷ [])))

-- What is left of a body before an instruction of it.
pub woven_at :
    (from : ℕ) (rest places : List ℕ) (ops : List BodyOp) (i place : ℕ) (op : BodyOp) → i < length places → i < length ops
    → place ≡ get_or places i place → op ≡ get_or ops i op
    → woven_instructions from rest (drop i places) (map body_view (drop i ops))
    ≡ characters (take (place - from) rest) ++ body_view op ∷ woven_instructions place (drop (place - from) rest) (drop (i + 1) places) (map body_view (drop (i + 1) ops))
woven_at from rest places ops i place op within inside at is =
    let first : drop i places ≡ place ∷ drop (i + 1) places = drop_more places i place within ∙ ap (λ (n : ℕ). n ∷ drop (i + 1) places) (sym at) in
    let second : drop i ops ≡ op ∷ drop (i + 1) ops = drop_more ops i op inside ∙ ap (λ (o : BodyOp). o ∷ drop (i + 1) ops) (sym is) in
    rw (first, second) refl

-- After the last instruction only characters are left.
pub woven_left :
    (from : ℕ) (rest places : List ℕ) (ops : List BodyOp) (i : ℕ) → length ops ≤ i → woven_instructions from rest (drop i places) (map body_view (drop i ops)) ≡ characters rest
woven_left from rest places ops i over = ap (λ (os : List BodyOp). woven_instructions from rest (drop i places) (map body_view os)) (drop_all i ops over) ∙ alone (drop i places)
  where
    alone : (ns : List ℕ) → woven_instructions from rest ns [] ≡ characters rest
    alone [] = refl
    alone (n ∷ ns) = refl

-- One step of a walk: the characters before an instruction, and the instruction.
pub one_further :
    (before between after run rest here whole : List Instruction) (i : Instruction) → between ≡ before ++ run → after ≡ between ++ i ∷ []
    → before ++ here ≡ whole → here ≡ run ++ i ∷ rest → after ++ rest ≡ whole
one_further before between after run rest here whole i first second all is =
    rw (second, first) (rw (append_assoc (before ++ run) (i ∷ []) rest, append_assoc before run (i ∷ rest)) (ap (λ (js : List Instruction). before ++ js) (sym is) ∙ all))

-- The same for their bytes.
pub bytes_further :
    (before between after : List ℕ) (run rest here : List Instruction) (whole : List ℕ) (i : Instruction) → between ≡ before ++ bytes_of run
    → after ≡ between ++ spelling i → before ++ bytes_of here ≡ whole → here ≡ run ++ i ∷ rest → after ++ bytes_of rest ≡ whole
bytes_further before between after run rest here whole i first second all is =
    let apart : bytes_of here ≡ bytes_of run ++ (spelling i ++ bytes_of rest) = ap bytes_of is ∙ flat_map-append spelling run (i ∷ rest) in
    rw (second, first)
    (rw (append_assoc (before ++ bytes_of run) (spelling i) (bytes_of rest), append_assoc before (bytes_of run) (spelling i ++ bytes_of rest))
    (ap (λ (bs : List ℕ). before ++ bs) (sym apart) ∙ all))

pub spelled_further :
    (run rest here : List Instruction) (i : Instruction) → AllByRecursion HasSpelling here → here ≡ run ++ i ∷ rest → HasSpelling i × AllByRecursion HasSpelling rest
spelled_further run rest here i all is = all_back HasSpelling run (i ∷ rest) (subst (AllByRecursion HasSpelling) is all)

-- Bytes with one more are no fewer, and the same bytes are not.
pub no_fewer :
    {A E : Type 0} (r : Result A E) (before after : List ℕ) (n : ℕ) → OnOk r (after ≡ before ++ n ∷ []) → OnErr r (after ≡ before) → length before ≤ length after
no_fewer (Ok x) before after n ok err = omega (arith, ap length ok, length-append before (n ∷ []))
no_fewer (Err e) before after n ok err = omega (arith, ap length err)

-- The bytes of characters, of the first ones and of the others.
pub characters_apart :
    (n : ℕ) (codes before between after : List ℕ) → between ≡ before ++ bytes_of (characters (take n codes))
    → after ≡ between ++ bytes_of (characters (take (length codes - n) (drop n codes))) → after ≡ before ++ bytes_of (characters codes)
characters_apart n codes before between after first second =
    let front = characters (take n codes) in
    let back = characters (drop n codes) in
    let all : take (length codes - n) (drop n codes) ≡ drop n codes = take_all (length codes - n) (drop n codes) (omega (arith, length-drop n codes)) in
    let last : after ≡ between ++ bytes_of back = second ∙ ap (λ (cs : List ℕ). between ++ bytes_of (characters cs)) all in
    let whole : front ++ back ≡ characters codes =
    sym (map-append (λ (c : ℕ). Do (SetChar (pos c))) (take n codes) (drop n codes)) ∙ ap characters (take-append-drop n codes) in
    let bytes : bytes_of front ++ bytes_of back ≡ bytes_of (characters codes) = sym (flat_map-append spelling front back) ∙ ap bytes_of whole in
    last ∙ (ap (λ (bs : List ℕ). bs ++ bytes_of back) first ∙ (append_assoc before (bytes_of front) (bytes_of back) ∙ ap (λ (bs : List ℕ). before ++ bs) bytes))

-- The same, where the codes are split at a count.
pub woven_split :
    (from : ℕ) (rest places : List ℕ) (ops : List BodyOp) (i place : ℕ) (op : BodyOp) (count : ℕ) (run after : List ℕ) → i < length ops
    → length places ≡ length ops → place ≡ get_or places i place → op ≡ get_or ops i op
    → count ≡ place - from → run ≡ take count rest → after ≡ drop count rest
    → woven_instructions from rest (drop i places) (map body_view (drop i ops))
    ≡ characters run ++ body_view op ∷ woven_instructions place after (drop (i + 1) places) (map body_view (drop (i + 1) ops))
woven_split from rest places ops i place op count run after inside paired at is few front back =
    rw (front, back, few) (woven_at from rest places ops i place op (omega (arith, inside, paired)) inside at is)
