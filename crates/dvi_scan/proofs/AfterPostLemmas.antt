-- The numbers of the definitions after post, instruction by instruction.
use Rattle.std.proofs.Common.{◌≡◌, ◌≤◌, ◌<◌, ◌-◌, ◌++◌, ◌||◌, [], ◌∷◌, List, length, take, drop, ℕ, ℤ, Bool, true, false, Option, Some, None, if◌then◌else◌, cond, refl, sym, Result, Ok, Err, OnErr, ◌∙◌, ap, ap₂, subst, append-nil, arith}
use Rattle.std.specs.BTreeSet.{BTreeSet, Updates}
use Rattle.std.specs.List.{AllByRecursion}
use Rattle.std.specs.Option.{is_some}
use Rattle.std.specs.Ordering.{int_cmp, int_eq}
use Rattle.std.proofs.lemmas.Bool.Decides.{Decides-int_eq}
use Rattle.dvi_ops.specs.File.{IsIdle}
use Rattle.dvi_ops.specs.Fonts.{first_definition_of, definitions_in, definitions}
use Rattle.dvi_ops.specs.Instruction.{Definition, FontDef, Instruction, Do}
use Rattle.dvi_ops.specs.Tokens.{Token, IsSpelled, token_instructions, token_bytes}
use Rattle.scaled_core.proofs.EachOf.{all_append, all_back}
use Rattle.dvi_ops.proofs.Appends.{says-append, written-append, definitions-append}
use Rattle.dvi_ops.proofs.Frames.{begins}
use Rattle.dvi_scan.specs.Ends.{IsSpelledAt}
use Rattle.dvi_scan.proofs.PlaceLemmas.{one_spelled_at}
use Rattle.dvi_scan.specs.Reached.{AreNumbersOf, has_number}
use Rattle.dvi_scan.proofs.StrayLemmas.{ends_after}
use Rattle.dvi_scan.specs.AfterPost.{AreIdle, AreAfterPost, LacksNumber, NothingIdle}
use Rattle.dvi_scan.specs.Private.AfterPost.{LooksOne, MeetsNumber}
use Rattle.dvi_scan.specs.Closing.{Closes}
use Rattle.dvi_scan.proofs.ClosingLemmas.{first_spelled, span_next}

-- Whether a number is defined, in two lists one after the other.
or_some : (b : Bool) (x : Definition) (rest more : Option Definition) (both : Option Definition) → is_some both ≡ (is_some rest || is_some more)
    → is_some (if b then Some x else both) ≡ (is_some (if b then Some x else rest) || is_some more)
or_some true x rest more both e = refl
or_some false x rest more both e = e

some-append : (f : ℤ) (xs ys : List Definition) → is_some (first_definition_of f (xs ++ ys)) ≡ (is_some (first_definition_of f xs) || is_some (first_definition_of f ys))
some-append f [] ys = refl
some-append f (x ∷ xs) ys = or_some (int_eq f x.number) x (first_definition_of f xs) (first_definition_of f ys) (first_definition_of f (xs ++ ys)) (some-append f xs ys)

-- One more number.
same_test : (f g : ℤ) (b c : Bool) → int_eq f g ≡ b → int_eq g f ≡ c → b ≡ c
same_test f g true true one other = refl
same_test f g false false one other = refl
same_test f g true false one other = let both : true ≡ false = sym ((Decides-int_eq g f).1 (sym ((Decides-int_eq f g).0 one))) ∙ other in absurd cc
same_test f g false true one other = let both : true ≡ false = sym ((Decides-int_eq f g).1 (sym ((Decides-int_eq g f).0 other))) ∙ one in absurd cc

put : (b x : Bool) (d : Definition) → cond b true x ≡ (x || is_some (if b then Some d else None))
put true true d = refl
put true false d = refl
put false true d = refl
put false false d = refl

pub number_put : (d : Definition) (old new : BTreeSet ℤ) → Updates int_cmp old new d.number true → (f : ℤ) → has_number new.keys f ≡ (has_number old.keys f || is_some (first_definition_of f (definitions_in (Do (FontDef d)))))
number_put d old new updates f =
    updates.0 f
    ∙ (put (int_eq d.number f) (has_number old.keys f) d
    ∙ ap (λ (b : Bool). has_number old.keys f || is_some (if b then Some d else None)) (same_test d.number f (int_eq d.number f) (int_eq f d.number) refl refl))

pub or_none : (b : Bool) → b ≡ (b || false)
or_none true = refl
or_none false = refl

-- No instruction yet.
pub idle_none : (bytes : List ℕ) (from : ℕ) → AreIdle bytes from from []
idle_none bytes from =
    let zero : from - from ≡ 0 = omega arith in record { spelled = tt; whole = sym (ap (λ (n : ℕ). take n (drop from bytes)) zero); idle = tt }

-- One more instruction.
pub idle_more : (bytes : List ℕ) (from at to next : ℕ) (tokens : List Token) (old new : List ℤ) → from ≤ at → to ≤ length bytes → AreIdle bytes from at tokens → AreNumbersOf old (definitions (token_instructions tokens))
    → LooksOne bytes at to old new next → (more : List Token) × AreIdle bytes from next more × AreNumbersOf new (definitions (token_instructions more))
idle_more bytes from at to next tokens old new low high idle numbers one =
    let forward = one.forward in
    let within = one.within in
    let t : Token = record { says = one.here; bytes = take (next - at) (drop at bytes) } in
    let more : token_instructions (tokens ++ t ∷ []) ≡ token_instructions tokens ++ one.here ∷ [] = says-append tokens (t ∷ []) in
    let all : definitions (token_instructions (tokens ++ t ∷ [])) ≡ definitions (token_instructions tokens) ++ definitions_in one.here =
    ap (λ (is : List Instruction). definitions is) more ∙ (definitions-append (token_instructions tokens) (one.here ∷ []) ∙ ap (λ (ds : List Definition). definitions (token_instructions tokens) ++ ds) (append-nil (definitions_in one.here))) in (
      tokens ++ t ∷ [],
      record {
        spelled = all_append IsSpelled tokens (t ∷ []) idle.spelled (one.spelled, tt);
        whole =
            written-append tokens (t ∷ [])
            ∙ (ap₂ (λ (x y : List ℕ). x ++ y) idle.whole (append-nil (take (next - at) (drop at bytes))) ∙ sym (span_next bytes from at next low (omega arith) (omega arith)));
        idle = subst (λ (is : List Instruction). AllByRecursion IsIdle is) (sym more) (all_append IsIdle (token_instructions tokens) (one.here ∷ []) idle.idle (one.idle, tt));
      },
      λ f.
          one.numbers f
          ∙ (ap (λ (b : Bool). b || is_some (first_definition_of f (definitions_in one.here))) (numbers f)
          ∙ (sym (some-append f (definitions (token_instructions tokens)) (definitions_in one.here)) ∙ ap (λ (ds : List Definition). is_some (first_definition_of f ds)) (sym all))),
    )

-- No instruction is at the bound.
pub nothing_at_bound : (bytes : List ℕ) (to : ℕ) → NothingIdle bytes to to
nothing_at_bound bytes to i spelled_at idle = let below = ends_after bytes to to i spelled_at in absurd (omega arith)

-- The numbers found so far, where no such instruction follows.
pub looked_there : (bytes : List ℕ) (from at to : ℕ) (tokens : List Token) (numbers : List ℤ) → from ≤ at → at ≤ to → AreIdle bytes from at tokens → AreNumbersOf numbers (definitions (token_instructions tokens))
    → NothingIdle bytes at to → AreAfterPost bytes from to numbers
looked_there bytes from at to tokens numbers low high idle has nothing_idle =
    record { place = at; low = low; high = high; tokens = tokens; there = idle; nothing_idle = nothing_idle; numbers = has }

-- Memory is refused on the way.
not_some : (o : Option Definition) → false ≡ is_some o → o ≡ None
not_some None e = refl
not_some (Some d) e = absurd cc

pub unlooked_there : (bytes : List ℕ) (from at to : ℕ) (tokens : List Token) (numbers : List ℤ) → from ≤ at → at < to → AreIdle bytes from at tokens → AreNumbersOf numbers (definitions (token_instructions tokens))
    → MeetsNumber bytes at to numbers → LacksNumber bytes from to
unlooked_there bytes from at to tokens numbers low high idle has (d, spelled_at, new) =
    record {
      place = at;
      low = low;
      high = high;
      tokens = tokens;
      there = idle;
      here = d;
      spelled_at = spelled_at;
      new = not_some (first_definition_of d.number (definitions (token_instructions tokens))) (sym new ∙ has d.number);
    }

-- Where only nops and definitions are between two places, all definitions are found.
pub looked : (bytes : List ℕ) (from to : ℕ) (after_post : List ℤ) (known : List Definition) (tail : List Token) → to ≤ length bytes
    → AreAfterPost bytes from to after_post → Closes bytes from to known tail
    → AreNumbersOf after_post (definitions (token_instructions tail))
looked bytes from to after_post known tail high look all =
    let low = look.low in
    let within = look.high in
    let cut : token_bytes look.tokens ++ take (to - look.place) (drop look.place bytes) ≡ token_bytes tail =
    ap (λ (x : List ℕ). x ++ take (to - look.place) (drop look.place bytes)) look.there.whole ∙ (sym (span_next bytes from look.place to low within high) ∙ sym all.whole) in
    let (more, whole, spelled, rest) = begins look.tokens tail (take (to - look.place) (drop look.place bytes)) look.there.spelled all.spelled cut in
    let tokens : token_instructions tail ≡ token_instructions look.tokens ++ token_instructions more = ap (λ (ts : List Token). token_instructions ts) whole ∙ says-append look.tokens more in
    let idle = all_back IsIdle (token_instructions look.tokens) (token_instructions more) (subst (λ (is : List Instruction). AllByRecursion IsIdle is) tokens all.idle) in
    let same = by_first more whole spelled rest idle in λ f. look.numbers f ∙ ap (λ (ds : List Definition). is_some (first_definition_of f ds)) same
  where
    by_first : (more : List Token) → tail ≡ look.tokens ++ more → AllByRecursion IsSpelled more → token_bytes more ≡ take (to - look.place) (drop look.place bytes) → AllByRecursion IsIdle (token_instructions more)
        → definitions (token_instructions look.tokens) ≡ definitions (token_instructions tail)
    by_first [] whole spelled rest idle = ap (λ (ts : List Token). definitions (token_instructions ts)) (sym (whole ∙ append-nil look.tokens))
    by_first (t ∷ more) whole (here, spelled) rest (first, idle) = let within = look.high in
        absurd (look.nothing_idle t.says (first_spelled bytes look.place to t more within high here rest) first)

-- The instruction there is neither a nop nor a definition.
pub none_idle : (bytes : List ℕ) (at to : ℕ) (j : Instruction) → IsSpelledAt bytes at to j → (IsIdle j → ⊥) → NothingIdle bytes at to
none_idle bytes at to j there other i spelled_at idle =
    other (subst (λ (i : Instruction). IsIdle i) (one_spelled_at bytes at to to i j spelled_at there) idle)

-- The same numbers in another list.
pub same_numbers : (old new : List ℤ) (after_post : List Definition) → new ≡ old → AreNumbersOf old after_post → AreNumbersOf new after_post
same_numbers old new after_post same has f = ap (λ (ks : List ℤ). has_number ks f) same ∙ has f

-- A fact that always holds is one in the case of an error.
pub on_any : {A E : Type 0} (P : Type 0) (r : Result A E) → P → OnErr r P
on_any P (Ok x) p = tt
on_any P (Err y) p = p
