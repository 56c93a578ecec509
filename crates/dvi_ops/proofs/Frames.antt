-- No spelling is the beginning of another, so bytes have one list of instructions, one frame, and one list of pages.
use Rattle.std.proofs.Common.{◌≡◌, ◌+◌, ◌++◌, [], ◌∷◌, List, length, replicate, take, ℕ, zero, suc, pos, Some, refl, sym, ◌∙◌, ap, ap₂, subst, append_assoc, append-nil, length-append, arith, add-one, ◌≤◌, ◌%◌, min, map, negsuc, IsSome}
use Rattle.std.proofs.lemmas.List.{append_cancel_left, take_at, same_from_push, replicate_more}
use Rattle.std.specs.List.{flat_map, AllByRecursion}
use Rattle.dvi_ops.specs.Instruction.{Postamble, Instruction, Push, Eop, Pre, Post}
use Rattle.dvi_ops.specs.Table.{Spells, signed}
use Rattle.dvi_ops.specs.Forest.{flat}
use Rattle.dvi_ops.specs.Tokens.{Token, IsSpelled, token_instructions, token_bytes, places, pointers}
use Rattle.dvi_ops.specs.File.{FilePart, Idle, Defines, Shows, instructions, MarkedPage, pages_of, max_pushes, push_depth_of, IsIdle, AreUnits, Frame, IsFile}
use Rattle.dvi_ops.specs.Fonts.{WidthsByName, FontsAreRight, definitions, selections, font, widths_of}
use Rattle.dvi_ops.specs.Body.{instruction_acts, bounded_acts}
use Rattle.dvi_ops.proofs.FrontLaws.{one_reading}
use Rattle.dvi_ops.proofs.Forests.{flat_cut, ends_eop}

-- Two equal lists, cut at the same distance from the start or from the end.
pub one_cut : {X : Type 0} (a b x y : List X) → a ++ x ≡ b ++ y → length a ≡ length b → (a ≡ b) × (x ≡ y)
one_cut [] [] x y e same = (refl, e)
one_cut [] (z ∷ b) x y e same = absurd cc
one_cut (w ∷ a) [] x y e same = absurd cc
one_cut (w ∷ a) (z ∷ b) x y e same =
    let rest : a ++ x ≡ b ++ y = cc in let lengths : length a ≡ length b = cc in let cut = one_cut a b x y rest lengths in let front : a ≡ b = cut.0 in let first : w ≡ z = cc in (cc, cut.1)

pub one_cut_back : {X : Type 0} (a b x y : List X) → a ++ x ≡ b ++ y → length x ≡ length y → (a ≡ b) × (x ≡ y)
one_cut_back a b x y e same =
    let whole : length a + length x ≡ length b + length y = sym (length-append a x) ∙ (ap length e ∙ length-append b y) in
    one_cut a b x y e (omega arith)

-- No spelling is empty.
pub not_empty : (i : Instruction) → Spells i [] → ⊥
not_empty i s =
    let push : List ℕ = 141 ∷ [] in let same = one_reading i Push [] push push [] s refl refl in let empty : [] ≡ push = same.1 in cc

-- Where instructions spell the beginning of bytes that other instructions spell in whole, the other list begins with the first one.
pub begins : (ts us : List Token) (x : List ℕ) → AllByRecursion IsSpelled ts → AllByRecursion IsSpelled us → token_bytes ts ++ x ≡ token_bytes us →
    (more : List Token) × (us ≡ ts ++ more) × AllByRecursion IsSpelled more × (token_bytes more ≡ x)
begins [] us x p q e = (us, refl, q, sym e)
begins (t ∷ ts) [] x (here, p) q e = absurd (begun t.bytes here (sym (append_assoc t.bytes (token_bytes ts) x) ∙ e))
  where
    begun : (bytes : List ℕ) → Spells t.says bytes → bytes ++ (token_bytes ts ++ x) ≡ [] → ⊥
    begun [] s e = not_empty t.says s
    begun (b ∷ bytes) s e = cc
begins (t ∷ ts) (u ∷ us) x (here, p) (here', q) e =
    let first = one_reading t.says u.says t.bytes u.bytes (token_bytes ts ++ x) (token_bytes us) here here' (sym (append_assoc t.bytes (token_bytes ts) x) ∙ e) in
    let same_says : t.says ≡ u.says = first.0 in
    let same_bytes : t.bytes ≡ u.bytes = first.1 in
    let rest : token_bytes ts ++ x ≡ token_bytes us = append_cancel_left t.bytes (token_bytes ts ++ x) (token_bytes us) (sym (append_assoc t.bytes (token_bytes ts) x) ∙ (e ∙ ap (λ (b : List ℕ). b ++ token_bytes us) (sym same_bytes))) in
    let found = begins ts us x p q rest in
    let same_token : t ≡ u = ap₂ (λ (i : Instruction) (b : List ℕ). record { says = i; bytes = b }) same_says same_bytes in
    let same_rest : us ≡ ts ++ found.0 = found.1 in
    (found.0, cc, found.2, found.3)

take_none : (n : ℕ) → take {A = ℕ} n [] ≡ []
take_none zero = refl
take_none (suc n) = refl

-- Nothing remains where no beginning of the bytes spells an instruction.
pub stuck : (ts : List Token) (x : List ℕ) → AllByRecursion IsSpelled ts → token_bytes ts ≡ x → ((i : Instruction) (size : ℕ) → Spells i (take size x) → ⊥) → ts ≡ []
stuck [] x p e none = refl
stuck (t ∷ ts) x (here, p) e none =
    absurd (none t.says (length t.bytes) (subst (λ bytes. Spells t.says bytes) (sym (take_at t.bytes (token_bytes ts) (length t.bytes) refl) ∙ ap (take (length t.bytes)) e) here))

-- Bytes have one list of instructions.
pub one_list : (ts us : List Token) → AllByRecursion IsSpelled ts → AllByRecursion IsSpelled us → token_bytes ts ≡ token_bytes us → ts ≡ us
one_list ts us p q e =
    let found = begins ts us [] p q (append-nil (token_bytes ts) ∙ e) in
    let none = nothing found.0 found.2 found.3 in
    sym (found.1 ∙ (ap (λ (more : List Token). ts ++ more) none ∙ append-nil ts))
  where
    nothing : (more : List Token) → AllByRecursion IsSpelled more → token_bytes more ≡ [] → more ≡ []
    nothing more p e = stuck more [] p e (λ i size s. not_empty i (subst (λ bytes. Spells i bytes) (take_none size) s))

-- A list that ends with 2 and then n times 223, built from its end.
trailing : List ℕ → ℕ → List ℕ
trailing a zero = a ++ 2 ∷ []
trailing a (suc n) = trailing a n ++ 223 ∷ []

trailing-is : (a : List ℕ) (n : ℕ) → a ++ 2 ∷ replicate n 223 ≡ trailing a n
unfolding trailing
trailing-is a zero = refl
trailing-is a (suc n) =
    ap (λ bytes. a ++ 2 ∷ bytes) (sym (replicate_more n 223 ∙ ap (λ k. replicate k 223) (add-one n)))
    ∙ (sym (append_assoc a (2 ∷ replicate n 223) (223 ∷ [])) ∙ ap (λ bytes. bytes ++ 223 ∷ []) (trailing-is a n))

two_differs : (x y : ℕ) → x ≡ y → x ≡ 2 → y ≡ 223 → ⊥
two_differs x y e two more = omega arith

one_trailing : (a b : List ℕ) (n m : ℕ) → trailing a n ≡ trailing b m → (a ≡ b) × (n ≡ m)
unfolding trailing
one_trailing a b zero zero e = ((same_from_push a b 2 2 e).0, refl)
one_trailing a b zero (suc m) e = absurd (two_differs _ _ (same_from_push a (trailing b m) 2 223 e).1 refl refl)
one_trailing a b (suc n) zero e = absurd (two_differs _ _ (sym (same_from_push (trailing a n) b 223 2 e).1) refl refl)
one_trailing a b (suc n) (suc m) e = let same = one_trailing a b n m (same_from_push (trailing a n) (trailing b m) 223 223 e).0 in (same.0, ap suc same.1)

-- The bytes before a 2 and bytes 223 at the end are determined, and so is the number of the bytes 223.
pub one_trailer : (a b : List ℕ) (n m : ℕ) → a ++ 2 ∷ replicate n 223 ≡ b ++ 2 ∷ replicate m 223 → (a ≡ b) × (n ≡ m)
one_trailer a b n m e = one_trailing a b n m (sym (trailing-is a n) ∙ (e ∙ trailing-is b m))

-- The bytes of a frame: those before the operand of post_post, this operand, and the end.
pub record Cut (bytes : List ℕ) (f : Frame bytes) : Type 0 where
  pub operand : List ℕ
  pub whole : bytes ≡ (((token_bytes f.front ++ (f.post ++ (token_bytes f.tail ++ 249 ∷ []))) ++ operand) ++ 2 ∷ replicate f.padding 223)
  pub says_place : (length operand ≡ 4) × (signed 4 operand ≡ pos (length (token_bytes f.front)))
  pub ending : f.ending ≡ 249 ∷ (operand ++ 2 ∷ [])

regroup : (a p t o bytes : List ℕ) → a ++ (p ++ (t ++ (249 ∷ (o ++ 2 ∷ []) ++ bytes))) ≡ ((a ++ (p ++ (t ++ 249 ∷ []))) ++ o) ++ 2 ∷ bytes
regroup a p t o bytes = simp append_assoc

pub cut_of : (bytes : List ℕ) (f : Frame bytes) → Cut bytes f
cut_of bytes f =
    let spelled = f.ending_spelled in
    record {
      operand = spelled.0;
      whole =
          f.whole
          ∙ (ap (λ (ending : List ℕ). token_bytes f.front ++ (f.post ++ (token_bytes f.tail ++ (ending ++ replicate f.padding 223)))) spelled.1
          ∙ regroup (token_bytes f.front) f.post (token_bytes f.tail) spelled.0 (replicate f.padding 223));
      says_place = spelled.2;
      ending = spelled.1;
    }

-- Two frames with the same instructions at the same places.
pub record SameFrame (bytes : List ℕ) (f g : Frame bytes) : Type 0 where
  pub front : f.front ≡ g.front
  pub post : f.post ≡ g.post
  pub postamble : f.postamble ≡ g.postamble
  pub tail : f.tail ≡ g.tail
  pub ending : f.ending ≡ g.ending
  pub padding : f.padding ≡ g.padding

-- Bytes have one frame.
pub one_frame : (bytes : List ℕ) (f g : Frame bytes) → SameFrame bytes f g
one_frame bytes f g =
    let c = cut_of bytes f in
    let d = cut_of bytes g in
    let upto : List ℕ → List ℕ → List ℕ → List ℕ = λ a p t. a ++ (p ++ (t ++ 249 ∷ [])) in
    let af = upto (token_bytes f.front) f.post (token_bytes f.tail) in
    let ag = upto (token_bytes g.front) g.post (token_bytes g.tail) in
    let trailer = one_trailer (af ++ c.operand) (ag ++ d.operand) f.padding g.padding (sym c.whole ∙ d.whole) in
    let operands = one_cut_back af ag c.operand d.operand trailer.0 (c.says_place.0 ∙ sym d.says_place.0) in
    let place : pos (length (token_bytes f.front)) ≡ pos (length (token_bytes g.front)) = sym c.says_place.1 ∙ (ap (signed 4) operands.1 ∙ d.says_place.1) in
    let lengths : length (token_bytes f.front) ≡ length (token_bytes g.front) = cc in
    let fronts = one_cut (token_bytes f.front) (token_bytes g.front) (f.post ++ (token_bytes f.tail ++ 249 ∷ [])) (g.post ++ (token_bytes g.tail ++ 249 ∷ [])) operands.0 lengths in
    let posts = one_reading (Post f.postamble) (Post g.postamble) f.post g.post (token_bytes f.tail ++ 249 ∷ []) (token_bytes g.tail ++ 249 ∷ [])
    f.post_spelled g.post_spelled fronts.1 in
    let same_post : f.post ≡ g.post = posts.1 in
    let same_postamble : Post f.postamble ≡ Post g.postamble = posts.0 in
    let after : token_bytes f.tail ++ 249 ∷ [] ≡ token_bytes g.tail ++ 249 ∷ [] = append_cancel_left f.post _ _ (fronts.1 ∙ ap (λ (p : List ℕ). p ++ (token_bytes g.tail ++ 249 ∷ [])) (sym same_post)) in
    record {
      front = one_list f.front g.front f.front_spelled g.front_spelled fronts.0;
      post = same_post;
      postamble = cc;
      tail = one_list f.tail g.tail f.tail_spelled g.tail_spelled (same_from_push (token_bytes f.tail) (token_bytes g.tail) 249 249 after).0;
      ending = c.ending ∙ (ap (λ (o : List ℕ). 249 ∷ (o ++ 2 ∷ [])) operands.1 ∙ sym d.ending);
      padding = trailer.1;
    }

-- Instructions are those of at most one list of parts.
pub one_parts : (ps qs : List FilePart) → flat_map instructions ps ≡ flat_map instructions qs → ps ≡ qs
one_parts [] [] e = refl
one_parts [] (Idle ∷ qs) e = absurd cc
one_parts [] (Defines d ∷ qs) e = absurd cc
one_parts [] (Shows counts pointer body ∷ qs) e = absurd cc
one_parts (Idle ∷ ps) [] e = absurd cc
one_parts (Idle ∷ ps) (Idle ∷ qs) e = let rest : flat_map instructions ps ≡ flat_map instructions qs = cc in let same = one_parts ps qs rest in cc
one_parts (Idle ∷ ps) (Defines d ∷ qs) e = absurd cc
one_parts (Idle ∷ ps) (Shows counts pointer body ∷ qs) e = absurd cc
one_parts (Defines d ∷ ps) [] e = absurd cc
one_parts (Defines d ∷ ps) (Idle ∷ qs) e = absurd cc
one_parts (Defines d ∷ ps) (Defines d' ∷ qs) e =
    let first : d ≡ d' = cc in let rest : flat_map instructions ps ≡ flat_map instructions qs = cc in let same = one_parts ps qs rest in cc
one_parts (Defines d ∷ ps) (Shows counts pointer body ∷ qs) e = absurd cc
one_parts (Shows counts pointer body ∷ ps) [] e = absurd cc
one_parts (Shows counts pointer body ∷ ps) (Idle ∷ qs) e = absurd cc
one_parts (Shows counts pointer body ∷ ps) (Defines d ∷ qs) e = absurd cc
one_parts (Shows counts pointer body ∷ ps) (Shows counts' pointer' body' ∷ qs) e =
    let same_counts : counts ≡ counts' = cc in
    let same_pointer : pointer ≡ pointer' = cc in
    let tails : (flat body ++ Eop ∷ []) ++ flat_map instructions ps ≡ (flat body' ++ Eop ∷ []) ++ flat_map instructions qs = cc in
    let cut = flat_cut body body' (Eop ∷ flat_map instructions ps) (Eop ∷ flat_map instructions qs) (ends_eop _) (ends_eop _) (sym (append_assoc (flat body) (Eop ∷ []) (flat_map instructions ps)) ∙ (tails ∙ append_assoc (flat body') (Eop ∷ []) (flat_map instructions qs))) in
    let same_body : body ≡ body' = cut.0 in
    let after : Eop ∷ flat_map instructions ps ≡ Eop ∷ flat_map instructions qs = cut.1 in
    let rest : flat_map instructions ps ≡ flat_map instructions qs = cc in
    let same = one_parts ps qs rest in
    cc

-- Bytes have one list of pages.
pub one_list_of_pages : (metrics : WidthsByName) (bytes : List ℕ) (pages others : List MarkedPage) → IsFile metrics bytes pages → IsFile metrics bytes others → pages ≡ others
one_list_of_pages metrics bytes pages others f g =
    let same = one_frame bytes f.frame g.frame in
    let fronts : Pre 2 f.frame.postamble.units f.comment ∷ flat_map instructions f.parts ≡ Pre 2 g.frame.postamble.units g.comment ∷ flat_map
    instructions g.parts =
    sym f.front_is ∙ (ap token_instructions same.front ∙ g.front_is) in
    let bodies : flat_map instructions f.parts ≡ flat_map instructions g.parts = cc in
    let parts = one_parts f.parts g.parts bodies in
    let shows : Some pages ≡ Some others =
    sym f.shows
    ∙ (ap₂ (λ (tail : List Token) (parts : List FilePart). pages_of (bounded_acts (instruction_acts (widths_of metrics (definitions (token_instructions tail))))) parts) same.tail parts ∙ g.shows) in
    cc

-- The facts about the instructions of a frame that make a file of these pages.
pub record Facts (metrics : WidthsByName) (front : List Token) (postamble : Postamble) (tail : List Token) (pages : List MarkedPage) : Type 0 where
  pub comment : List ℕ
  pub parts : List FilePart
  pub front_is : token_instructions front ≡ Pre 2 postamble.units comment ∷ flat_map instructions parts
  pub tail_is : AllByRecursion IsIdle (token_instructions tail)
  pub units : AreUnits postamble.units
  pub chain : pointers (token_instructions front) ++ postamble.last_bop ∷ [] ≡ negsuc 0 ∷ map pos (places 0 front)
  pub count : postamble.pages ≡ length pages % 65536
  pub fonts : FontsAreRight [] (token_instructions front ++ token_instructions tail)
  pub closing : AllByRecursion (λ f. IsSome (font metrics (definitions (token_instructions tail)) f)) (selections (token_instructions front))
  pub depth : AllByRecursion (λ part. push_depth_of part ≤ min max_pushes postamble.stack_depth) parts
  pub shows : pages_of (bounded_acts (instruction_acts (widths_of metrics (definitions (token_instructions tail))))) parts ≡ Some pages

pub facts_of : (metrics : WidthsByName) (bytes : List ℕ) (pages : List MarkedPage) (f : IsFile metrics bytes pages)
    → Facts metrics f.frame.front f.frame.postamble f.frame.tail pages
facts_of metrics bytes pages f =
    record {
      comment = f.comment;
      parts = f.parts;
      front_is = f.front_is;
      tail_is = f.tail_is;
      units = f.units;
      chain = f.chain;
      count = f.count;
      fonts = f.fonts;
      closing = f.closing;
      depth = f.depth;
      shows = f.shows;
    }

-- Where bytes are a file, these facts hold of every frame of the bytes.
pub facts_at : (metrics : WidthsByName) (bytes : List ℕ) (pages : List MarkedPage) → IsFile metrics bytes pages → (g : Frame bytes)
    → Facts metrics g.front g.postamble g.tail pages
facts_at metrics bytes pages f g =
    let same = one_frame bytes f.frame g in
    subst (λ (front : List Token). Facts metrics front g.postamble g.tail pages) same.front
    (subst (λ (postamble : Postamble). Facts metrics f.frame.front postamble g.tail pages) same.postamble
    (subst (λ (tail : List Token). Facts metrics f.frame.front f.frame.postamble tail pages) same.tail (facts_of metrics bytes pages f)))

-- Where the facts hold of one frame, the bytes are a file.
pub file_at : (metrics : WidthsByName) (bytes : List ℕ) (pages : List MarkedPage) (g : Frame bytes) → Facts metrics g.front g.postamble g.tail pages
    → IsFile metrics bytes pages
file_at metrics bytes pages g f =
    record {
      frame = g;
      comment = f.comment;
      parts = f.parts;
      front_is = f.front_is;
      tail_is = f.tail_is;
      units = f.units;
      chain = f.chain;
      count = f.count;
      fonts = f.fonts;
      closing = f.closing;
      depth = f.depth;
      shows = f.shows;
    }
