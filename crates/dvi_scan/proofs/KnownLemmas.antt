-- What is right after definitions depends on their set, not on their order.
use Rattle.std.proofs.Common.{◌≡◌, ◌++◌, [], ◌∷◌, List, ℤ, Bool, true, false, Option, Some, if◌then◌else◌, refl, sym, ◌∙◌, ap, subst, inl, inr, append_assoc, append-nil}
use Rattle.std.specs.Prelude.{◌⊎◌, IsSome}
use Rattle.std.specs.Ordering.{int_eq}
use Rattle.std.specs.List.{AllByRecursion}
use Rattle.std.proofs.lemmas.Bool.Decides.{Decides-int_eq}
use Rattle.dvi_ops.specs.Instruction.{Definition, Nop, FontDef, FontNum, Instruction, Do}
use Rattle.dvi_ops.specs.File.{IsIdle}
use Rattle.dvi_ops.specs.Fonts.{AgreesWith, FontsAreRight, IsRightAfter, definitions_in, definitions, first_definition_of, known_after}
use Rattle.dvi_scan.specs.Known.{IsAmong, HasSame}

-- A property of all items of a list is one of each item.
pub all_each : (P : Definition → Type 0) (xs : List Definition) → AllByRecursion P xs → (d : Definition) → IsAmong d xs → P d
all_each P [] all d there = absurd there
all_each P (x ∷ xs) (here, all) d (inl e) = subst P (sym e) here
all_each P (x ∷ xs) (here, all) d (inr there) = all_each P xs all d there

each_all : (P : Definition → Type 0) (xs : List Definition) → ((d : Definition) → IsAmong d xs → P d) → AllByRecursion P xs
each_all P [] each = tt
each_all P (x ∷ xs) each = (each x (inl refl), each_all P xs (λ d there. each d (inr there)))

pub all_fewer : (P : Definition → Type 0) (xs ys : List Definition) → ((d : Definition) → IsAmong d ys → IsAmong d xs) → AllByRecursion P xs → AllByRecursion P ys
all_fewer P xs ys fewer all = each_all P ys (λ d there. all_each P xs all d (fewer d there))

-- A number is defined exactly where one of its definitions is there.
by_number : (f : ℤ) (x : Definition) (xs : List Definition) (b : Bool) → int_eq f x.number ≡ b → (IsSome (first_definition_of f xs) → (d : Definition) × (f ≡ d.number) × IsAmong d xs)
    → IsSome (if b then Some x else first_definition_of f xs) → (d : Definition) × (f ≡ d.number) × IsAmong d (x ∷ xs)
by_number f x xs true e later some = (x, (Decides-int_eq f x.number).0 e, inl refl)
by_number f x xs false e later some = let rest = later some in (rest.0, rest.1, inr rest.2)

pub defined_among : (f : ℤ) (xs : List Definition) → IsSome (first_definition_of f xs) → (d : Definition) × (f ≡ d.number) × IsAmong d xs
defined_among f [] some = absurd cc
defined_among f (x ∷ xs) some = by_number f x xs (int_eq f x.number) refl (defined_among f xs) some

first_or_later : (x : Definition) (b : Bool) (rest : Option Definition) → IsSome rest → IsSome (if b then Some x else rest)
first_or_later x true rest some = refl
first_or_later x false rest some = some

pub among_defined : (f : ℤ) (xs : List Definition) (d : Definition) → f ≡ d.number → IsAmong d xs → IsSome (first_definition_of f xs)
among_defined f [] d e there = absurd there
among_defined f (x ∷ xs) d e (inl same) =
    let yes : int_eq f x.number ≡ true = (Decides-int_eq f x.number).1 (e ∙ ap (λ (d : Definition). d.number) same) in rw yes refl
among_defined f (x ∷ xs) d e (inr there) = first_or_later x (int_eq f x.number) (first_definition_of f xs) (among_defined f xs d e there)

-- Two lists, one after the other.
pub among_cut : (d : Definition) (xs ys : List Definition) → IsAmong d (xs ++ ys) → IsAmong d xs ⊎ IsAmong d ys
among_cut d [] ys there = inr there
among_cut d (x ∷ xs) ys (inl e) = inl (inl e)
among_cut d (x ∷ xs) ys (inr there) = shifted (among_cut d xs ys there)
  where
    shifted : IsAmong d xs ⊎ IsAmong d ys → IsAmong d (x ∷ xs) ⊎ IsAmong d ys
    shifted (inl there) = inl (inr there)
    shifted (inr there) = inr there

pub among_front : (d : Definition) (xs ys : List Definition) → IsAmong d xs → IsAmong d (xs ++ ys)
among_front d [] ys there = absurd there
among_front d (x ∷ xs) ys (inl e) = inl e
among_front d (x ∷ xs) ys (inr there) = inr (among_front d xs ys there)

pub among_back : (d : Definition) (xs ys : List Definition) → IsAmong d ys → IsAmong d (xs ++ ys)
among_back d [] ys there = there
among_back d (x ∷ xs) ys there = inr (among_back d xs ys there)

-- The same definitions, each with the same ones added.
pub same_more : (xs ys ds : List Definition) → HasSame xs ys → HasSame (xs ++ ds) (ds ++ ys)
same_more xs ys ds same =
    record {
      there = λ d in_all. elim (among_cut d xs ds in_all) [ inl one ↦ among_back d ds ys (same.there d one) | inr one ↦ among_front d ds ys one ];
      back = λ d in_all. elim (among_cut d ds ys in_all) [ inl one ↦ among_back d xs ds one | inr one ↦ among_front d xs ds (same.back d one) ];
    }

pub same_self : (xs : List Definition) → HasSame xs xs
same_self xs = record { there = λ d there. there; back = λ d there. there }

pub same_after : (xs ys : List Definition) (is : List Instruction) → HasSame xs ys → HasSame (xs ++ definitions is) (known_after ys is)
same_after xs ys [] same = subst (λ (zs : List Definition). HasSame zs ys) (sym (append-nil xs)) same
same_after xs ys (i ∷ is) same =
    subst (λ (zs : List Definition). HasSame zs (known_after ys (i ∷ is))) (append_assoc xs (definitions_in i) (definitions is))
    (same_after (xs ++ definitions_in i) (definitions_in i ++ ys) is (same_more xs ys (definitions_in i) same))

-- An instruction is right after one list where it is right after the same definitions.
pub same_right : (xs ys : List Definition) (i : Instruction) → HasSame xs ys → IsRightAfter xs i → IsRightAfter ys i
same_right xs ys (Do (FontDef d)) same (size, all) = (size, all_fewer (AgreesWith d) xs ys same.back all)
same_right xs ys (Do (FontNum f)) same some = let found = defined_among f xs some in among_defined f ys found.0 found.1 (same.there found.0 found.2)
same_right xs ys i same right = tt

pub fonts_same : (xs ys : List Definition) (is : List Instruction) → HasSame xs ys → FontsAreRight xs is → FontsAreRight ys is
fonts_same xs ys [] same right = tt
fonts_same xs ys (i ∷ is) same (here, right) =
    (same_right xs ys i same here, fonts_same (definitions_in i ++ xs) (definitions_in i ++ ys) is (both (definitions_in i)) right)
  where
    both : (ds : List Definition) → HasSame (ds ++ xs) (ds ++ ys)
    both ds =
        record {
          there = λ d in_all. elim (among_cut d ds xs in_all) [ inl one ↦ among_front d ds ys one | inr one ↦ among_back d ds ys (same.there d one) ];
          back = λ d in_all. elim (among_cut d ds ys in_all) [ inl one ↦ among_front d ds xs one | inr one ↦ among_back d ds xs (same.back d one) ];
        }

-- A nop or a definition that is right after some definitions is right after fewer.
fewer_right : (xs ys : List Definition) (i : Instruction) → IsIdle i → ((d : Definition) → IsAmong d ys → IsAmong d xs) → IsRightAfter xs i → IsRightAfter ys i
fewer_right xs ys (Do Nop) idle fewer right = tt
fewer_right xs ys (Do (FontDef d)) idle fewer (size, all) = (size, all_fewer (AgreesWith d) xs ys fewer all)
fewer_right xs ys i idle fewer right = absurd idle

pub fonts_fewer : (xs ys : List Definition) (is : List Instruction) → AllByRecursion IsIdle is → ((d : Definition) → IsAmong d ys → IsAmong d xs) → FontsAreRight xs is → FontsAreRight ys is
fonts_fewer xs ys [] idle fewer right = tt
fonts_fewer xs ys (i ∷ is) (first, idle) fewer (here, right) =
    (fewer_right xs ys i first fewer here, fonts_fewer (definitions_in i ++ xs) (definitions_in i ++ ys) is idle both right)
  where
    both : (d : Definition) → IsAmong d (definitions_in i ++ ys) → IsAmong d (definitions_in i ++ xs)
    both d in_all =
        elim (among_cut d (definitions_in i) ys in_all) [ inl one ↦ among_front d (definitions_in i) xs one | inr one ↦ among_back d (definitions_in i) xs (fewer d one) ]

pub same_sym : (xs ys : List Definition) → HasSame xs ys → HasSame ys xs
same_sym xs ys same = record { there = same.back; back = same.there }
