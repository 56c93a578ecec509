-- Definitions by number: facts about all of them from the table of the first ones.
use Rattle.std.proofs.Common.{◌≡◌, ◌≢◌, ◌++◌, [], ◌∷◌, List, ℤ, Bool, true, false, Option, Some, None, if◌then◌else◌, refl, sym, ◌∙◌, ap, subst}
use Rattle.std.specs.BTreeMap.{BTreeMap, get}
use Rattle.std.specs.List.{AllByRecursion}
use Rattle.std.specs.Option.{option_map, option_or}
use Rattle.std.specs.Ordering.{int_cmp, int_eq}
use Rattle.std.proofs.lemmas.Bool.Decides.{Decides-int_eq}
use Rattle.dvi_ops.specs.Fonts.{AgreesWith, first_definition_of}
use Rattle.dvi_ops.specs.Instruction.{Definition}
use Rattle.dvi_ops.specs.View.{definition}
use Rattle.dvi_ops.specs.declared.op.FontDefinition.{FontDefinition}
use Rattle.scaled_core.proofs.EachOf.{all_append, all_both, all_weaker}
use Rattle.dvi_scan.specs.Private.FirstDefinitions.{AddsFirst, HasFirstDefinitions}

-- A property of all definitions is one of the first one of a number, which has that number.
by_test : (P : Definition → Type 0) (b : Bool) (x d : Definition) (rest : Option Definition) → (b ≡ true → P x) → (rest ≡ Some d → P d) → (if b then Some x else rest) ≡ Some d → P d
by_test P true x d rest here later e = let same : x ≡ d = cc in subst P same (here refl)
by_test P false x d rest here later e = later e

pub defined_all : (P : Definition → Type 0) (f : ℤ) (ds : List Definition) (d : Definition) → AllByRecursion P ds → first_definition_of f ds ≡ Some d → P d
defined_all P f [] d all e = absurd cc
defined_all P f (x ∷ ds) d (here, all) e = by_test P (int_eq f x.number) x d (first_definition_of f ds) (λ yes. here) (λ later. defined_all P f ds d all later) e

pub defined_number : (f : ℤ) (ds : List Definition) (d : Definition) → first_definition_of f ds ≡ Some d → f ≡ d.number
defined_number f [] d e = absurd cc
defined_number f (x ∷ ds) d e = by_test (λ (d : Definition). f ≡ d.number) (int_eq f x.number) x d (first_definition_of f ds) (λ yes. (Decides-int_eq f x.number).0 yes) (λ later. defined_number f ds d later) e

-- A number without a definition agrees with all.
not_first : (b : Bool) (x : Definition) (rest : Option Definition) → (if b then Some x else rest) ≡ None → (b ≡ false) × (rest ≡ None)
not_first true x rest e = absurd cc
not_first false x rest e = (refl, e)

other_number : (d x : Definition) → int_eq d.number x.number ≡ false → AgreesWith d x
other_number d x differs same = let yes : int_eq d.number x.number ≡ true = (Decides-int_eq d.number x.number).1 same in absurd cc

none_agree : (d : Definition) (ds : List Definition) → first_definition_of d.number ds ≡ None → AllByRecursion (AgreesWith d) ds
none_agree d [] e = tt
none_agree d (x ∷ ds) e = let both = not_first (int_eq d.number x.number) x (first_definition_of d.number ds) e in (other_number d x both.0, none_agree d ds both.1)

-- Two lists, one after the other.
or_test : (b : Bool) (x : Definition) (rest more : Option Definition) → (if b then Some x else option_or rest more) ≡ option_or (if b then Some x else rest) more
or_test true x rest more = refl
or_test false x rest more = refl

pub defined-append : (f : ℤ) (xs ys : List Definition) → first_definition_of f (xs ++ ys) ≡ option_or (first_definition_of f xs) (first_definition_of f ys)
defined-append f [] ys = refl
defined-append f (x ∷ xs) ys =
    ap (λ (rest : Option Definition). if int_eq f x.number then Some x else rest) (defined-append f xs ys) ∙ or_test (int_eq f x.number) x (first_definition_of f xs) (first_definition_of f ys)

module _ (first : BTreeMap ℤ FontDefinition) (all : List Definition) (kept : HasFirstDefinitions first all) (d : Definition) where
  -- No definition of the number is known.
  pub agrees_none : get int_cmp first d.number ≡ None → AllByRecursion (AgreesWith d) all
  agrees_none none = none_agree d all (sym (kept.firsts d.number) ∙ ap (λ (o : Option FontDefinition). option_map definition o) none)

  module _ (e : FontDefinition) (is : get int_cmp first d.number ≡ Some e) where
    there : first_definition_of d.number all ≡ Some (definition e)
    there = sym (kept.firsts d.number) ∙ ap (λ (o : Option FontDefinition). option_map definition o) is

    -- The first one is the same, and so are all; or it differs.
    pub agrees_same : d ≡ definition e → AllByRecursion (AgreesWith d) all
    agrees_same same =
        subst (λ (x : Definition). AllByRecursion (AgreesWith x) all) (sym same) (defined_all (λ (x : Definition). AllByRecursion (AgreesWith x) all) d.number all (definition e) kept.agree there)

    pub agrees_other : d ≢ definition e → AllByRecursion (AgreesWith d) all → ⊥
    agrees_other other agree = other (defined_all (AgreesWith d) d.number all (definition e) agree there (defined_number d.number all (definition e) there))

-- One more definition that agrees with all.
pub kept_more : (old new : BTreeMap ℤ FontDefinition) (all : List Definition) (font : FontDefinition) → HasFirstDefinitions old all → AllByRecursion (AgreesWith (definition font)) all → AddsFirst old new font
    → HasFirstDefinitions new (all ++ definition font ∷ [])
kept_more old new all font kept agrees adds =
    let more : List Definition = definition font ∷ [] in
    record {
      firsts = λ f. adds f ∙ (ap (λ (o : Option Definition). option_or o (first_definition_of f more)) (kept.firsts f) ∙ sym (defined-append f all more));
      agree =
          all_append (λ (d : Definition). AllByRecursion (AgreesWith d) (all ++ more)) all more
          (all_weaker (λ (d : Definition). AllByRecursion (AgreesWith d) all × AgreesWith (definition font) d) (λ (d : Definition). AllByRecursion (AgreesWith d) (all ++ more)) all
          (λ d both. all_append (AgreesWith d) all more both.0 ((λ same. sym (both.1 (sym same))), tt))
          (all_both (λ (d : Definition). AllByRecursion (AgreesWith d) all) (AgreesWith (definition font)) all kept.agree agrees))
          (all_append (AgreesWith (definition font)) all more agrees ((λ same. refl), tt), tt);
    }
