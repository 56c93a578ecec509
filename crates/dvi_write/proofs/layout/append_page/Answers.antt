use Rattle.std.proofs.Common.{◌≡◌, ◌∙◌, ◌++◌, [], ◌∷◌, List, ℕ, ℤ, Result, Ok, Err, OnOk, OnErr, ap, sym, subst, length, take, append_assoc, to_z, of_z, w32, arith}
use Rattle.std.proofs.lemmas.Int.{ints}
use Rattle.std.proofs.lemmas.Grind.{flat_map-append}
use Rattle.std.proofs.lemmas.List.{append-nil}
use Rattle.dvi_ops.specs.Instruction.{Instruction, Bop}
use Rattle.dvi_ops.specs.Layout.{bytes_of}
use Rattle.dvi_ops.specs.Spelling.{spelling}
use Rattle.dvi_ops.proofs.Kept.{kept_by_append, kept_in_front, kept_same}
use Rattle.dvi_write.proofs.layout.append_page.Goals as goal

-- The bytes of an instruction, of others, and of one more.
page_bytes :
    {A E : Type 0} (r : Result A E) (before opened filled after : List ℕ) (i j : Instruction) (is : List Instruction) → opened ≡ before ++ spelling i
    → filled ≡ opened ++ bytes_of is → OnOk r (after ≡ filled ++ spelling j) → OnOk r (after ≡ before ++ bytes_of (i ∷ (is ++ j ∷ [])))
page_bytes (Ok x) before opened filled after i j is first second third =
    let last : bytes_of is ++ spelling j ≡ bytes_of (is ++ j ∷ []) =
    ap (λ (bs : List ℕ). bytes_of is ++ bs) (sym (append-nil (spelling j))) ∙ sym (flat_map-append spelling is (j ∷ [])) in
    third
    ∙ (ap (λ (bs : List ℕ). bs ++ spelling j) (second ∙ ap (λ (bs : List ℕ). bs ++ bytes_of is) first)
    ∙ (append_assoc (before ++ spelling i) (bytes_of is) (spelling j)
    ∙ (append_assoc before (spelling i) (bytes_of is ++ spelling j) ∙ ap (λ (bs : List ℕ). before ++ (spelling i ++ bs)) last)))
page_bytes (Err e) before opened filled after i j is first second third = tt

-- What holds at an error.
at_err : {A E P : Type 0} (r : Result A E) → P → OnErr r P
at_err (Ok x) holds = tt
at_err (Err e) holds = holds

pub returns-in_err-append_to-clause-left : goal.returns-in_err-append_to-clause-left
returns-in_err-append_to-clause-left c =
    at_err _ (ap (take (length c.args.bytes.now.items)) c.in_err-append_to.ensures.err ∙ kept_by_append _ _ _ c.in_ok-spell.ensures.ok)

pub returns-clause-ok : goal.returns-clause-ok
returns-clause-ok c =
    let same : to_z w32 (of_z w32 c.args.last) ≡ c.args.last = omega (arith, ints, c.ranges.last.sfits) in
    let opened =
    subst (λ (last : ℤ). c.spell.new.out.items ≡ c.args.bytes.now.items ++ spelling (Bop c.args.counts.now last)) same c.in_ok-spell.ensures.ok in
    page_bytes _ _ _ _ _ _ _ _ opened c.in_ok-append_to.ensures.ok c.spell-2.ensures.ok

pub returns-clause-left : goal.returns-clause-left
returns-clause-left c =
    kept_same _ _ _ _ (kept_in_front _ _ _ _ (kept_by_append _ _ _ c.in_ok-spell.ensures.ok) c.in_ok-append_to.ensures.ok) c.spell-2.ensures.err
