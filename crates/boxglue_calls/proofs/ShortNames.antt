-- The names of fonts that are missing: each is in a definition of the file, whose length is one byte.
use Rattle.std.proofs.Common.{◌≡◌, ◌≤◌, ◌<◌, ◌+◌, ◌++◌, ℕ, ℤ, suc, zero, [], ◌∷◌, List, take, drop, take-append-drop, length, inl, inr, ap, refl, sym, subst, ◌∙◌, arith}
use Rattle.std.specs.Prelude.{min, slice_index}
use Rattle.std.specs.List.{AllByRecursion}
use Rattle.scaled_core.proofs.EachOf.{all_append}
use Rattle.tfm_core.specs.FileWidths.{file_widths}
use Rattle.tfm_core.specs.NamedBytes.{NamedBytes}
use Rattle.dvi_ops.specs.File.{max_pushes}
use Rattle.dvi_ops.specs.Fonts.{definitions, definitions_in}
use Rattle.dvi_ops.specs.Instruction.{Definition, Do, FontDef, Instruction, Postamble}
use Rattle.dvi_ops.specs.Table.{SaysDefinition, Spells}
use Rattle.dvi_ops.specs.Tokens.{IsSpelled, Token, token_bytes, token_instructions}
use Rattle.dvi_scan.proofs.FirstDefinitionLemmas.{defined_all}
use Rattle.dvi_scan.specs.Reached.{IsReached, ReadSoFar}
use Rattle.dvi_scan.specs.declared.widths.FontRefusal.TheVariants.{NoFont, BadTfm, DimensionTooLarge}
use Rattle.dvi_read.specs.Opening.{IsDviFault, IsFrontFault, BeforeThePages, ForPlaces, AtTheEnd, InTheChain, InThePreamble, InThePrescan}
use Rattle.dvi_read.specs.Opening.{InThePages, AtPost, AfterPost, ForDefinitions}
use Rattle.dvi_read.specs.WalkFaults.{IsPagesFault, PageBytes, page_bytes}
use Rattle.dvi_read.specs.declared.fault.DviFault.{DviFault}
use Rattle.dvi_read.specs.declared.fault.DviFault.TheVariants as faults
use Rattle.boxglue_calls.specs.FileFaults.{ChecksFile, fault_numbers, missing_name}
use Rattle.boxglue_calls.specs.declared.faults.Fault.{Fault}

-- Each of these numbers is a byte.
abbrev AreBytes : List ℕ → Type 0
AreBytes bytes = (k : ℕ) → slice_index bytes k < 256

front_bytes : (a b : List ℕ) (k : ℕ) → AreBytes (a ++ b) → slice_index a k < 256
front_bytes [] b k small = omega arith
front_bytes (x ∷ a) b zero small = small zero
front_bytes (x ∷ a) b (suc k) small = front_bytes a b k (λ j. small (suc j))

back_bytes : (a b : List ℕ) → AreBytes (a ++ b) → AreBytes b
back_bytes [] b small = small
back_bytes (x ∷ a) b small = back_bytes a b (λ j. small (suc j))

taken_bytes : (n : ℕ) (bytes : List ℕ) → AreBytes bytes → AreBytes (take n bytes)
taken_bytes n bytes small =
    λ k. front_bytes (take n bytes) (drop n bytes) k (subst AreBytes (sym (take-append-drop n bytes)) small)

-- The name of a definition is short.
abbrev HasShortName : Definition → Type 0
HasShortName d = length d.name < 256

spelled_name : (d : Definition) (bytes : List ℕ) → SaysDefinition d bytes → AreBytes bytes → HasShortName d
spelled_name d bytes (check_sum, size, design_size, is, sum_is, size_is, design_is) small =
    let sizes : List ℕ = length d.area ∷ length d.name ∷ (d.area ++ d.name) in
    let whole : AreBytes (check_sum ++ (size ++ (design_size ++ sizes))) = subst AreBytes is small in
    let rest = back_bytes design_size sizes (back_bytes size (design_size ++ sizes) (back_bytes check_sum (size ++ (design_size ++ sizes)) whole)) in
    rest (suc zero)

-- The definitions in an instruction, and among the instructions of a file.
instruction_names : (i : Instruction) (bytes : List ℕ) → Spells i bytes → AreBytes bytes → AllByRecursion HasShortName (definitions_in i)
instruction_names (Do (FontDef d)) bytes (n, number, rest, least, most, is, size, code_is, says) small =
    let whole : AreBytes ((242 + n) ∷ (number ++ rest)) = subst AreBytes is small in
    (spelled_name d rest says (back_bytes number rest (λ j. whole (suc j))), tt)
instruction_names i bytes spelled small = tt

all_names : (tokens : List Token) → AllByRecursion IsSpelled tokens → AreBytes (token_bytes tokens)
    → AllByRecursion HasShortName (definitions (token_instructions tokens))
all_names [] spelled small = tt
all_names (t ∷ tokens) (here, spelled) small =
    all_append HasShortName (definitions_in t.says) (definitions (token_instructions tokens))
    (instruction_names t.says t.bytes here (λ k. front_bytes t.bytes (token_bytes tokens) k small))
    (all_names tokens spelled (back_bytes t.bytes (token_bytes tokens) small))

known_names : (files : List NamedBytes) (after_post : List ℤ) (bytes : List ℕ) (postamble : Postamble) (chain : List ℕ) (at : ℕ) (s : ReadSoFar)
    → AreBytes bytes → IsReached (file_widths files) after_post bytes postamble chain at s → AllByRecursion HasShortName s.known
known_names files after_post bytes postamble chain at s small r =
    subst (λ (ds : List Definition). AllByRecursion HasShortName ds) r.known_is
    (all_names r.before r.spelled (subst AreBytes (sym r.whole) (taken_bytes at bytes small)))

-- No other fault has the name of a font.
no_name : (fault other : DviFault) → fault ≡ other → missing_name other ≡ [] → length (missing_name fault) ≤ 255
no_name fault other is none = let size : length (missing_name fault) ≡ 0 = ap (λ (f : DviFault). length (missing_name f)) is ∙ ap (λ (l : List ℕ). length l) none in omega arith

front_names : (bytes : List ℕ) (fault : DviFault) → IsFrontFault bytes fault → length (missing_name fault) ≤ 255
front_names bytes fault (ForPlaces post e postamble is has names) = no_name fault faults.OutOfMemory is refl
front_names bytes fault (AtTheEnd bad is breaks) = no_name fault (faults.Bad bad) is refl
front_names bytes fault (InTheChain bad post e postamble is has breaks) = no_name fault (faults.Bad bad) is refl
front_names bytes fault (InThePreamble bad post after last postamble chain is has broken) = no_name fault (faults.Bad bad) is refl

pages_names : (files : List NamedBytes) (part : PageBytes) (at : ℕ) (s : ReadSoFar) (fault : DviFault) → AllByRecursion HasShortName s.known
    → IsPagesFault files part at s fault → length (missing_name fault) ≤ 255
pages_names files part at s faults.OutOfMemory known is = omega arith
pages_names files part at s (faults.Bad bad) known is = omega arith
pages_names files part at s (faults.Font (BadTfm number cause)) known is = omega arith
pages_names files part at s (faults.Font (DimensionTooLarge number)) known is = omega arith
pages_names files part at s (faults.Font (NoFont name)) known (f, spelled, selects) =
    let short : HasShortName selects.unread.font = defined_all HasShortName f s.known selects.unread.font known selects.unread.found in
    let same : length name.now ≡ length selects.unread.font.name = ap (λ (l : List ℕ). length l) selects.unread.refused.0 in
    omega (arith, short, same)

pub missing_names : (files : List NamedBytes) (bytes : List ℕ) (fault : DviFault) → ((k : ℕ) → slice_index bytes k < 256)
    → IsDviFault files bytes fault → length (missing_name fault) ≤ 255
missing_names files bytes fault small (BeforeThePages broken) = front_names bytes fault broken
missing_names files bytes fault small (InThePrescan post after last postamble chain from is starts lacks) =
    no_name fault faults.OutOfMemory is refl
missing_names files bytes fault small (InThePages post after last postamble chain from after_post starts looked (at, has) stray) =
    pages_names files (page_bytes after_post bytes (min max_pushes postamble.stack_depth) post) at has.seen fault
    (known_names files after_post bytes postamble chain at has.seen small has.reached) has.fault_is
missing_names files bytes fault small (AtPost bad post after last postamble chain from after_post seen is has unended unmet) =
    no_name fault (faults.Bad bad) is refl
missing_names files bytes fault small (AfterPost bad post after last postamble chain from after_post seen pages new is has ended closing) =
    no_name fault (faults.Bad bad) is refl
missing_names files bytes fault small (ForDefinitions post after last postamble chain from after_post seen pages new is has ended closing) =
    no_name fault faults.OutOfMemory is refl

-- The size of the name is the one in the numbers of a fault.
size_is : (fault : DviFault) → (fault_numbers fault).name_size ≡ length (missing_name fault)
size_is faults.OutOfMemory = refl
size_is (faults.Bad bad) = refl
size_is (faults.Font (BadTfm number cause)) = refl
size_is (faults.Font (DimensionTooLarge number)) = refl
size_is (faults.Font (NoFont name)) = refl

pub name_sizes : (files : List NamedBytes) (bytes : List ℕ) (name : List ℕ × List ℕ) (numbers : Fault) (status : ℕ)
    → ((k : ℕ) → slice_index bytes k < 256) → ChecksFile files bytes name numbers status → numbers.name_size ≤ 255
name_sizes files bytes name numbers status small (inl accepts) =
    let none = ap (λ (f : Fault). f.name_size) accepts.numbers_are in omega (arith, none)
name_sizes files bytes name numbers status small (inr refuses) =
    let size = ap (λ (f : Fault). f.name_size) refuses.numbers_are ∙ size_is refuses.fault in
    omega (arith, size, missing_names files bytes refuses.fault small refuses.broken)
