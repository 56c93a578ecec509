-- The file of a job is within the limits, so each place in it is below 2^31.
use Rattle.std.proofs.Common.{◌≡◌, ℕ, ◌+◌, ◌*◌, ◌≤◌, ◌<◌, ◌^◌, Bool, true, false, List, [], ◌∷◌, ◌++◌, length, replicate, Option, Some, None, refl, ap, sym, ◌∙◌, subst, arith, length-append}
use Rattle.std.specs.Prelude.{pos, zero, suc, nat_le, nat_lt, if◌then◌else◌, IfSome}
use Rattle.std.specs.List.{AllByRecursion}
use Rattle.std.proofs.lemmas.List.{length-replicate}
use Rattle.dvi_ops.specs.Instruction.{Post, PostPost}
use Rattle.dvi_ops.specs.Layout.{bytes_of, define, padding_after}
use Rattle.dvi_ops.specs.Spelling.{spelling}
use Rattle.dvi_ops.proofs.Layouts.{length-bytes_of-append}
use Rattle.dvi_ops.proofs.Shortest.{postamble_length, ending_length}
use Rattle.node_core.specs.Nodes.{box_count, box_text}
use Rattle.node_core.specs.declared.limits.TheConstants.{MAX_PAGES, MAX_SHIPPED_NODES, MAX_SHIPPED_TEXT}
use Rattle.page_core.specs.Marks.{ShippedPage, is_huge}
use Rattle.tfm_core.specs.NamedBytes.{NamedBytes}
use Rattle.dvi_write.specs.declared.fault.WriteFault.TheVariants.{JobOver, TooManyPages, TooMuchShipped, TooMuchSpecial, HugePage}
use Rattle.tfm_core.specs.Slots.{Slots, IsDefinable, AreDefinable}
use Rattle.dvi_write.specs.FilePages.{definitions_of, in_rising_order}
use Rattle.dvi_write.specs.Layout.{unfinished_file, whole}
use Rattle.dvi_write.specs.Shippable.{IsRightPage}
use Rattle.dvi_write.specs.SoFar.{ProgressView, with_next, postamble_so_far, closing_so_far, last_bytes}
use Rattle.dvi_write.specs.Limits.{IsWithinLimits, limit_of}
use Rattle.dvi_write.proofs.DefinedFonts.{few_defined}
use Rattle.dvi_write.proofs.PageBytes.{HasShortNames, definition_bytes}
use Rattle.dvi_write.proofs.Spaces.{first_space, space_next, short_names}
use Rattle.dvi_write.specs.Writing.{Writing, HasWritten, refusal_of}
use Rattle.dvi_write.proofs.Writings.{ended_size, none_ended}
use Rattle.job_state.specs.Private.Loaded.{IsLoaded, AreLoaded}
use Rattle.job_core.specs.Private.Sound.{IsBoundedFile}

-- Fonts that were loaded can be defined.
definable_each : (files : List NamedBytes) (fonts : Slots) → AllByRecursion (λ slot. IfSome slot (IsLoaded files)) fonts → AllByRecursion (λ slot. IfSome slot IsDefinable) fonts
definable_each files [] all = tt
definable_each files (None ∷ fonts) (here, all) = (tt, definable_each files fonts all)
definable_each files (Some l ∷ fonts) (here, all) = (record { name = here.name; numbers = here.numbers }, definable_each files fonts all)

pub definable : (files : List NamedBytes) (fonts : Slots) → AreLoaded files fonts → AreDefinable fonts
definable files fonts loaded = record { slots = loaded.slots; each = definable_each files fonts loaded.each }

-- The file of a new writer has no page.
pub bounded_first : (fonts : Slots) (before : Option (List ℕ)) (w : Writing) → HasWritten fonts before w [] → IsBoundedFile fonts w
unfolding unfinished_file
bounded_first fonts before w written =
    record { space = subst IsWithinLimits (sym written.so_far) first_space; before = before; pages = []; written = written }

last_of : {A : Type 0} (P : A → Type 0) (xs : List A) (x : A) → AllByRecursion P (xs ++ x ∷ []) → P x
last_of P [] x (here, all) = here
last_of P (y ∷ xs) x (here, all) = last_of P xs x all

-- A page that no limit refuses is not huge.
admitted : (s : ProgressView) (page : ShippedPage) → limit_of s page ≡ None → limit_of s page ≡ (if is_huge page then Some HugePage else None)
admitted s page none =
    by_tests (nat_le MAX_PAGES s.pages) (nat_lt MAX_SHIPPED_NODES (s.load.nodes + box_count page.box_node)) (nat_lt MAX_SHIPPED_TEXT (s.load.text + box_text page.box_node)) (is_huge page) none
  where
    by_tests : (a b t c : Bool) → (if a then Some TooManyPages else if b then Some TooMuchShipped else if t then Some TooMuchSpecial else if c then Some HugePage else None) ≡ None
        → (if a then Some TooManyPages else if b then Some TooMuchShipped else if t then Some TooMuchSpecial else if c then Some HugePage else None) ≡ (if c then Some HugePage else None)
    by_tests true b t c none = cc
    by_tests false true t c none = cc
    by_tests false false true c none = cc
    by_tests false false false c none = refl

-- The file stays within the limits with a page that is not refused.
pub bounded_next : (fonts : Slots) (old new : Writing) (page : ShippedPage) → AreDefinable fonts → refusal_of old page ≡ None → new.so_far ≡ with_next fonts old.so_far page
    → ((before : Option (List ℕ)) (pages : List ShippedPage) → HasWritten fonts before old pages → HasWritten fonts before new (pages ++ page ∷ []))
    → IsBoundedFile fonts old → IsBoundedFile fonts new
bounded_next fonts old new page definable may kept on bounded =
    let written = on bounded.before bounded.pages bounded.written in
    let right : IsRightPage fonts page = last_of (IsRightPage fonts) bounded.pages page written.right in
    let none : limit_of old.so_far page ≡ None = sym (ap (λ (over : Bool). if over then Some JobOver else limit_of old.so_far page) bounded.written.running) ∙ may in
    record {
      space = subst IsWithinLimits (sym kept)
          (space_next fonts old.so_far page definable right.sound right.ten (admitted old.so_far page none) bounded.space);
      before = bounded.before;
      pages = bounded.pages ++ page ∷ [];
      written = written;
    }

-- The bytes from post to the end of the file are few.
few_last_bytes : (fonts : Slots) (s : ProgressView) → HasShortNames fonts → IsWithinLimits s → length (last_bytes fonts s) ≤ 42 + 271 * 256
unfolding last_bytes
few_last_bytes fonts s short space =
    let slots = in_rising_order s.defined in
    let fill = padding_after (s.layout.size + length (bytes_of (closing_so_far fonts s))) in
    let post_post = PostPost (pos s.layout.size) 2 in
    omega (
      arith,
      length-append (bytes_of (closing_so_far fonts s)) (replicate fill 223),
      length-replicate {A = ℕ} fill 223,
      length-append (spelling (Post (postamble_so_far s))) (bytes_of (define (definitions_of fonts slots) ++ post_post ∷ [])),
      postamble_length (postamble_so_far s),
      length-bytes_of-append (define (definitions_of fonts slots)) (post_post ∷ []),
      definition_bytes fonts slots short,
      length-append (spelling post_post) [],
      ending_length (pos s.layout.size) 2,
      space.defined,
      few_defined s.defined space.defined,
    )

pub small_whole : (fonts : Slots) (w : Writing) → AreDefinable fonts → (bounded : IsBoundedFile fonts w) → length (whole fonts bounded.pages) < 2 ^ 31
small_whole fonts w definable bounded = by_pages w.so_far.pages refl
  where
    by_pages : (n : ℕ) → w.so_far.pages ≡ n → length (whole fonts bounded.pages) < 2 ^ 31
    by_pages zero is = omega (arith, none_ended fonts bounded.before w bounded.pages bounded.written is)
    by_pages (suc n) is =
        let space = bounded.space in
        omega (
          arith,
          ended_size fonts bounded.before w bounded.pages bounded.written (λ none. absurd (omega (arith, none, is))),
          few_last_bytes fonts w.so_far (short_names fonts definable) space,
          space.size,
          space.nodes,
          space.text,
          space.pages,
          few_defined w.so_far.defined space.defined,
        )

-- The length of the file, as the writer gives it, is below 2^31.
pub small_file : (files : List NamedBytes) (held fonts : Slots) (w : Writing) (bytes : ℕ) → fonts ≡ held → AreLoaded files held → IsBoundedFile held w
    → ((before : Option (List ℕ)) (pages : List ShippedPage) → HasWritten fonts before w pages → bytes ≡ length (whole fonts pages)) → bytes < 2 ^ 31
small_file files held fonts w bytes same loaded bounded size =
    let sized : (before : Option (List ℕ)) (pages : List ShippedPage) → HasWritten held before w pages → bytes ≡ length (whole held pages) =
    subst (λ (f : Slots). (before : Option (List ℕ)) (pages : List ShippedPage) → HasWritten f before w pages → bytes ≡ length (whole f pages)) same size in
    omega (arith, sized bounded.before bounded.pages bounded.written, small_whole held w (definable files held loaded) bounded)
