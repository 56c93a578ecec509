-- A writer, and the pages that it has written.
use Rattle.std.proofs.Common.{◌≡◌, ◌≢◌, ℕ, ◌+◌, ◌<◌, ◌^◌, List, [], ◌∷◌, ◌++◌, length, take, inl, inr, refl, ap, sym, subst, ◌∙◌, arith, append-nil, length-append}
use Rattle.std.specs.Prelude.{Bool, true, false, if◌then◌else◌, ◌⊎◌, Option, Some, None, Result, Ok, Err, is_err, OnOk, OnErr}
use Rattle.std.proofs.Math.Seq.{take-append-add}
use Rattle.std.proofs.lemmas.List.{nil_from_length}
use Rattle.scaled_core.proofs.EachOf.{all_append}
use Rattle.dvi_device.specs.Written.{written_then, GrowsByFront}
use Rattle.dvi_device.specs.Pasts.{Past, past_after, KeepsPast}
use Rattle.dvi_device.proofs.Tellings.{grown-grown}
use Rattle.dvi_device.proofs.PastLaws.{keeps_both, past_after_both}
use Rattle.page_core.specs.Marks.{ShippedPage, is_huge}
use Rattle.dvi_write.specs.declared.fault.WriteFault.{WriteFault}
use Rattle.dvi_write.specs.declared.fault.WriteFault.TheVariants.{Device, HugePage, JobOver, OutOfMemory}
use Rattle.tfm_core.specs.Slots.{Slots}
use Rattle.dvi_write.specs.MoreFonts.{Extends}
use Rattle.dvi_write.specs.Layout.{unfinished_file, whole}
use Rattle.dvi_write.specs.Shippable.{IsRightPage}
use Rattle.dvi_write.specs.SoFar.{ProgressView, nothing_so_far, so_far_of, next_bytes, with_next, last_bytes}
use Rattle.dvi_write.specs.Limits.{IsWithinLimits, limit_of}
use Rattle.dvi_write.specs.Writing.{GoesOn, HasWritten, RefusesPage, Writing, refusal_of}
use Rattle.dvi_write.proofs.Spaces.{small}
use Rattle.dvi_write.proofs.NextPages.{front-append, pages-are, size-some, so_far-append, whole-is}
use Rattle.dvi_write.proofs.MoreFonts.{front_more, so_far_more, pages_more}

grown-none : (bytes_written : Option (List ℕ)) → bytes_written ≡ written_then bytes_written []
grown-none None = refl
grown-none (Some bytes) = ap Some (sym (append-nil bytes))

-- Nothing more was sent.
pub goes_not : (w : Writing) → GoesOn w w
goes_not w = record { more = []; grows = grown-none w.bytes_written; began = refl }

-- A call of the device that failed sent a beginning of the bytes.
pub goes_by_front : {A E : Type 0} (r : Result A E) (old new : Writing) (bytes : List ℕ) → is_err r ≡ true → OnErr r (GrowsByFront old.bytes_written new.bytes_written bytes)
    → new.began ≡ old.began → GoesOn old new
goes_by_front (Ok x) old new bytes failed grows began = absurd (cc)
goes_by_front (Err e) old new bytes failed grows began = record { more = take grows.0 bytes; grows = grows.2; began = began }

-- One that did not fail sent all of them.
pub goes_by_all : {A E : Type 0} (r : Result A E) (old new : Writing) (bytes : List ℕ) → is_err r ≡ false → OnOk r (new.bytes_written ≡ written_then old.bytes_written bytes)
    → new.began ≡ old.began → GoesOn old new
goes_by_all (Ok x) old new bytes fine grows began = record { more = bytes; grows = grows; began = began }
goes_by_all (Err e) old new bytes fine grows began = absurd (cc)

-- More was sent twice.
pub goes_further : (old now new : Writing) → GoesOn old now → GoesOn now new → GoesOn old new
goes_further old now new first second = record {
  more = first.more ++ second.more;
  grows = second.grows ∙ (ap (λ (o : Option (List ℕ)). written_then o second.more) first.grows ∙ grown-grown old.bytes_written first.more second.more);
  began = second.began ∙ first.began;
}

-- A new writer has written no page.
pub written_none : (fonts : Slots) (w : Writing) → w.so_far ≡ nothing_so_far → w.over ≡ false → w.past ≡ w.began → HasWritten fonts w.bytes_written w []
unfolding unfinished_file
written_none fonts w nothing running new = record { bytes_written = grown-none w.bytes_written; past = new; so_far = nothing; right = tt; running = running }

-- The bytes sent for a page after others are the end of the front of all of them.
sent_front : (fonts : Slots) (before : Option (List ℕ)) (w : Writing) (pages : List ShippedPage) (page : ShippedPage) (more : List ℕ) → HasWritten fonts before w pages
    → written_then w.bytes_written more ≡ written_then before (unfinished_file fonts pages ++ more)
sent_front fonts before w pages page more written = ap (λ bytes_written. written_then bytes_written more) written.bytes_written ∙ grown-grown before (unfinished_file fonts pages) more

next-same : (fonts : Slots) (before : Option (List ℕ)) (w : Writing) (pages : List ShippedPage) (page : ShippedPage) → HasWritten fonts before w pages
    → unfinished_file fonts pages ++ next_bytes fonts w.so_far page ≡ unfinished_file fonts (pages ++ page ∷ [])
next-same fonts before w pages page written =
    ap (λ s. unfinished_file fonts pages ++ next_bytes fonts s page) written.so_far ∙ sym (front-append fonts pages page)

-- The past of a device after one more page.
past_after_front : (fonts : Slots) (before : Option (List ℕ)) (old : Writing) (new : Past) (pages : List ShippedPage) (page : ShippedPage) → HasWritten fonts before old pages
    → new ≡ past_after old.past (next_bytes fonts old.so_far page) → new ≡ past_after old.began (unfinished_file fonts (pages ++ page ∷ []))
past_after_front fonts before old new pages page written past =
    past_after_both old.began old.past new (unfinished_file fonts pages) (next_bytes fonts old.so_far page) written.past past
    ∙ ap (past_after old.began) (next-same fonts before old pages page written)

-- Why a page is refused while the file is not over.
unrefused : (w : Writing) (page : ShippedPage) → w.over ≡ false → refusal_of w page ≡ limit_of w.so_far page
unrefused w page running = ap (λ (over : Bool). if over then Some JobOver else limit_of w.so_far page) running

pub may_go : (w : Writing) (page : ShippedPage) → w.over ≡ false → limit_of w.so_far page ≡ (if is_huge page then Some HugePage else None) → is_huge page ≡ false
    → refusal_of w page ≡ None
may_go w page running limit small = unrefused w page running ∙ (limit ∙ ap (λ (huge : Bool). if huge then Some HugePage else None) small)

pub refused_by : (w : Writing) (page : ShippedPage) (fault : WriteFault) → w.over ≡ false → limit_of w.so_far page ≡ (if is_huge page then Some HugePage else None)
    → fault ≡ (if is_huge page then HugePage else OutOfMemory) → RefusesPage w page fault
refused_by w page fault running limit is = by_test (is_huge page) limit is
  where
    by_test : (huge : Bool) → limit_of w.so_far page ≡ (if huge then Some HugePage else None) → fault ≡ (if huge then HugePage else OutOfMemory) → RefusesPage w page fault
    by_test true limit is = inl (unrefused w page running ∙ (limit ∙ ap Some (sym is)))
    by_test false limit is = inr (unrefused w page running ∙ limit, is)

-- A writer that has sent a page has written it after the others.
pub written_more : (fonts : Slots) (before : Option (List ℕ)) (old new : Writing) (pages : List ShippedPage) (page : ShippedPage) → HasWritten fonts before old pages
    → IsRightPage fonts page → new.so_far ≡ with_next fonts old.so_far page → new.bytes_written ≡ written_then old.bytes_written (next_bytes fonts old.so_far page)
    → new.past ≡ past_after old.past (next_bytes fonts old.so_far page) → new.began ≡ old.began → new.over ≡ false → HasWritten fonts before new (pages ++ page ∷ [])
written_more fonts before old new pages page written right kept bytes_written past began running =
    record {
      past = past_after_front fonts before old new.past pages page written past ∙ ap (λ (p : Past). past_after p (unfinished_file fonts (pages ++ page ∷ []))) (sym began);
      bytes_written =
          bytes_written ∙ (sent_front fonts before old pages page (next_bytes fonts old.so_far page) written ∙ ap (written_then before) (next-same fonts before old pages page written));
      so_far = kept ∙ (ap (λ s. with_next fonts s page) written.so_far ∙ sym (so_far-append fonts pages page));
      right = all_append (IsRightPage fonts) pages (page ∷ []) written.right (right, tt);
      running = running;
    }

-- A beginning of what follows other bytes.
front_after : (before old new : Option (List ℕ)) (front more whole : List ℕ) → old ≡ written_then before front → front ++ more ≡ whole → GrowsByFront old new more → GrowsByFront before new whole
front_after before old new front more whole bytes_written same grows =
    let n = grows.0 in (
      length front + n,
      omega (arith, ap length same, length-append front more, grows.1),
      grows.2
          ∙ (ap (λ bytes_written. written_then bytes_written (take n more)) bytes_written
          ∙ (grown-grown before front (take n more)
          ∙ ap (written_then before) (sym (take-append-add front more n) ∙ ap (take (length front + n)) same))),
    )

-- A device that failed during a page has taken a beginning of the front with this page.
pub part_more : (fonts : Slots) (before new : Option (List ℕ)) (old : Writing) (pages : List ShippedPage) (page : ShippedPage) → HasWritten fonts before old pages
    → GrowsByFront old.bytes_written new (next_bytes fonts old.so_far page) → GrowsByFront before new (unfinished_file fonts (pages ++ page ∷ []))
part_more fonts before new old pages page written grows =
    front_after before old.bytes_written new (unfinished_file fonts pages) (next_bytes fonts old.so_far page) (unfinished_file fonts (pages ++ page ∷ [])) written.bytes_written
    (next-same fonts before old pages page written) grows

-- What the device makes of a page in which it failed.
pub past_part : (fonts : Slots) (before : Option (List ℕ)) (old : Writing) (new : Past) (pages : List ShippedPage) (page : ShippedPage) → HasWritten fonts before old pages
    → KeepsPast old.past (next_bytes fonts old.so_far page) new → KeepsPast old.began (unfinished_file fonts (pages ++ page ∷ [])) new
past_part fonts before old new pages page written keeps =
    subst (λ (bytes : List ℕ). KeepsPast old.began bytes new) (next-same fonts before old pages page written)
    (keeps_both old.began old.past new (unfinished_file fonts pages) (next_bytes fonts old.so_far page) written.past keeps)

-- The writer counts its pages.
pub ended_count : (fonts : Slots) (before : Option (List ℕ)) (w : Writing) (pages : List ShippedPage) → HasWritten fonts before w pages → w.so_far.pages ≡ length pages
ended_count fonts before w pages written = ap (λ (s : ProgressView). s.pages) written.so_far ∙ pages-are fonts pages

-- The pages are not empty where their number is not 0.
pub some_pages : (fonts : Slots) (before : Option (List ℕ)) (w : Writing) (pages : List ShippedPage) → HasWritten fonts before w pages → w.so_far.pages ≢ 0 → pages ≢ []
some_pages fonts before w pages written some none = some (ended_count fonts before w pages written ∙ ap length none)

pub no_pages : (fonts : Slots) (before : Option (List ℕ)) (w : Writing) (pages : List ShippedPage) → HasWritten fonts before w pages → w.so_far.pages ≡ 0 → pages ≡ []
no_pages fonts before w pages written none = nil_from_length pages (sym (ended_count fonts before w pages written) ∙ none)

whole-same : (fonts : Slots) (before : Option (List ℕ)) (w : Writing) (pages : List ShippedPage) → HasWritten fonts before w pages → w.so_far.pages ≢ 0
    → unfinished_file fonts pages ++ last_bytes fonts w.so_far ≡ whole fonts pages
whole-same fonts before w pages written some =
    ap (λ s. unfinished_file fonts pages ++ last_bytes fonts s) written.so_far ∙ sym (whole-is fonts pages (some_pages fonts before w pages written some))

-- After the end, the device has taken the whole file.
pub ended_all : (fonts : Slots) (before new : Option (List ℕ)) (old : Writing) (pages : List ShippedPage) → HasWritten fonts before old pages → old.so_far.pages ≢ 0
    → new ≡ written_then old.bytes_written (last_bytes fonts old.so_far) → new ≡ written_then before (whole fonts pages)
ended_all fonts before new old pages written some bytes_written =
    bytes_written
    ∙ (ap (λ bytes_written. written_then bytes_written (last_bytes fonts old.so_far)) written.bytes_written
    ∙ (grown-grown before (unfinished_file fonts pages) (last_bytes fonts old.so_far) ∙ ap (written_then before) (whole-same fonts before old pages written some)))

pub past_all : (fonts : Slots) (before : Option (List ℕ)) (old : Writing) (new : Past) (pages : List ShippedPage) → HasWritten fonts before old pages → old.so_far.pages ≢ 0
    → new ≡ past_after old.past (last_bytes fonts old.so_far) → new ≡ past_after old.began (whole fonts pages)
past_all fonts before old new pages written some past =
    past_after_both old.began old.past new (unfinished_file fonts pages) (last_bytes fonts old.so_far) written.past past ∙ ap (past_after old.began) (whole-same fonts before old pages written some)

-- What the device makes of the end of a file in which it failed.
pub past_lost : (fonts : Slots) (before : Option (List ℕ)) (old : Writing) (new : Past) (pages : List ShippedPage) → HasWritten fonts before old pages → old.so_far.pages ≢ 0
    → KeepsPast old.past (last_bytes fonts old.so_far) new → KeepsPast old.began (whole fonts pages) new
past_lost fonts before old new pages written some keeps =
    subst (λ (bytes : List ℕ). KeepsPast old.began bytes new) (whole-same fonts before old pages written some)
    (keeps_both old.began old.past new (unfinished_file fonts pages) (last_bytes fonts old.so_far) written.past keeps)

-- Without pages, it has met nothing.
pub past_none : (fonts : Slots) (before : Option (List ℕ)) (old : Writing) (pages : List ShippedPage) → HasWritten fonts before old pages → old.so_far.pages ≡ 0
    → old.past ≡ past_after old.began (whole fonts pages)
unfolding unfinished_file whole
past_none fonts before old pages written none =
    let empty = no_pages fonts before old pages written none in
    written.past ∙ (ap (λ pages. past_after old.began (unfinished_file fonts pages)) empty ∙ sym (ap (λ pages. past_after old.began (whole fonts pages)) empty))

-- Without pages, it has taken nothing.
pub ended_none : (fonts : Slots) (before : Option (List ℕ)) (old : Writing) (pages : List ShippedPage) → HasWritten fonts before old pages → old.so_far.pages ≡ 0
    → old.bytes_written ≡ written_then before (whole fonts pages)
unfolding unfinished_file whole
ended_none fonts before old pages written none =
    let empty = no_pages fonts before old pages written none in
    written.bytes_written ∙ (ap (λ pages. written_then before (unfinished_file fonts pages)) empty ∙ sym (ap (λ pages. written_then before (whole fonts pages)) empty))

-- Where the device failed, it has taken a beginning of the file.
pub ended_part : (fonts : Slots) (before new : Option (List ℕ)) (old : Writing) (pages : List ShippedPage) → HasWritten fonts before old pages → old.so_far.pages ≢ 0
    → GrowsByFront old.bytes_written new (last_bytes fonts old.so_far) → GrowsByFront before new (whole fonts pages)
ended_part fonts before new old pages written some grows =
    front_after before old.bytes_written new (unfinished_file fonts pages) (last_bytes fonts old.so_far) (whole fonts pages) written.bytes_written (whole-same fonts before old pages written some) grows

-- The length of the file.
pub ended_size : (fonts : Slots) (before : Option (List ℕ)) (w : Writing) (pages : List ShippedPage) → HasWritten fonts before w pages → w.so_far.pages ≢ 0
    → length (whole fonts pages) ≡ w.so_far.layout.size + length (last_bytes fonts w.so_far)
ended_size fonts before w pages written some =
    omega (
      arith,
      ap length (whole-same fonts before w pages written some),
      length-append (unfinished_file fonts pages) (last_bytes fonts w.so_far),
      ap (λ (s : ProgressView). s.layout.size) written.so_far,
      size-some fonts pages (some_pages fonts before w pages written some),
    )

-- Without pages there are no bytes.
pub none_ended : (fonts : Slots) (before : Option (List ℕ)) (w : Writing) (pages : List ShippedPage) → HasWritten fonts before w pages → w.so_far.pages ≡ 0 → 0 ≡ length (whole fonts pages)
unfolding whole
none_ended fonts before w pages written none = sym (ap (λ pages. length (whole fonts pages)) (no_pages fonts before w pages written none))

pub written_small : (fonts : Slots) (before : Option (List ℕ)) (w : Writing) (pages : List ShippedPage) → HasWritten fonts before w pages → IsWithinLimits w.so_far → (so_far_of fonts pages).layout.size < 2 ^ 31
written_small fonts before w pages written space = omega (arith, small w.so_far space, ap (λ (s : ProgressView). s.layout.size) written.so_far)

-- What was written is the same with more fonts.
pub written_with_more : (fonts more : Slots) (before : Option (List ℕ)) (w : Writing) (pages : List ShippedPage) → Extends fonts more → HasWritten fonts before w pages
    → HasWritten more before w pages
written_with_more fonts more before w pages extends written =
    record {
      bytes_written = written.bytes_written ∙ ap (written_then before) (front_more fonts more extends pages written.right);
      past = written.past ∙ ap (past_after w.began) (front_more fonts more extends pages written.right);
      so_far = written.so_far ∙ so_far_more fonts more extends pages written.right;
      right = pages_more fonts more extends pages written.right;
      running = written.running;
    }
