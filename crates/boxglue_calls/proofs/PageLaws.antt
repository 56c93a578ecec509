-- What is handed over has a status that says so.
use Rattle.std.specs.declared.alloc.Global.{Global}
use Rattle.std.specs.Prelude.{Vec}
use Rattle.std.proofs.Common.{◌≡◌, ◌⊎◌, List, ℕ, Bool, true, false, inl, inr, refl, subst, arith, ◌∙◌}
use Rattle.raster_core.specs.PackedRows.{pixel_bytes}
use Rattle.raster_core.specs.PaintOptions.{PaintOptionsView}
use Rattle.raster_core.specs.PixelGrids.{PixelGrid}
use Rattle.tfm_core.specs.NamedBytes.{NamedBytes}
use Rattle.boxglue_print.specs.Outputs.{IsPageBitmap, LacksPage}
use Rattle.boxglue_print.specs.declared.output.Painting.{Painting}
use Rattle.boxglue_print.specs.declared.output.Painting.TheVariants.{Painted, Refusal}
use Rattle.boxglue_print.proofs.PrintLemmas.{shown_page}
use Rattle.boxglue_calls.specs.Buffers.{HandsOver}
use Rattle.boxglue_calls.specs.Pages.{HandsOverPages, IsPaintedInBits, read_status}

-- The status of what is handed over is 0, 1 or 4.
done_small : (accepted : Bool) (done : ℕ) → done ≡ read_status accepted → (done ≡ 0) ⊎ (done ≡ 1)
done_small true done is = inl is
done_small false done is = inr is

pub handed_status : (old new output : List ℕ) (accepted : Bool) (done status : ℕ) → done ≡ read_status accepted → HandsOver old new output done status → (status ≡ 0) ⊎ ((status ≡ 1) ⊎ (status ≡ 4))
handed_status old new output accepted done status done_is (inr (few, kept, is)) = inr (inr is)
handed_status old new output accepted done status done_is (inl (holds, is)) = by_done (done_small accepted done done_is)
  where
    by_done : (done ≡ 0) ⊎ (done ≡ 1) → (status ≡ 0) ⊎ ((status ≡ 1) ⊎ (status ≡ 4))
    by_done (inl zero) = inl (is ∙ zero)
    by_done (inr one) = inr (inl (is ∙ one))

pub not_silent : (status : ℕ) → (status ≡ 0) ⊎ ((status ≡ 1) ⊎ (status ≡ 4)) → (status ≡ 2) ⊎ ((status ≡ 3) ⊎ ((status ≡ 5) ⊎ (status ≡ 6))) → ⊥
not_silent status (inl a) (inl b) = absurd (omega arith)
not_silent status (inl a) (inr (inl b)) = absurd (omega arith)
not_silent status (inl a) (inr (inr (inl b))) = absurd (omega arith)
not_silent status (inl a) (inr (inr (inr b))) = absurd (omega arith)
not_silent status (inr (inl a)) (inl b) = absurd (omega arith)
not_silent status (inr (inl a)) (inr (inl b)) = absurd (omega arith)
not_silent status (inr (inl a)) (inr (inr (inl b))) = absurd (omega arith)
not_silent status (inr (inl a)) (inr (inr (inr b))) = absurd (omega arith)
not_silent status (inr (inr a)) (inl b) = absurd (omega arith)
not_silent status (inr (inr a)) (inr (inl b)) = absurd (omega arith)
not_silent status (inr (inr a)) (inr (inr (inl b))) = absurd (omega arith)
not_silent status (inr (inr a)) (inr (inr (inr b))) = absurd (omega arith)

-- The same for a listing or a bitmap.
pub pages_loud : (Is : (text : List ℕ) → (accepted : Bool) → Type 0) (old new : List ℕ) (size status : ℕ) → HandsOverPages Is old new size status → (status ≡ 2) ⊎ (status ≡ 3) → ⊥
pages_loud Is old new size status h silent = not_silent status (handed_status old new h.text h.accepted (read_status h.accepted) status refl h.handed) (wider silent)
  where
    wider : (status ≡ 2) ⊎ (status ≡ 3) → (status ≡ 2) ⊎ ((status ≡ 3) ⊎ ((status ≡ 5) ⊎ (status ≡ 6)))
    wider (inl two) = inl two
    wider (inr three) = inr (inl three)

-- A page as bytes, or the line of the refusal.
pub painted_bits : (files other : List NamedBytes) (bytes : List ℕ) (options : PaintOptionsView) (painting : Painting) (grid : PixelGrid) (text : List ℕ) (accepted : Bool)
    → files ≡ other → IsPageBitmap files bytes options painting → painting ≡ Painted grid → text ≡ pixel_bytes grid → accepted ≡ true
    → IsPaintedInBits other bytes options text accepted
painted_bits files other bytes options painting grid text accepted same is painted text_is accepted_is =
    let shows = subst (λ (p : Painting). IsPageBitmap other bytes options p) painted (subst (λ (f : List NamedBytes). IsPageBitmap f bytes options painting) same is) in
    inl (grid, shows, text_is, accepted_is)

pub refused_bits : (files other : List NamedBytes) (bytes : List ℕ) (options : PaintOptionsView) (painting : Painting) (text : Vec ℕ Global)
    → files ≡ other → IsPageBitmap files bytes options painting → painting ≡ Refusal text → IsPaintedInBits other bytes options text.items false
refused_bits files other bytes options painting text same is refused =
    inr (subst (λ (p : Painting). IsPageBitmap other bytes options p) refused (subst (λ (f : List NamedBytes). IsPageBitmap f bytes options painting) same is))

-- A file whose page is painted has that page.
pub bits_have_page : (files : List NamedBytes) (bytes : List ℕ) (options : PaintOptionsView) (text : List ℕ) (accepted : Bool)
    → IsPaintedInBits files bytes options text accepted → LacksPage files bytes options.page → ⊥
bits_have_page files bytes options text accepted (inl (grid, shows, text_is, accepted_is)) lacks = shown_page files bytes options grid shows lacks
bits_have_page files bytes options text accepted (inr refuses) lacks = refuses.none lacks.pages lacks.file
