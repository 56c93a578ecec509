-- The limits of the pages that a job ships (own).
use Rattle.std.specs.Prelude.{ℕ, Bool, nat_le, nat_lt, if◌then◌else◌, List, [], ◌∷◌, Option, Some, None}
use Rattle.node_core.specs.Loads.{Load, load_with_box}
use Rattle.node_core.specs.declared.limits.TheConstants.{MAX_PAGES, MAX_SHIPPED_NODES, MAX_SHIPPED_TEXT}
use Rattle.page_core.specs.Marks.{ShippedPage, is_huge}

-- The first refusal whose condition holds.
abbrev pub first_refusal : {R : Type 0} → List (Bool × R) → Option R
first_refusal [] = None
first_refusal ((holds, refusal) ∷ rest) = if holds then Some refusal else first_refusal rest

-- The refusals of a page in their order, each with its condition, after this number of pages with this load: there are as many pages as a job ships,
-- there would be more nodes or more bytes of special texts than it ships, or the page is huge.
abbrev pub page_limits : {R : Type 0} → (many_pages many_nodes long_texts huge : R) → (pages : ℕ) → Load → ShippedPage → List (Bool × R)
page_limits many_pages many_nodes long_texts huge pages load page =
    (nat_le MAX_PAGES pages, many_pages) ∷ (nat_lt MAX_SHIPPED_NODES (load_with_box load page.box_node).nodes, many_nodes)
    ∷ (nat_lt MAX_SHIPPED_TEXT (load_with_box load page.box_node).text, long_texts) ∷ (is_huge page, huge) ∷ []
