-- The page that a file has space for (own).
use Rattle.page_core.specs.Marks.{ShippedPage}
use Rattle.page_core.specs.Pages.{page_at}
use Rattle.dvi_write.specs.declared.page.AdmittedPage.{AdmittedPage}

-- The page that is shipped: its counts, its reference point and its box.
abbrev pub shipped_page : AdmittedPage → ShippedPage
shipped_page page = page_at page.counts page.at.h page.at.v page.box_node.now
