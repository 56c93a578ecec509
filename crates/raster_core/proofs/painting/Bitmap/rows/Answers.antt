use Rattle.std.proofs.Common.{◌≡◌, ◌≤◌, ◌*◌, ℕ, List, length, sym, subst, arith}
use Rattle.raster_core.proofs.PackedBytes.{packed_is}
use Rattle.raster_core.proofs.TextRuns.{text_is}
use Rattle.raster_core.proofs.painting.Bitmap.rows.Goals as goal

pub returns-clause-text : goal.returns-clause-text
returns-clause-text c =
    let b = c.self.inside in
    let stride : c.len.result ≡ length b.mask.items.items = omega (arith, b.mask.items.ok) in
    text_is b.width b.height b.words.items.items b.mask.items.items c.deref.result.now c.len.result c.args.self.now c.deref.ensures.value stride c.self.view_is

pub returns-clause-bytes : goal.returns-clause-bytes
returns-clause-bytes c =
    let b = c.self.inside in
    let stride : c.len.result ≡ length b.mask.items.items = omega (arith, b.mask.items.ok) in
    packed_is b.width b.height b.words.items.items b.mask.items.items c.deref.result.now c.len.result c.args.self.now c.deref.ensures.value stride c.self.view_is

pub invariant_of-result-clause-rows : goal.invariant_of-result-clause-rows
invariant_of-result-clause-rows c =
    let b = c.self.inside in
    let stride : c.len.result ≡ length b.mask.items.items = omega (arith, b.mask.items.ok) in
    subst (λ (n : ℕ). b.height * n ≤ length c.deref.result.now) (sym stride)
    (subst (λ (l : List ℕ). b.height * length b.mask.items.items ≤ length l) (sym c.deref.ensures.value) c.self.invariant.rows)
