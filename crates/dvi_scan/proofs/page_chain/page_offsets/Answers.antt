use Rattle.std.proofs.Common.{rules, ◌≡◌, ◌+◌, ◌-◌, ◌%◌, List, ℕ, ℤ, drop, length, refl, sym, ap, ◌∙◌, subst, arith}
use Rattle.dvi_ops.specs.Instruction.{Postamble}
use Rattle.dvi_ops.specs.Table.{signed}
use Rattle.dvi_ops.specs.View.{view_postamble}
use Rattle.dvi_scan.specs.Ends.{HasPostamble}
use Rattle.dvi_scan.specs.Chain.{Links, IsChainRefusal, BreaksChain}
use Rattle.dvi_scan.specs.Private.Chain.{IsBrokenFrom}
use Rattle.dvi_scan.specs.declared.fault.FrameFault.{FrameFault}
use Rattle.dvi_scan.specs.declared.fault.FrameFault.TheVariants.{OutOfMemory, Bad}
use Rattle.dvi_scan.specs.declared.fault.DviCause.{DviCause}
use Rattle.dvi_scan.proofs.ChainLemmas.{post_pointer}
use Rattle.dvi_scan.proofs.ErrLemmas.{handed_on}
use Rattle.dvi_scan.proofs.page_chain.page_offsets.Goals as goal

-- The pointer of post.
first_pointer : (bytes : List ℕ) (post e : ℕ) (postamble : Postamble) → HasPostamble bytes post e postamble
    → signed 4 (drop (post + 1) bytes) ≡ postamble.last_bop
first_pointer bytes post e postamble ends =
    let padded = ends.closed.trailed.padded in (post_pointer bytes post (e - 5) postamble (omega arith) ends.spelled_at).0

-- A fault of the walk is one of the chain.
refusal : (bytes : List ℕ) (post : ℕ) (postamble : Postamble) (fault : FrameFault) → IsBrokenFrom bytes (post + 1) post postamble.last_bop fault
    → IsChainRefusal bytes post postamble fault
refusal bytes post postamble OutOfMemory b = b
refusal bytes post postamble (Bad fault) b =
    subst (λ (cause : DviCause). BreaksChain bytes post postamble fault.place cause) (sym b.0) b.1

pub returns-in_err-places-clause-bad : goal.returns-in_err-places-clause-bad
returns-in_err-places-clause-bad c =
    let bytes = c.args.bytes.now in
    let postamble = view_postamble c.args.ending.now.postamble in
    let post = c.args.ending.now.post in
    let fault = c.in_err-places.field-0.0 in
    let e = first_pointer bytes post c.args.ending.now.last postamble c.requires in
    handed_on (IsChainRefusal bytes post postamble) c.from_residual.result fault c.from_residual.ensures.1
    (refusal bytes post postamble fault (subst (λ (z : ℤ). IsBrokenFrom bytes (post + 1) post z fault) e c.in_err-places.ensures.bad))

pub returns-clause-found : goal.returns-clause-found
returns-clause-found c =
    let bytes = c.args.bytes.now in
    let postamble = view_postamble c.args.ending.now.postamble in
    let post = c.args.ending.now.post in
    subst (λ (z : ℤ). Links bytes post z c.in_ok-places.places.items) (first_pointer bytes post c.args.ending.now.last postamble c.requires)
    c.in_ok-places.ensures.found

pub returns-then-len-from-clause-bad : goal.returns-then-len-from-clause-bad
returns-then-len-from-clause-bad c =
    let bytes = c.args.bytes.now in
    let postamble = view_postamble c.args.ending.now.postamble in
    let post = c.args.ending.now.post in
    let links = subst (λ (z : ℤ). Links bytes post z c.in_ok-places.places.items)
    (first_pointer bytes post c.args.ending.now.last postamble c.requires) c.in_ok-places.ensures.found in
    let len : c.len.result ≡ length c.in_ok-places.places.items = search rules in
    let differs = c.if-len-from.true in
    (refl, c.in_ok-places.places.items, links, λ same. differs (ap (λ n. n % 65536) len ∙ (sym same ∙ sym c.from.ensures)))
