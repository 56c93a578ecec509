use Rattle.std.proofs.Common.{rules, ◌≡◌, ◌++◌, [], ◌∷◌, List, ℕ, drop, refl, sym, subst, arith}
use Rattle.dvi_ops.specs.Table.{signed}
use Rattle.dvi_scan.specs.declared.page_chain.PointerTarget.{PointerTarget}
use Rattle.dvi_scan.proofs.ChainLemmas.{Goes, goes_first, goes_more, goes_page, goes_end, goes_lost, page_space, start_left}
use Rattle.dvi_scan.proofs.ErrLemmas.{handed_on}
use Rattle.dvi_scan.specs.Private.Chain.{IsBrokenFrom}
use Rattle.dvi_scan.specs.declared.fault.FrameFault.TheVariants.{OutOfMemory}
use Rattle.dvi_scan.proofs.page_chain.walk.Goals as goal

pub loop-named-init : goal.loop-named-init
loop-named-init c =
    let pointer = signed 4 (drop c.args.at c.args.bytes.now) in
    subst (λ (found : List ℕ). Goes c.args.bytes.now c.args.at c.args.bound pointer found c.what_it_names-named.result) (sym c.new-places.ensures.items)
    (goes_first c.args.bytes.now c.args.at c.args.bound c.what_it_names-named.result c.requires.high c.what_it_names-named.ensures)

pub what_it_names-named-requires-in-Page-clause-space : goal.what_it_names-named-requires-in-Page-clause-space
what_it_names-named-requires-in-Page-clause-space c =
    let bytes = c.args.bytes.now in
    let pointer = signed 4 (drop c.args.at bytes) in
    let g = subst (λ (n : PointerTarget). Goes bytes c.args.at c.args.bound pointer c.loop-named.places.items n) c.in-Page.is
    c.loop-named.invariant in
    let space = page_space bytes c.args.at c.args.bound pointer c.loop-named.places.items c.in-Page.place g in
    omega arith

pub loop-named-preserved : goal.loop-named-preserved
loop-named-preserved c =
    let bytes = c.args.bytes.now in
    let pointer = signed 4 (drop c.args.at bytes) in
    let g = subst (λ (n : PointerTarget). Goes bytes c.args.at c.args.bound pointer c.loop-named.places.items n) c.in-Page.is
    c.loop-named.invariant in
    let items : c.push.new.self.items ≡ c.loop-named.places.items ++ c.in-Page.place ∷ [] = search rules in
    subst (λ (found : List ℕ). Goes bytes c.args.at c.args.bound pointer found c.what_it_names-named-in-Page.result) (sym items)
    (goes_more bytes c.args.at c.args.bound pointer c.loop-named.places.items c.in-Page.place c.what_it_names-named-in-Page.result g c.what_it_names-named-in-Page.ensures)

pub returns-in_err-push-clause-bad : goal.returns-in_err-push-clause-bad
returns-in_err-push-clause-bad c =
    let bytes = c.args.bytes.now in
    let pointer = signed 4 (drop c.args.at bytes) in
    let g = subst (λ (n : PointerTarget). Goes bytes c.args.at c.args.bound pointer c.loop-named.places.items n) c.in-Page.is
    c.loop-named.invariant in
    handed_on (IsBrokenFrom bytes c.args.at c.args.bound pointer) c.from_residual.result OutOfMemory c.from_residual.ensures.1
    (goes_page bytes c.args.at c.args.bound pointer c.loop-named.places.items c.in-Page.place g)

pub returns-in-Nothing : goal.returns-in-Nothing
returns-in-Nothing c =
    let bytes = c.args.bytes.now in
    let pointer = signed 4 (drop c.args.at bytes) in
    let g = subst (λ (n : PointerTarget). Goes bytes c.args.at c.args.bound pointer c.loop-named.places.items n) c.in-Nothing.is
    c.loop-named.invariant in
    record { found = tt; bad = (refl, goes_lost bytes c.args.at c.args.bound pointer c.loop-named.places.items c.in-Nothing.place g) }

pub returns-in_default-named : goal.returns-in_default-named
returns-in_default-named c =
    let bytes = c.args.bytes.now in
    let pointer = signed 4 (drop c.args.at bytes) in
    let e = start_left c.loop-named.named c.in_default.not-Page c.in_default-named.not-Nothing in
    let g = subst (λ (n : PointerTarget). Goes bytes c.args.at c.args.bound pointer c.loop-named.places.items n) e c.loop-named.invariant in
    record { found = goes_end bytes c.args.at c.args.bound pointer c.loop-named.places.items g; bad = tt }
