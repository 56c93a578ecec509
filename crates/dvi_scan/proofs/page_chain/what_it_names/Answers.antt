use Rattle.std.proofs.Common.{◌≡◌, ◌≢◌, List, ℕ, ℤ, pos, negsuc, drop, refl, subst}
use Rattle.dvi_ops.specs.Instruction.{Bop}
use Rattle.dvi_ops.specs.Table.{signed}
use Rattle.dvi_scan.specs.Ends.{IsSpelledAt}
use Rattle.dvi_scan.specs.Chain.{IsLost}
use Rattle.dvi_scan.proofs.page_chain.what_it_names.Goals as goal

lost : (bytes : List ℕ) (bound place : ℕ) (pointer : ℤ) → pointer ≡ pos place → pointer ≢ negsuc 0
    → ((counts : List ℤ) (before : ℤ) → IsSpelledAt bytes place bound (Bop counts before) → ⊥) → IsLost bytes bound pointer
lost bytes bound place pointer names other none =
    record {
      other = other;
      no_bop = λ p counts before e spelled_at.
          (let same : p ≡ place = cc in none counts before (subst (λ (p : ℕ). IsSpelledAt bytes p bound (Bop counts before)) same spelled_at));
    }

pub returns-in_default : goal.returns-in_default
returns-in_default c =
    (refl, record { other = c.is_start.ensures.no c.if-is_start.false; no_bop = λ p counts before e spelled_at. c.in_default.ensures.none refl p e })

pub returns-then-is_page : goal.returns-then-is_page
returns-then-is_page c =
    let some = c.is_page.ensures.bop_found c.if-is_page.true in
    (c.in-Some.ensures.place_read, c.is_page.ensures.low c.if-is_page.true, some)

pub returns : goal.returns
returns c =
    (refl, lost c.args.bytes.now c.args.bound c.in-Some.place (signed 4 (drop c.args.at c.args.bytes.now)) c.in-Some.ensures.place_read (c.is_start.ensures.no c.if-is_start.false) (c.is_page.ensures.none c.if-is_page.false))
