use Rattle.std.proofs.Common.{◌≡◌, ◌+◌, ◌-◌, List, ℕ, pos, drop, sym, subst, arith, refl}
use Rattle.dvi_ops.specs.Instruction.{Post, Postamble}
use Rattle.dvi_ops.specs.Table.{signed}
use Rattle.dvi_scan.specs.Ends.{IsSpelledAt, IsClosed}
use Rattle.dvi_scan.proofs.ending.post_of.Goals as goal

-- The pointer four bytes before the version.
named : (bytes : List ℕ) (last : ℕ) → IsClosed bytes last
    → ((post : ℕ) (postamble : Postamble) → signed 4 (drop (last - 4) bytes) ≡ pos post → IsSpelledAt bytes post (last - 5) (Post postamble) → ⊥)
    → IsClosed bytes (last - 4 + 4)
    × ((post : ℕ) (postamble : Postamble) → signed 4 (drop (last - 4) bytes) ≡ pos post
    → IsSpelledAt bytes post (last - 4 - 1) (Post postamble) → ⊥)
named bytes last closed none =
    let space = closed.trailed.space in
    let back : last ≡ last - 4 + 4 = omega arith in
    let before : last - 5 ≡ last - 4 - 1 = omega arith in (
      subst (λ (e : ℕ). IsClosed bytes e) back closed,
      λ post postamble names spelled_at. none post postamble names
          (subst (λ (bound : ℕ). IsSpelledAt bytes post bound (Post postamble)) (sym before) spelled_at),
    )

-- The place that was read is the only one.
only : (bytes : List ℕ) (at bound place : ℕ) → signed 4 (drop at bytes) ≡ pos place
    → ((postamble : Postamble) → IsSpelledAt bytes place bound (Post postamble) → ⊥)
    → (post : ℕ) (postamble : Postamble) → signed 4 (drop at bytes) ≡ pos post → IsSpelledAt bytes post bound (Post postamble) → ⊥
only bytes at bound place is none post postamble names spelled_at =
    let same : post ≡ place = cc in none postamble (subst (λ (post : ℕ). IsSpelledAt bytes post bound (Post postamble)) same spelled_at)

pub returns-in_default-post_at-clause-bad : goal.returns-in_default-post_at-clause-bad
returns-in_default-post_at-clause-bad c =
    named c.args.bytes.now c.args.last c.requires (only c.args.bytes.now (c.args.last - 4) (c.args.last - 5) c.in-Some.post c.in-Some.ensures.place_read (c.in_default-post_at.ensures.none refl))

pub returns-clause-ok : goal.returns-clause-ok
returns-clause-ok c =
    let low = c.in-Some-post_at.ensures.low in
    let high = c.in-Some-post_at.ensures.high in
    record {
      closed = c.requires;
      named = c.in-Some.ensures.place_read;
      spelled_at =
          (c.in-Some-post_at.after - c.in-Some.post, omega arith, c.in-Some-post_at.ensures.post_read);
    }
