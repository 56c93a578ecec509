-- The listing fits and is written, or it does not.
use Rattle.std.proofs.Common.{◌≤◌, ◌<◌, ℕ, inl, inr, length, refl, subst}
use Rattle.boxglue_calls.proofs.listings.hand_over_listing.Goals as goal

pub listing_size-requires-clause-remaining : goal.listing_size-requires-clause-remaining
listing_size-requires-clause-remaining c = let (whole, remaining, all) = c.requires.lines in (whole, remaining)

pub returns-then-text-bytes-clause-handed : goal.returns-then-text-bytes-clause-handed
returns-then-text-bytes-clause-handed c = λ whole remaining all.
    let size = c.in-Some.ensures.size whole remaining in
    (inr (subst (λ (n : ℕ). length c.args.text.now < n) size c.if-text-bytes.true, refl, refl), size)

pub write_listing-requires-clause-remaining : goal.write_listing-requires-clause-remaining
write_listing-requires-clause-remaining c =
    let (whole, remaining, all) = c.requires.lines in
    let size = c.in-Some.ensures.size whole remaining in (
      whole,
      c.rewind.ensures.remaining whole (c.listing_size.ensures.all_lines whole all),
      subst (λ (n : ℕ). n ≤ length c.args.text.now) size c.if-text-bytes.false,
    )

pub returns-clause-handed : goal.returns-clause-handed
returns-clause-handed c = λ whole remaining all.
    let size = c.in-Some.ensures.size whole remaining in
    let fits = subst (λ (n : ℕ). n ≤ length c.args.text.now) size c.if-text-bytes.false in
    (inl (c.write_listing.ensures whole (c.rewind.ensures.remaining whole (c.listing_size.ensures.all_lines whole all)) fits, refl), size)
