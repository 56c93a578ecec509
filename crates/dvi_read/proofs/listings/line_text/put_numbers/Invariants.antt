-- The part has the numbers from this place on, before its old bytes; there is capacity for the earlier numbers.
use Rattle.std.proofs.Common.{◌≡◌, ◌++◌, ◌+◌, ◌-◌, ◌*◌, ◌≤◌, length, drop, codes}
use Rattle.std.specs.Fmt.{signed_decimal}
use Rattle.std.specs.List.{flat_map}
use Rattle.dvi_read.proofs.listings.line_text.put_numbers.Given as goal

abbrev pub invariant-loop-place : goal.invariant-loop-place
invariant-loop-place l = record {
  text : l.part ≡ flat_map (λ number. codes " " ++ signed_decimal number) (drop l.place l.numbers) ++ l.initial.part;
  len : length l.part ≤ length l.initial.part + 22 * (length l.numbers - l.place);
}
