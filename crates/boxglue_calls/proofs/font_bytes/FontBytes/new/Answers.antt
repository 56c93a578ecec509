-- The counts at the front are those of the record.
use Rattle.std.proofs.Common.{ap, ◌∙◌}
use Rattle.boxglue_calls.specs.Private.MetricPlaces.{places_of}
use Rattle.boxglue_calls.proofs.MetricBytes.{counts_are, long_for_counts}
use Rattle.boxglue_calls.proofs.font_bytes.FontBytes.new.Goals as goal

pub places_of-requires : goal.places_of-requires
places_of-requires c = long_for_counts c.args.bytes.now c.requires.read

pub invariant_of-result-clause-placed : goal.invariant_of-result-clause-placed
invariant_of-result-clause-placed c = c.places_of.ensures ∙ ap places_of (counts_are c.args.bytes.now c.requires.read)
