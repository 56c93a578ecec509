-- The cost of a line: its badness, class, overhang and demerits.
-- A list of nodes as the breaker needs it: its legal places, the items of a line and their sums, and why a list is refused.
-- Lists of breaks of an abstract paragraph: their costs, the chosen list, and the table of the best lists so far.
pub mod Costs
pub mod SmallCosts
pub mod Sizes
pub mod Examples
pub mod Legal
pub mod LineItems
pub mod Spans
pub mod Facts
pub mod Steady
pub mod Even
pub mod Divided
pub mod Orders
pub mod Problems
pub mod Chosen
pub mod Ways
pub mod Tables
pub mod Totals
pub mod Private
