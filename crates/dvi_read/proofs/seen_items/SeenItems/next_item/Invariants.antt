-- What is still to be seen is the same as at the beginning: nothing was seen on the way.
use Rattle.std.proofs.Common.{◌≡◌, ◌≤◌, ◌<◌, ◌-◌, ◌^◌, List, ℕ}
use Rattle.dvi_read.specs.Seen.{SeenItemView}
use Rattle.dvi_read.specs.ItemsLeft.{AreTextsLeft, AreItemsLeft}
use Rattle.dvi_read.proofs.seen_items.SeenItems.next_item.Given as goal

abbrev pub invariant-loop-self : goal.invariant-loop-self
invariant-loop-self l = record {
  remaining : (seen : List SeenItemView) × AreItemsLeft l.self seen;
  same : (seen : List SeenItemView) → AreItemsLeft l.initial.self seen → AreItemsLeft l.self seen;
  texts : (places : List ℕ) → AreTextsLeft l.initial.self places → AreTextsLeft l.self places;
  forward : l.initial.self.at ≤ l.self.at;
  fits : l.self.at < 2 ^ 64;
  file : l.self.file ≡ l.initial.self.file;
}

abbrev pub decreases-loop-self : goal.decreases-loop-self
decreases-loop-self l = l.self.file.now.post - l.self.at
