-- The fonts of the words so far.
use Rattle.std.proofs.Common.{map, take}
use Rattle.boxglue_words.specs.Pairs.{AreFonts}
use Rattle.boxglue_words.proofs.pairs.read_pairs.Given as goal

abbrev pub invariant-loop-word : goal.invariant-loop-word
invariant-loop-word l = AreFonts (map (λ word. word.now) (take l.word-index l.words)) l.fonts.items
