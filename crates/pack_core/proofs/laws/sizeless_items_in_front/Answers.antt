use Rattle.pack_core.proofs.Front.{numbers-front, frame-front, badness-front, badness-natural}
use Rattle.pack_core.proofs.laws.sizeless_items_in_front.Goals as goal

pub returns-clause-numbers : goal.returns-clause-numbers
returns-clause-numbers c = numbers-front

pub returns-clause-frame : goal.returns-clause-frame
returns-clause-frame c = frame-front

pub returns-clause-badness : goal.returns-clause-badness
returns-clause-badness c = badness-front

pub returns-clause-natural : goal.returns-clause-natural
returns-clause-natural c = badness-natural
