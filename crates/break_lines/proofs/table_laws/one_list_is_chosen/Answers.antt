use Rattle.break_lines.specs.Problems.{key, ends_of, places_of}
use Rattle.break_lines.proofs.Dictionary.{not_after_antisym, key_apart}
use Rattle.break_lines.proofs.table_laws.one_list_is_chosen.Goals as goal

pub returns : goal.returns
returns c = λ p q r left right.
    key_apart q r
    (not_after_antisym (key q) (key r) (left.least (places_of (ends_of r)) r right.is_list right.admitted)
    (right.least (places_of (ends_of q)) q left.is_list left.admitted))
