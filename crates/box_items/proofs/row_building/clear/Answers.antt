use Rattle.std.proofs.Common.{refl}
use Rattle.box_items.proofs.Wrapped.{passed_on, wide_zero}
use Rattle.box_items.proofs.row_building.clear.Goals as goal

pub returns : goal.returns
returns c exact is =
    let level = is.level in
    let right = c.wide_of-right.ensures exact.h (passed_on _ exact.h is.h) in
    let down = c.wide_of-down.ensures exact.v (passed_on _ exact.v is.v) in
    let number = c.number-number.ensures in
    let zero = wide_zero in
    rw (number, level, right, down, zero) refl
