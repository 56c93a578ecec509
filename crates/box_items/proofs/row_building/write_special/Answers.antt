use Rattle.std.proofs.Common.{refl}
use Rattle.box_items.proofs.row_building.write_special.Goals as goal

pub returns : goal.returns
returns c exact is =
    let row = c.clear.ensures exact is in
    let text = is.text in
    let bytes = c.as_bytes.ensures.bytes in
    rw (row, text, bytes) refl
