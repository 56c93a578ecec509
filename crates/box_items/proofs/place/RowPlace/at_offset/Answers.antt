use Rattle.std.proofs.Common.{rules}
use Rattle.box_items.proofs.Wrapped.{add_wrapped}
use Rattle.box_items.proofs.place.RowPlace.at_offset.Goals as goal

pub returns : goal.returns
returns c exact is =
    record {
      level = is.level;
      h = add_wrapped c.args.self.now.h c.args.right exact.h (search rules) is.h;
      v = add_wrapped c.args.self.now.v c.args.down exact.v (search rules) is.v;
      text = is.text;
    }
