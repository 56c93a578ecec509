use Rattle.std.proofs.Common.{arith}
use Rattle.std.proofs.lemmas.Int.{ints}
use Rattle.break_lines.proofs.Smalls.{cast_minus}
use Rattle.break_lines.proofs.item_sums.minus.Goals as goal

pub returns-clause-value : goal.returns-clause-value
returns-clause-value c =
    let a = c.args.all.now in
    let b = c.args.rest.now in
    let width = cast_minus 281474976710656 a.width b.width (omega arith) c.requires.all.width c.requires.rest_bounded.width in
    let stretch = cast_minus 140737488355328 a.stretch b.stretch (omega arith) c.requires.all.stretch c.requires.rest_bounded.stretch in
    let fil = cast_minus 140737488355328 a.fil b.fil (omega arith) c.requires.all.fil c.requires.rest_bounded.fil in
    let fill = cast_minus 140737488355328 a.fill b.fill (omega arith) c.requires.all.fill c.requires.rest_bounded.fill in
    let filll = cast_minus 140737488355328 a.filll b.filll (omega arith) c.requires.all.filll c.requires.rest_bounded.filll in
    let shrink = cast_minus 140737488355328 a.shrink b.shrink (omega arith) c.requires.all.shrink c.requires.rest_bounded.shrink in
    cc (width, stretch, fil, fill, filll, shrink)

pub returns-clause-sums_bounded : goal.returns-clause-sums_bounded
returns-clause-sums_bounded c =
    let a = c.args.all.now in
    let b = c.args.rest.now in
    record {
      width =
          let is = cast_minus 281474976710656 a.width b.width (omega arith) c.requires.all.width c.requires.rest_bounded.width in
          record { low = omega (arith, ints, is, c.requires.all.width, c.requires.rest_bounded.width); high = omega (arith, ints, is, c.requires.all.width, c.requires.rest_bounded.width) };
      stretch =
          let is = cast_minus 140737488355328 a.stretch b.stretch (omega arith) c.requires.all.stretch c.requires.rest_bounded.stretch in
          record { low = omega (arith, ints, is, c.requires.all.stretch, c.requires.rest_bounded.stretch); high = omega (arith, ints, is, c.requires.all.stretch, c.requires.rest_bounded.stretch) };
      shrink =
          let is = cast_minus 140737488355328 a.shrink b.shrink (omega arith) c.requires.all.shrink c.requires.rest_bounded.shrink in
          record { low = omega (arith, ints, is, c.requires.all.shrink, c.requires.rest_bounded.shrink); high = omega (arith, ints, is, c.requires.all.shrink, c.requires.rest_bounded.shrink) };
    }
