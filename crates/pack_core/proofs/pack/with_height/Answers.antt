use Rattle.std.proofs.Common.{◌≡◌, ◌∙◌, ◌+ℤ◌, refl, arith}
use Rattle.std.specs.Prelude.{◌-ℤ◌}
use Rattle.std.proofs.lemmas.Int.{ints}
use Rattle.scaled_core.specs.Dimensions.{dimension_of}
use Rattle.pack_core.specs.Private.Steps.{vtop_shell}
use Rattle.pack_core.proofs.Steps.{dimension-same, some_if-refused, vtop-given}
use Rattle.pack_core.proofs.pack.with_height.Goals as goal

pub returns-in_default : goal.returns-in_default
returns-in_default c =
    record {
      value = rw c.in_default.is tt;
      none = λ is. refl;
      height = rw (← c.get.ensures.value) c.get.ensures.fits;
    }

pub returns-in_err-depth : goal.returns-in_err-depth
unfolding vtop_shell
returns-in_err-depth c =
    let own = c.in-Some.own in
    let found : c.try_new.result ≡ dimension_of ((own.depth +ℤ own.height) -ℤ c.args.height) =
    dimension-same _ _ c.try_new.result c.try_new.ensures.value (omega (arith, ints)) in
    record {
      value =
          rw c.in-Some.is
          (c.from_residual.ensures ∙ some_if-refused ((vtop_shell own c.args.height).depth) (vtop_shell own c.args.height) (cc (found, c.in_err-depth.was)));
      none = λ is. absurd (cc);
      height = rw (← c.get.ensures.value) c.get.ensures.fits;
    }

pub returns : goal.returns
unfolding vtop_shell
returns c =
    let own = c.in-Some.own in
    let found : c.try_new.result ≡ dimension_of ((own.depth +ℤ own.height) -ℤ c.args.height) =
    dimension-same _ _ c.try_new.result c.try_new.ensures.value (omega (arith, ints)) in
    record {
      value = rw c.in-Some.is (vtop-given own c.args.height c.in_ok-depth.depth (cc (found, c.in_ok-depth.was)));
      none = λ is. absurd (cc);
      height = rw (← c.get.ensures.value) c.get.ensures.fits;
    }
