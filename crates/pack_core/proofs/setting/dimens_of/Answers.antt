use Rattle.std.proofs.Common.{◌≡◌, ◌∙◌, Some, None, arith, refl}
use Rattle.std.proofs.lemmas.Int.{ints}
use Rattle.scaled_core.specs.Dimensions.{dimension_of}
use Rattle.scaled_core.proofs.Fitting.{dimension_found, dimension_missing}
use Rattle.pack_core.proofs.Steps.{dimension-same, dimens-given, dimens-refused}
use Rattle.pack_core.proofs.setting.dimens_of.Goals as goal

pub returns-in_err-normal : goal.returns-in_err-normal
returns-in_err-normal c =
    let n : dimension_of c.args.amounts.normal ≡ None = cc (dimension-same _ c.args.amounts.normal c.from_wide.result c.from_wide.ensures.value (omega (arith, ints)), c.in_err-normal.was) in
    c.from_residual.ensures ∙ dimens-refused c.args.amounts (rw (dimension_missing _ n) refl)

pub returns-in_err-fil : goal.returns-in_err-fil
returns-in_err-fil c =
    let n : dimension_of c.args.amounts.normal ≡ Some c.in_ok-normal.normal = cc (dimension-same _ c.args.amounts.normal c.from_wide.result c.from_wide.ensures.value (omega (arith, ints)), c.in_ok-normal.was) in
    let f : dimension_of c.args.amounts.fil ≡ None = cc (dimension-same _ c.args.amounts.fil c.from_wide-2.result c.from_wide-2.ensures.value (omega (arith, ints)), c.in_err-fil.was) in
    c.from_residual-in_err-fil.ensures ∙ dimens-refused c.args.amounts (rw ((dimension_found _ _ n).0, dimension_missing _ f) refl)

pub returns-in_err-fill : goal.returns-in_err-fill
returns-in_err-fill c =
    let n : dimension_of c.args.amounts.normal ≡ Some c.in_ok-normal.normal = cc (dimension-same _ c.args.amounts.normal c.from_wide.result c.from_wide.ensures.value (omega (arith, ints)), c.in_ok-normal.was) in
    let f : dimension_of c.args.amounts.fil ≡ Some c.in_ok-fil.fil = cc (dimension-same _ c.args.amounts.fil c.from_wide-2.result c.from_wide-2.ensures.value (omega (arith, ints)), c.in_ok-fil.was) in
    let l : dimension_of c.args.amounts.fill ≡ None = cc (dimension-same _ c.args.amounts.fill c.from_wide-3.result c.from_wide-3.ensures.value (omega (arith, ints)), c.in_err-fill.was) in
    c.from_residual-in_err-fill.ensures ∙ dimens-refused c.args.amounts (rw ((dimension_found _ _ n).0, (dimension_found _ _ f).0, dimension_missing _ l) refl)

pub returns-in_err-filll : goal.returns-in_err-filll
returns-in_err-filll c =
    let n : dimension_of c.args.amounts.normal ≡ Some c.in_ok-normal.normal = cc (dimension-same _ c.args.amounts.normal c.from_wide.result c.from_wide.ensures.value (omega (arith, ints)), c.in_ok-normal.was) in
    let f : dimension_of c.args.amounts.fil ≡ Some c.in_ok-fil.fil = cc (dimension-same _ c.args.amounts.fil c.from_wide-2.result c.from_wide-2.ensures.value (omega (arith, ints)), c.in_ok-fil.was) in
    let l : dimension_of c.args.amounts.fill ≡ Some c.in_ok-fill.fill = cc (dimension-same _ c.args.amounts.fill c.from_wide-3.result c.from_wide-3.ensures.value (omega (arith, ints)), c.in_ok-fill.was) in
    let m : dimension_of c.args.amounts.filll ≡ None = cc (dimension-same _ c.args.amounts.filll c.from_wide-4.result c.from_wide-4.ensures.value (omega (arith, ints)), c.in_err-filll.was) in
    c.from_residual-in_err-filll.ensures ∙ dimens-refused c.args.amounts (rw ((dimension_found _ _ n).0, (dimension_found _ _ f).0, (dimension_found _ _ l).0, dimension_missing _ m) refl)

pub returns : goal.returns
returns c =
    dimens-given c.args.amounts c.in_ok-normal.normal c.in_ok-fil.fil c.in_ok-fill.fill c.in_ok-filll.filll
    (cc (dimension-same _ c.args.amounts.normal c.from_wide.result c.from_wide.ensures.value (omega (arith, ints)), c.in_ok-normal.was))
    (cc (dimension-same _ c.args.amounts.fil c.from_wide-2.result c.from_wide-2.ensures.value (omega (arith, ints)), c.in_ok-fil.was))
    (cc (dimension-same _ c.args.amounts.fill c.from_wide-3.result c.from_wide-3.ensures.value (omega (arith, ints)), c.in_ok-fill.was))
    (cc (dimension-same _ c.args.amounts.filll c.from_wide-4.result c.from_wide-4.ensures.value (omega (arith, ints)), c.in_ok-filll.was))
