use Rattle.std.proofs.Common.{Err, ap}
use Rattle.std.proofs.lemmas.Result.{err_from_is_err_and}
use Rattle.scaled_core.specs.declared.fault.SizeFault.{SizeFault}
use Rattle.tfm_core.proofs.FontReading.{size_refused}
use Rattle.tfm_core.proofs.font.Font.read.Goals as goal

pub returns-clause-ok : goal.returns-clause-ok
returns-clause-ok c = record {
  metrics = c.in_ok-tfm.tfm;
  read = c.in_ok-tfm.ensures.value;
  fits = c.in_ok-font.ensures.fits;
  same = c.in_ok-font.ensures.ok;
}

pub returns-in_err-font-clause-refused : goal.returns-in_err-font-clause-refused
returns-in_err-font-clause-refused c =
    let fault = c.in_err-font.field-0.0 in
    let passed = err_from_is_err_and c.from_residual-in_err-font.result c.from_residual-in_err-font.ensures.1 in
    rw (passed.1, passed.2)
    (size_refused c.args.bytes.now c.args.size c.in_ok-tfm.tfm fault c.in_ok-tfm.ensures.value
    (λ same. c.in_err-font.ensures.refused.0 (ap (λ (fault : SizeFault). Err fault) same)))
