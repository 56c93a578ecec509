-- A file that is refused breaks the rule that its fault names.
use Rattle.std.proofs.Common.{◌≡◌, ◌∙◌, List, ℕ, Result, Ok, Err, inr, subst}
use Rattle.std.specs.Prelude.{IfOk, OnErr, OnOk}
use Rattle.dvi_read.specs.Opening.{IsDviFault}
use Rattle.dvi_read.specs.declared.fault.DviFault.{DviFault}
use Rattle.tfm_core.specs.NamedBytes.{NamedBytes}
use Rattle.boxglue_calls.specs.FileFaults.{ChecksFile}
use Rattle.boxglue_calls.specs.Fonts.{files_of}
use Rattle.boxglue_calls.proofs.checks.check_named.Goals as goal

if_ok : {E A B : Type 0} (P Q : ℕ → Type 0) (r : Result ℕ E) → OnOk r A → OnOk r B → IfOk r P → ((s : ℕ) → A → B → P s → Q s) → IfOk r Q
if_ok P Q (Ok s) a b p q = q s a b p
if_ok P Q (Err e) a b p q = tt

if_err : {E A B : Type 0} (r : Result ℕ E) → (A → B) → OnErr r A → OnErr r B
if_err (Ok s) f a = tt
if_err (Err e) f a = f a

pub returns-clause-checked : goal.returns-clause-checked
returns-clause-checked c =
    let same : c.deref.result.now ≡ files_of c.args.fonts.now = c.deref.ensures.value ∙ c.in_ok-files.ensures.copied in
    let call = c.hand_over_fault in
    subst (λ (files : List NamedBytes). IfOk call.result (ChecksFile files c.args.dvi.now (c.args.name.now, call.new.name) call.new.numbers)) same
    (if_ok _ _ call.result call.ensures.other call.ensures.numbers call.ensures.handed
    (λ s other numbers handed.
    inr (record {
      fault = c.in-Err.refused;
      other = other;
      broken = c.in-Err.ensures.bad;
      none = c.in-Err.ensures.refused other;
      numbers_are = numbers;
      handed = handed;
    })))

pub returns-clause-memory : goal.returns-clause-memory
returns-clause-memory c =
    let same : c.deref.result.now ≡ files_of c.args.fonts.now = c.deref.ensures.value ∙ c.in_ok-files.ensures.copied in
    let broken = subst (λ (files : List NamedBytes). IsDviFault files c.args.dvi.now c.in-Err.refused) same c.in-Err.ensures.bad in
    if_err c.hand_over_fault.result
    (λ lacks. inr (subst (λ (fault : DviFault). IsDviFault (files_of c.args.fonts.now) c.args.dvi.now fault) lacks broken))
    c.hand_over_fault.ensures.memory
