-- What an instruction shows is next; at the place of post nothing is left.
use Rattle.std.proofs.Common.{Option, Some, arith, refl, subst, ◌∙◌}
use Rattle.std.specs.Borrow.{Bor}
use Rattle.dvi_read.specs.ItemsLeft.{EndsText, PassesText, ShowsFirst}
use Rattle.dvi_read.specs.declared.seen_items.SeenItem.{SeenItem}
use Rattle.dvi_read.specs.declared.check.checked_file.CheckedFile.{CheckedFile}
use Rattle.dvi_read.proofs.SeenItemLemmas.{all_seen}
use Rattle.dvi_read.proofs.TextLemmas.{none_remaining, none_passed}
use Rattle.dvi_read.proofs.seen_items.SeenItems.next_item.Goals as goal

pub returns-in-Some-clause-next : goal.returns-in-Some-clause-next
returns-in-Some-clause-next c = λ seen a. c.in-Some.ensures.next seen (c.loop-self.invariant.same seen a)

pub returns-clause-next : goal.returns-clause-next
returns-clause-next c = λ seen a. all_seen c.loop-self.self seen (omega arith) (c.loop-self.invariant.same seen a)

pub returns-in-Some-clause-texts : goal.returns-in-Some-clause-texts
returns-in-Some-clause-texts c = λ places has. c.in-Some.ensures.texts places (c.loop-self.invariant.texts places has)

pub returns-clause-texts : goal.returns-clause-texts
returns-clause-texts c = λ places has.
    none_remaining c.loop-self.self.file.now.bytes.now c.loop-self.self.at c.loop-self.self.file.now.post places (omega arith)
    (c.loop-self.invariant.texts places has)

pub returns-in-Some-clause-text : goal.returns-in-Some-clause-text
returns-in-Some-clause-text c =
    subst (λ (file : Bor CheckedFile). EndsText file.now.bytes.now c.step.new.self.at (Some c.in-Some.item)) c.loop-self.invariant.file
    c.in-Some.ensures.text

pub returns-in-Some-clause-same : goal.returns-in-Some-clause-same
returns-in-Some-clause-same c = c.step.ensures.same ∙ c.loop-self.invariant.file

pub returns-clause-fits : goal.returns-clause-fits
returns-clause-fits c = c.loop-self.invariant.fits

pub loop-self-init : goal.loop-self-init
loop-self-init c = record
    { remaining = c.requires; same = λ seen a. a; texts = λ places has. has; forward = omega arith; fits = omega arith; file = refl }

pub loop-self-preserved : goal.loop-self-preserved
loop-self-preserved c =
    let held = c.loop-self.invariant in
    let step = c.step.ensures in
    let (seen, a) = held.remaining in
    record {
      remaining = (seen, subst (λ (o : Option SeenItem). ShowsFirst seen c.step.new.self o) c.in_default.is (step.next seen a));
      same = λ seen a. subst (λ (o : Option SeenItem). ShowsFirst seen c.step.new.self o) c.in_default.is (step.next seen (held.same seen a));
      texts = λ places has. none_passed c.step.new.self places
          (subst (λ (o : Option SeenItem). PassesText places c.step.new.self o) c.in_default.is (step.texts places (held.texts places has)));
      forward = omega (arith, held.forward, step.forward);
      fits = step.fits;
      file = step.same ∙ held.file;
    }
