use Rattle.std.proofs.Common.{◌≡◌, ◌∙◌, ℕ, length, get_or, ap, subst, sym, arith}
use Rattle.std.specs.Int.{sum_through}
use Rattle.break_lines.specs.Facts.{Facts, facts_of}
use Rattle.break_lines.specs.Legal.{legal_places}
use Rattle.break_core.specs.Trials.{passes_run, AreBounded}
use Rattle.vert_core.specs.TrialBounds.{TrialsAreBounded}
use Rattle.vert_core.proofs.TrialSums.{first_of_all, few_together}
use Rattle.break_lines.proofs.Refusals.{no_infinite_shrink}
use Rattle.vert_core.proofs.paragraph.counted_breaks.Goals as goal

pub returns-clause-trials : goal.returns-clause-trials
returns-clause-trials c =
    let facts : Facts = facts_of c.args.nodes.now in
    let trials : ℕ → ℕ = λ from. get_or c.active_breaks.new.meter.trials.items from 0 in
    let passes = passes_run c.args.params.now c.in_ok-breaks.breaks.pass in
    let old : facts_of c.in_ok-meter.meter.nodes.now ≡ facts = c.in_ok-meter.ensures.facts in
    let places : length (legal_places c.active_breaks.new.meter.nodes.now) ≡ facts.places = ap (λ (f : Facts). f.places) (c.in_ok-breaks.ensures.facts ∙ old) in
    let all : c.all_trials-trials.result ≡ sum_through trials facts.places = c.all_trials-trials.ensures ∙ ap (sum_through trials) places in
    let few = few_together facts c.args.params.now passes trials (subst (λ (f : Facts). AreBounded f c.args.params.now passes trials) old c.in_ok-breaks.ensures.run) in
    subst (λ (n : ℕ). TrialsAreBounded facts c.args.params.now passes n) (sym all) few

pub returns-clause-tried : goal.returns-clause-tried
returns-clause-tried c =
    let trials : ℕ → ℕ = λ from. get_or c.active_breaks.new.meter.trials.items from 0 in
    omega (arith, c.all_trials-trials.ensures, c.in_ok-breaks.ensures.tried, first_of_all trials (length (legal_places c.active_breaks.new.meter.nodes.now)))

pub returns-clause-measured : goal.returns-clause-measured
returns-clause-measured c =
    record {
      facts = c.in_ok-breaks.ensures.facts ∙ c.in_ok-meter.ensures.facts;
      sizes = c.in_ok-meter.ensures.sizes;
      finite = no_infinite_shrink c.args.nodes.now c.in_ok-meter.ensures.fits;
    }
