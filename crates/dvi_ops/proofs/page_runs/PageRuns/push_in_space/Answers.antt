use Rattle.std.proofs.Common.{◌∷◌, [], ◌∙◌, ℕ, List, length, map, ap, arith}
use Rattle.std.proofs.lemmas.List.{length-append}
use Rattle.dvi_ops.specs.Runs.{instructions_of, woven_instructions}
use Rattle.dvi_ops.specs.View.{body_view}
use Rattle.dvi_ops.proofs.Runs.{rising_further, woven-character}
use Rattle.dvi_ops.proofs.page_runs.PageRuns.push_in_space.Goals as goal

pub invariant_of-self : goal.invariant_of-self
invariant_of-self c =
    let runs = c.args.self.now in
    let longer = ap length c.push_reserved.ensures.items ∙ length-append runs.codes.items (c.args.code ∷ []) in
    record {
      paired = runs.paired;
      rising = rising_further 0 runs.places.items (length runs.codes.items) (length c.push_reserved.new.self.items) runs.rising (omega (arith, longer));
    }

pub returns-clause-pushed : goal.returns-clause-pushed
unfolding instructions_of
returns-clause-pushed c was =
    let runs = c.args.self.now in
    ap (λ (codes : List ℕ). woven_instructions 0 codes runs.places.items (map body_view runs.ops.items)) c.push_reserved.ensures.items
    ∙ woven-character 0 runs.codes.items runs.places.items (map body_view runs.ops.items) c.args.code (length runs.codes.items) (omega arith) runs.rising
