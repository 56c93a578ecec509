use Rattle.std.proofs.Common.{◌∙◌, ℕ, List, length, map, ap, arith}
use Rattle.dvi_ops.specs.Runs.{instructions_of, woven_instructions}
use Rattle.dvi_ops.specs.View.{body_view}
use Rattle.dvi_ops.proofs.Runs.{no_fewer, rising_further, woven-character}
use Rattle.dvi_ops.proofs.page_runs.PageRuns.push_character.Goals as goal

pub invariant_of-self : goal.invariant_of-self
invariant_of-self c =
    let runs = c.args.self.now in
    record {
      paired = runs.paired;
      rising = rising_further 0 runs.places.items (length runs.codes.items) (length c.append_byte.new.out.items) runs.rising
          (no_fewer c.append_byte.result runs.codes.items c.append_byte.new.out.items c.args.code c.append_byte.ensures.ok c.append_byte.ensures.err);
    }

pub returns-clause-ok : goal.returns-clause-ok
unfolding instructions_of
returns-clause-ok c =
    let runs = c.args.self.now in
    ap (λ (codes : List ℕ). woven_instructions 0 codes runs.places.items (map body_view runs.ops.items)) c.in_ok-append_byte.ensures.ok
    ∙ woven-character 0 runs.codes.items runs.places.items (map body_view runs.ops.items) c.args.code (length runs.codes.items) (omega arith) runs.rising
