use Rattle.std.proofs.Common.{◌≡◌, ◌∙◌, ◌-◌, ap, sym, arith, length, reverse, get_or, rules, Some}
use Rattle.std.proofs.lemmas.List.{get_or-reverse, length-reverse}
use Rattle.std.proofs.lemmas.Option.{slice_get-get_or}
use Rattle.break_lines.proofs.line_sizes.LineSizes.place.Goals as goal

pub returns : goal.returns
returns c =
    let places = c.args.self.now.places.items in
    let k = c.args.number in
    let x = c.index.result.now in
    let long : c.len.result ≡ length places = search rules in
    let at : length places - 1 - k ≡ c.len.result - 1 - k = omega (arith, long) in
    slice_get-get_or (reverse places) k x (omega (arith, length-reverse places, c.requires))
    ∙ ap Some (get_or-reverse places k x c.requires ∙ ap (λ i. get_or places i x) at ∙ sym c.index.ensures)
