use Rattle.std.proofs.Common.{ap, rules, ◌∙◌}
use Rattle.tfm_core.specs.Fonts.{are_dimens_at, font_at, is_space_at}
use Rattle.tfm_core.specs.MetricFile.{MetricFile}
use Rattle.tfm_core.proofs.WholeLemmas.{IsWhole-from_equal, widths_fit, heights_fit, depths_fit, kerns_fit, space_fits}
use Rattle.tfm_core.proofs.sized_file.SizedFile.new.Goals as goal

pub dimensions-requires : goal.dimensions-requires
dimensions-requires c =
    ap (are_dimens_at c.args.size) (c.deref-2.ensures.value ∙ ap (λ (f : MetricFile). f.widths) c.file.view_is) ∙ widths_fit _ _ c.requires.fits

pub dimensions-requires-2 : goal.dimensions-requires-2
dimensions-requires-2 c =
    ap (are_dimens_at c.args.size) (c.deref-3.ensures.value ∙ ap (λ (f : MetricFile). f.heights) c.file.view_is) ∙ heights_fit _ _ c.requires.fits

pub dimensions-requires-3 : goal.dimensions-requires-3
dimensions-requires-3 c =
    ap (are_dimens_at c.args.size) (c.deref-4.ensures.value ∙ ap (λ (f : MetricFile). f.depths) c.file.view_is) ∙ depths_fit _ _ c.requires.fits

pub dimensions-requires-4 : goal.dimensions-requires-4
dimensions-requires-4 c =
    ap (are_dimens_at c.args.size) (c.deref-6.ensures.value ∙ ap (λ (f : MetricFile). f.kerns) c.file.view_is) ∙ kerns_fit _ _ c.requires.fits

pub space_at-requires : goal.space_at-requires
space_at-requires c =
    ap (is_space_at c.args.size) (c.deref-7.ensures.value ∙ ap (λ (f : MetricFile). f.parameters) c.file.view_is) ∙ space_fits _ _ c.requires.fits

pub invariant_of-result : goal.invariant_of-result
unfolding font_at
invariant_of-result c = IsWhole-from_equal _ c.args.file.now c.args.size c.requires.kept (search rules)
