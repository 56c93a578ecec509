use Rattle.std.proofs.Common.{◌≡◌, ◌∙◌, w64, SFits, rules}
use Rattle.std.proofs.lemmas.Int.{to_z-of_z}
use Rattle.std.specs.Prelude.{◌-ℤ◌}
use Rattle.scaled_core.specs.Dimensions.{dimension_of}
use Rattle.pack_core.specs.Items.{item_width, height_above_baseline, depth_below_baseline}
use Rattle.pack_core.specs.Totals.{total, greatest_of}
use Rattle.pack_core.specs.Private.Steps.{glue_set}
use Rattle.pack_core.proofs.Steps.{dimension-same, hbox-given, hbox-refused, hbox-unfit-width, hbox-unfit-height, hbox-unfit-depth, hbox-unfit-glue}
use Rattle.pack_core.proofs.pack.measured_shell.Goals as goal

pub returns : goal.returns
returns c nodes is empty =
    let wide : SFits w64 c.args.across.now.width = search rules in
    let high : SFits w64 c.args.across.now.height = search rules in
    let deep : SFits w64 c.args.across.now.depth = search rules in
    let natural : c.try_new.result ≡ dimension_of (total item_width nodes) = dimension-same _ _ c.try_new.result c.try_new.ensures.value (to_z-of_z w64 _ wide ∙ is.width) in
    let height : c.try_new-2.result ≡ dimension_of (greatest_of height_above_baseline nodes) = dimension-same _ _ c.try_new-2.result c.try_new-2.ensures.value (to_z-of_z w64 _ high ∙ is.height) in
    let depth : c.try_new-3.result ≡ dimension_of (greatest_of depth_below_baseline nodes) = dimension-same _ _ c.try_new-3.result c.try_new-3.ensures.value (to_z-of_z w64 _ deep ∙ is.depth) in
    let set = c.set_glue.ensures nodes empty is.stretch is.shrink in
    hbox-given c.args.target nodes c.in_ok-natural.natural c.in_ok-width.width c.in_ok-height.height c.in_ok-depth.depth c.in_ok-set.set
    (cc (natural, c.in_ok-natural.was)) (cc (c.wanted_size.ensures, c.in_ok-width.was)) (cc (height, c.in_ok-height.was))
    (cc (depth, c.in_ok-depth.was)) (cc (set, c.in_ok-set.was))

pub returns-in_err-natural : goal.returns-in_err-natural
returns-in_err-natural c nodes is empty =
    let wide : SFits w64 c.args.across.now.width = search rules in
    let natural : c.try_new.result ≡ dimension_of (total item_width nodes) = dimension-same _ _ c.try_new.result c.try_new.ensures.value (to_z-of_z w64 _ wide ∙ is.width) in
    c.from_residual.ensures ∙ hbox-unfit-width c.args.target nodes (cc (natural, c.in_err-natural.was))

pub returns-in_err-width : goal.returns-in_err-width
returns-in_err-width c nodes is empty =
    let wide : SFits w64 c.args.across.now.width = search rules in
    let natural : c.try_new.result ≡ dimension_of (total item_width nodes) = dimension-same _ _ c.try_new.result c.try_new.ensures.value (to_z-of_z w64 _ wide ∙ is.width) in
    c.from_residual-in_err-width.ensures
    ∙ hbox-refused c.args.target nodes c.in_ok-natural.natural (cc (natural, c.in_ok-natural.was)) (cc (c.wanted_size.ensures, c.in_err-width.was))

pub returns-in_err-height : goal.returns-in_err-height
returns-in_err-height c nodes is empty =
    let high : SFits w64 c.args.across.now.height = search rules in
    let height : c.try_new-2.result ≡ dimension_of (greatest_of height_above_baseline nodes) = dimension-same _ _ c.try_new-2.result c.try_new-2.ensures.value (to_z-of_z w64 _ high ∙ is.height) in
    c.from_residual-in_err-height.ensures ∙ hbox-unfit-height c.args.target nodes (cc (height, c.in_err-height.was))

pub returns-in_err-depth : goal.returns-in_err-depth
returns-in_err-depth c nodes is empty =
    let deep : SFits w64 c.args.across.now.depth = search rules in
    let depth : c.try_new-3.result ≡ dimension_of (greatest_of depth_below_baseline nodes) = dimension-same _ _ c.try_new-3.result c.try_new-3.ensures.value (to_z-of_z w64 _ deep ∙ is.depth) in
    c.from_residual-in_err-depth.ensures ∙ hbox-unfit-depth c.args.target nodes (cc (depth, c.in_err-depth.was))

pub returns-in_err-set : goal.returns-in_err-set
returns-in_err-set c nodes is empty =
    let set = c.set_glue.ensures nodes empty is.stretch is.shrink in
    c.from_residual-in_err-set.ensures ∙ hbox-unfit-glue c.args.target nodes (glue_set (c.in_ok-width.width -ℤ c.in_ok-natural.natural) nodes) (cc (set, c.in_err-set.was))
