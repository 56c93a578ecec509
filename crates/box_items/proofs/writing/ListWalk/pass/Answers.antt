use Rattle.std.proofs.Common.{◌≡◌, ◌∙◌, rules, sym, ap, to_z, of_z}
use Rattle.std.specs.Int.{w64, w128}
use Rattle.std.proofs.lemmas.Int.{to_z-of_z}
use Rattle.std.proofs.Common.{ℤ, ◌+ℤ◌}
use Rattle.std.specs.Int.{int_wrap}
use Rattle.pack_core.specs.Cursors.{moved_on, place_at}
use Rattle.page_core.proofs.Walked.{rigid_more}
use Rattle.box_items.proofs.Placed.{further, rigid}
use Rattle.box_items.proofs.Wrapped.{add_wrapped}
use Rattle.box_items.proofs.writing.ListWalk.pass.Goals as goal

pub returns : goal.returns
returns c =
    let setting = c.args.box_node.now.setting in
    let kind = c.args.box_node.now.kind in
    let from = c.args.self.now.cursor in
    let distance = c.distance_past-distance.result in
    let exact : to_z w64 (of_z w64 distance) ≡ distance = to_z-of_z w64 distance (search rules) in
    let moved : c.move_on.new.self ≡ moved_on from distance = c.move_on.ensures.value ∙ ap (moved_on from) exact in
    let more = rigid_more kind setting from c.args.node.now distance (rigid c.args.node.now c.in_default.not-Glue) c.distance_past-distance.ensures.value in
    record {
      cursor = moved ∙ more;
      place = add_wrapped c.args.self.now.place c.from.result (place_at setting from) (search rules) c.requires.place
          ∙ ap (int_wrap w128) (ap (λ (z : ℤ). place_at setting from +ℤ z) (c.from.ensures ∙ exact) ∙ (further setting from distance ∙ ap (place_at setting) (sym moved)));
    }
