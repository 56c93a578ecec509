-- Planned lines at the end of a list.
use Rattle.std.proofs.Common.{◌≡◌, ◌∙◌, ℕ, ◌<◌, min, List, [], ◌∷◌, length, map, flat_map, refl, ap, sym, subst, arith, Result, Ok, Err, IfOk, IfErr, OnErr, Some}
use Rattle.std.specs.Prelude.{ℤ}
use Rattle.node_core.specs.declared.params.Params.{Params}
use Rattle.node_core.specs.declared.tree.Node.{Node}
use Rattle.node_core.specs.Items.{items_depth}
use Rattle.node_core.specs.Nodes.{items_of, nodes_of}
use Rattle.node_core.proofs.NodeLemmas.{nodes_of-items_of}
use Rattle.vert_core.specs.declared.appending.AppendedParagraph.{AppendedParagraph}
use Rattle.vert_core.specs.declared.appending.UnappendedLines.{UnappendedLines}
use Rattle.vert_core.specs.declared.appending.UnappendedLines.TheVariants as unappended
use Rattle.vert_core.specs.declared.paragraph.ParagraphFault.{ParagraphFault}
use Rattle.vert_core.specs.declared.paragraph.PlannedParagraph.{PlannedParagraph}
use Rattle.vert_core.specs.declared.planning.PlannedLine.{PlannedLine}
use Rattle.vert_core.specs.Appended.{IsAppended, IsUnappended}
use Rattle.vert_core.specs.Finished.{finished_list}
use Rattle.vert_core.specs.Lines.{vertical_items}
use Rattle.vert_core.specs.Paragraphs.{SetParagraph, set_empty, with_breaks, IsSet}
use Rattle.vert_core.specs.Private.Planned.{copied_line, stacked_nodes}
use Rattle.vert_core.specs.Private.PlannedParagraphs.{IsPlanned}
use Rattle.vert_core.specs.Setting.{list_setting, setting}
use Rattle.vert_core.proofs.Settings.{list_set}
use Rattle.vert_core.proofs.Stacks.{count_places}
use Rattle.vert_core.proofs.PlannedLines.{count_copied}
use Rattle.vert_core.proofs.PlannedOrder.{copied_items}

-- The paragraph that is set by a plan.
abbrev pub set_of : List Node → Params → ℤ → PlannedParagraph → SetParagraph
set_of list params previous planned =
    record {
      items = items_of (vertical_items (with_breaks list params previous planned.breaks));
      depth = planned.plan.depth;
      lines = length planned.breaks.lines.items;
      pass = Some planned.breaks.pass;
      overhang = planned.breaks.overhang;
      demerits = planned.breaks.demerits;
    }

module _ (list : List Node) (params : Params) (previous : ℤ) (planned : PlannedParagraph) (is : IsPlanned list params previous planned) where
  pub planned_setting : list_setting list params previous ≡ Ok (set_of list params previous planned)
  planned_setting =
      let set : IsSet list params previous (set_of list params previous planned) =
      record {
        breaks = planned.breaks;
        broken = is.broken;
        fit = is.fit;
        items = refl;
        depth = is.depth;
        lines = refl;
        pass = refl;
        overhang = refl;
        demerits = refl;
      } in
      list_set list params previous (set_of list params previous planned) is.free set

  pub planned_items : flat_map stacked_nodes (map (copied_line list) planned.plan.lines.items) ≡ vertical_items (with_breaks list params previous planned.breaks)
  planned_items =
      copied_items (with_breaks list params previous planned.breaks) (length planned.breaks.lines.items) planned.plan.lines.items
      (sym (count_places planned.breaks.lines.items)) is.lines

  pub planned_count : planned.plan.count ≡ length (nodes_of (items_of (vertical_items (with_breaks list params previous planned.breaks))))
  planned_count =
      omega (
        arith,
        is.count,
        count_copied list planned.plan.lines.items,
        ap length planned_items,
        ap length (nodes_of-items_of (vertical_items (with_breaks list params previous planned.breaks))),
      )

  pub planned_levels :
      (xs : List Node) (ys : List PlannedLine) (n : ℕ) → xs ≡ list → ys ≡ planned.plan.lines.items
      → n ≡ min (items_depth (items_of (flat_map stacked_nodes (map (copied_line xs) ys)))) 18446744073709551615
      → n ≡ min (items_depth (items_of (vertical_items (with_breaks list params previous planned.breaks)))) 18446744073709551615
  planned_levels xs ys n list_is lines_is levels =
      levels
      ∙ (ap (λ (zs : List Node). min (items_depth (items_of (flat_map stacked_nodes (map (copied_line zs) ys)))) 18446744073709551615) list_is
      ∙ (ap (λ (zs : List PlannedLine). min (items_depth (items_of (flat_map stacked_nodes (map (copied_line list) zs)))) 18446744073709551615) lines_is
      ∙ ap (λ (zs : List Node). min (items_depth (items_of zs)) 18446744073709551615) planned_items))

pub some_setting : (list : List Node) (params : Params) (previous : ℤ) → 0 < length list → list_setting (finished_list list params.par_fill_skip) params previous ≡ setting list params previous
unfolding setting
some_setting [] params previous some = absurd (omega (arith, some))
some_setting (x ∷ rest) params previous some = refl

pub empty_setting : (list : List Node) (params : Params) (previous : ℤ) → length list ≡ 0 → setting list params previous ≡ Ok (set_empty previous)
unfolding setting
empty_setting [] params previous none = refl
empty_setting (x ∷ rest) params previous none = absurd (omega (arith, none))

-- What is appended, and to what, in other words.
pub appended_so :
    {E : Type 0} (result : Result AppendedParagraph E) (s t : Result SetParagraph ParagraphFault) (before front after all : List Node) → s ≡ t → before ≡ front → after ≡ all
    → IfOk result (IsAppended s before after) → IfOk result (IsAppended t front all)
appended_so result s t before front after all setting_is front_is all_is is =
    subst (λ (r : Result SetParagraph ParagraphFault). IfOk result (IsAppended r front all)) setting_is
    (subst (λ (xs : List Node). IfOk result (IsAppended s xs all)) front_is (subst (λ (xs : List Node). IfOk result (IsAppended s before xs)) all_is is))

pub unappended_so :
    {A : Type 0} (result : Result A UnappendedLines) (s t : Result SetParagraph ParagraphFault) (P Q : ParagraphFault → Type 0) (before front : List Node)
    → s ≡ t → before ≡ front → ((fault : ParagraphFault) → P fault → Q fault)
    → IfErr result (IsUnappended s P before) → IfErr result (IsUnappended t Q front)
unappended_so (Ok figures) s t P Q before front setting_is front_is so is = tt
unappended_so (Err (unappended.Unset fault)) s t P Q before front setting_is front_is so is = so fault is
unappended_so (Err unappended.TooDeep) s t P Q before front setting_is front_is so is = (is.0, sym setting_is ∙ is.1, is.2)
unappended_so (Err unappended.TooLong) s t P Q before front setting_is front_is so is =
    (is.0, sym setting_is ∙ is.1, is.2, omega (arith, is.3, ap length front_is))

pub err_so : {A E : Type 0} {P Q : Type 0} (result : Result A E) → (P → Q) → OnErr result P → OnErr result Q
err_so (Ok x) so is = tt
err_so (Err e) so is = so is
