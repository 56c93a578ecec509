-- The lines of a paragraph have only glyphs of its list.
use Rattle.std.proofs.Common.{◌≡◌, ◌+◌, ◌-◌, ℕ, ℤ, Bool, true, false, List, [], ◌∷◌, length, take, drop, Option, Some, None, Result, Ok, Err, refl, subst}
use Rattle.std.specs.Prelude.{pos, slice_get, get_or, flat_map, if◌then◌else◌}
use Rattle.std.specs.List.{AllByRecursion}
use Rattle.node_core.specs.declared.params.Params.{Params}
use Rattle.node_core.specs.declared.tree.Glue as glues
use Rattle.node_core.specs.declared.tree.BoxNode.{BoxNode}
use Rattle.node_core.specs.declared.tree.Node.{Node}
use Rattle.node_core.specs.declared.tree.Node.TheVariants as nodes
use Rattle.node_core.specs.Items.{EachLeaf}
use Rattle.node_core.specs.Nodes.{items_of}
use Rattle.break_lines.specs.Legal.{is_dropped, up_to}
use Rattle.break_lines.specs.LineItems.{at_break, without_first, kept_items}
use Rattle.break_lines.specs.Facts.{facts_of, refusal}
use Rattle.break_lines.specs.declared.fault.BreakFault.{BreakFault}
use Rattle.break_lines.specs.declared.fault.BreakFault.TheVariants as breaking
use Rattle.pack_core.specs.Boxes.{hbox}
use Rattle.pack_core.specs.Glue.{is_zero}
use Rattle.vert_core.specs.Interline.{interline, glue_of, appended_nodes}
use Rattle.vert_core.specs.Paragraphs.{SetParagraph}
use Rattle.vert_core.specs.declared.paragraph.ParagraphFault.{ParagraphFault}
use Rattle.vert_core.specs.declared.paragraph.ParagraphFault.TheVariants.{DimensionTooLarge}
use Rattle.vert_core.specs.Lines.{BrokenParagraph, boxed_line, line_box, line_begin, line_items, depth_before, penalty_after, penalty_nodes, brought_by, vertical_items, lines_fit}
use Rattle.vert_core.specs.Finished.{final_glue, without_glue, finished_list}
use Rattle.vert_core.specs.Setting.{ChosenLines, chosen_lines, paragraph_in_lines, set_by, set_if_fit, set_or, list_setting, setting}
use Rattle.scaled_core.proofs.EachOf.{all_append, all_weaker, each_taken}
use Rattle.tfm_core.specs.Slots.{Slots}
use Rattle.job_state.proofs.SplitParts.{each_dropped}
use Rattle.job_state.specs.Private.Sized.{HasSizes, IsSizedLeaf, IsSized, AreSized}

-- The glyphs of an item have the sizes that their fonts give.
abbrev HasGlyphs : Slots → Node → Type 0
HasGlyphs fonts (nodes.Glyph g) = HasSizes fonts g
HasGlyphs fonts (nodes.FontKern width) = Unit {0}
HasGlyphs fonts (nodes.Kern width) = Unit {0}
HasGlyphs fonts (nodes.Glue g) = Unit {0}
HasGlyphs fonts (nodes.Penalty p) = Unit {0}
HasGlyphs fonts (nodes.Rule sizes) = Unit {0}
HasGlyphs fonts (nodes.Special text) = Unit {0}
HasGlyphs fonts (nodes.Box shift b) = EachLeaf (IsSizedLeaf fonts) b.list

-- The result for a paragraph that was set.
abbrev set_as : SetParagraph → Result SetParagraph ParagraphFault
set_as set = Ok set

abbrev HaveGlyphs : Slots → List Node → Type 0
HaveGlyphs fonts items = AllByRecursion (HasGlyphs fonts) items

sized_has : (fonts : Slots) (x : Node) → IsSized fonts x → HasGlyphs fonts x
sized_has fonts (nodes.Glyph g) is = is
sized_has fonts (nodes.FontKern width) is = tt
sized_has fonts (nodes.Kern width) is = tt
sized_has fonts (nodes.Glue g) is = tt
sized_has fonts (nodes.Penalty p) is = tt
sized_has fonts (nodes.Rule sizes) is = tt
sized_has fonts (nodes.Special text) is = tt
sized_has fonts (nodes.Box shift b) is = is.glyphs

leaves_have : (fonts : Slots) (items : List Node) → HaveGlyphs fonts items → EachLeaf (IsSizedLeaf fonts) (items_of items)
leaves_have fonts [] all = tt
leaves_have fonts ((nodes.Glyph g) ∷ rest) all = (all.0, leaves_have fonts rest all.1)
leaves_have fonts ((nodes.FontKern width) ∷ rest) all = (tt, leaves_have fonts rest all.1)
leaves_have fonts ((nodes.Kern width) ∷ rest) all = (tt, leaves_have fonts rest all.1)
leaves_have fonts ((nodes.Glue g) ∷ rest) all = (tt, leaves_have fonts rest all.1)
leaves_have fonts ((nodes.Penalty p) ∷ rest) all = (tt, leaves_have fonts rest all.1)
leaves_have fonts ((nodes.Rule sizes) ∷ rest) all = (tt, leaves_have fonts rest all.1)
leaves_have fonts ((nodes.Special text) ∷ rest) all = (tt, leaves_have fonts rest all.1)
leaves_have fonts ((nodes.Box shift b) ∷ rest) all = (all.0, leaves_have fonts rest all.1)

module _ (fonts : Slots) where
  -- The finished list has the same glyphs, also without the glue before its end.
  without_have : (glue : Option glues.Glue) (list : List Node) → HaveGlyphs fonts list → HaveGlyphs fonts (without_glue glue list)
  without_have None list all = all
  without_have (Some glue) list all = each_taken (HasGlyphs fonts) (length list - 1) list all

  finished_have : (list : List Node) (skip : glues.Glue) → HaveGlyphs fonts list → HaveGlyphs fonts (finished_list list skip)
  finished_have list skip all = all_append (HasGlyphs fonts) (without_glue (final_glue list) list) _ (without_have (final_glue list) list all) (tt, (tt, tt))

  -- The item at a break leaves no glyph of its own.
  at_break_have : (x : Option Node) → HaveGlyphs fonts (at_break x)
  at_break_have None = tt
  at_break_have (Some (nodes.Glyph g)) = tt
  at_break_have (Some (nodes.FontKern width)) = tt
  at_break_have (Some (nodes.Kern width)) = (tt, tt)
  at_break_have (Some (nodes.Glue g)) = tt
  at_break_have (Some (nodes.Penalty p)) = (tt, tt)
  at_break_have (Some (nodes.Rule sizes)) = tt
  at_break_have (Some (nodes.Special text)) = tt
  at_break_have (Some (nodes.Box shift b)) = tt

  first_by : (x : Node) (rest : List Node) (dropped : Bool) → is_dropped x ≡ dropped → HaveGlyphs fonts (x ∷ rest) → HaveGlyphs fonts (without_first rest)
      → HaveGlyphs fonts (without_first (x ∷ rest))
  first_by x rest true e all more = rw e more
  first_by x rest false e all more = rw e all

  first_have : (list : List Node) → HaveGlyphs fonts list → HaveGlyphs fonts (without_first list)
  first_have [] all = tt
  first_have (x ∷ rest) all = first_by x rest (is_dropped x) refl all (first_have rest all.1)

  kept_have : (list : List Node) (from : Option ℕ) (b : ℕ) → HaveGlyphs fonts list → HaveGlyphs fonts (kept_items list from b)
  kept_have list None b all = all_append (HasGlyphs fonts) (take b list) _ (each_taken (HasGlyphs fonts) b list all) (at_break_have (slice_get list b))
  kept_have list (Some a) b all =
      all_append (HasGlyphs fonts) (without_first (drop (a + 1) (take b list))) _
      (first_have (drop (a + 1) (take b list)) (each_dropped (HasGlyphs fonts) (a + 1) (take b list) (each_taken (HasGlyphs fonts) b list all))) (at_break_have (slice_get list b))

  -- A line that is packed into a box keeps the glyphs of its items.
  boxed_have : (size : ℤ) (items : List Node) → HaveGlyphs fonts items → EachLeaf (IsSizedLeaf fonts) (boxed_line size items).list
  unfolding boxed_line hbox
  boxed_have size items all = leaves_have fonts items all

  line_have : (p : BrokenParagraph) (line : ℕ) → HaveGlyphs fonts p.nodes → EachLeaf (IsSizedLeaf fonts) (line_box p line).list
  unfolding line_box
  line_have p line all = boxed_have _ (line_items p line) (kept_have p.nodes (line_begin p.places line) (get_or p.places line 0) all)

  appended_have : (glue : Option glues.Glue) (b : BoxNode) → EachLeaf (IsSizedLeaf fonts) b.list → HaveGlyphs fonts (appended_nodes glue (pos 0) b)
  appended_have None b all = (all, tt)
  appended_have (Some glue) b all = (tt, (all, tt))

  penalty_by : (penalty : ℤ) (none : Bool) → HaveGlyphs fonts (if◌then◌else◌ {A = List Node} none [] (nodes.Penalty penalty ∷ []))
  penalty_by penalty true = tt
  penalty_by penalty false = (tt, tt)

  step_after : (penalty : ℤ) (more : Bool) → HaveGlyphs fonts (if◌then◌else◌ {A = List Node} more (penalty_nodes penalty) [])
  step_after penalty true = penalty_by penalty (is_zero penalty)
  step_after penalty false = tt

  brought_have : (p : BrokenParagraph) (line : ℕ) → HaveGlyphs fonts p.nodes → HaveGlyphs fonts (brought_by p line)
  unfolding brought_by
  brought_have p line all =
      let b = line_box p line in
      all_append (HasGlyphs fonts) (appended_nodes (glue_of (interline p.params (depth_before p line) b.height)) (pos 0) b) _
      (appended_have (glue_of (interline p.params (depth_before p line) b.height)) b (line_have p line all))
      (step_after (penalty_after p.params (length p.places) line) _)

  all_brought : (p : BrokenParagraph) (lines : List ℕ) → HaveGlyphs fonts p.nodes → HaveGlyphs fonts (flat_map (brought_by p) lines)
  all_brought p [] all = tt
  all_brought p (line ∷ lines) all = all_append (HasGlyphs fonts) (brought_by p line) _ (brought_have p line all) (all_brought p lines all)

  vertical_have : (p : BrokenParagraph) → HaveGlyphs fonts p.nodes → EachLeaf (IsSizedLeaf fonts) (items_of (vertical_items p))
  unfolding vertical_items
  vertical_have p all = leaves_have fonts _ (all_brought p (up_to (length p.places)) all)

  -- The items of a paragraph that was set have the sizes of their glyphs.
  fit_have : (list : List Node) (params : Params) (previous : ℤ) (chosen : ChosenLines) (fit : Bool) (set : SetParagraph) → HaveGlyphs fonts list
      → if◌then◌else◌ {A = Result SetParagraph ParagraphFault} fit (Ok (set_by list params previous chosen)) (Err DimensionTooLarge) ≡ Ok set → EachLeaf (IsSizedLeaf fonts) set.items
  fit_have list params previous chosen true set all is =
      subst (λ (s : SetParagraph). EachLeaf (IsSizedLeaf fonts) s.items) (ok_same is) (vertical_have (paragraph_in_lines list params previous chosen) all)
    where
      ok_same : {s t : SetParagraph} → set_as s ≡ set_as t → s ≡ t
      ok_same e = cc
  fit_have list params previous chosen false set all is = cc

  chosen_have : (list : List Node) (params : Params) (previous : ℤ) (chosen : Option ChosenLines) (set : SetParagraph) → HaveGlyphs fonts list
      → set_if_fit list params previous chosen ≡ Ok set → EachLeaf (IsSizedLeaf fonts) set.items
  chosen_have list params previous None set all is = cc
  chosen_have list params previous (Some chosen) set all is = fit_have list params previous chosen (lines_fit (paragraph_in_lines list params previous chosen)) set all is

  or_have : (fault : Option BreakFault) (result : Result SetParagraph ParagraphFault) (set : SetParagraph) → set_or fault result ≡ Ok set → result ≡ Ok set
  or_have None result set is = is
  or_have (Some breaking.InfiniteShrink) result set is = cc
  or_have (Some breaking.TooManyBreaks) result set is = cc
  or_have (Some breaking.OutOfMemory) result set is = cc

  list_have : (list : List Node) (params : Params) (previous : ℤ) (set : SetParagraph) → HaveGlyphs fonts list → list_setting list params previous ≡ Ok set
      → EachLeaf (IsSizedLeaf fonts) set.items
  unfolding list_setting
  list_have list params previous set all is =
      chosen_have list params previous (chosen_lines (facts_of list) params) set all
      (or_have (refusal list) (set_if_fit list params previous (chosen_lines (facts_of list) params)) set is)

  set_have : (list : List Node) (params : Params) (previous : ℤ) (set : SetParagraph) → HaveGlyphs fonts list → setting list params previous ≡ Ok set
      → EachLeaf (IsSizedLeaf fonts) set.items
  unfolding setting
  set_have [] params previous set all is = subst (λ (s : SetParagraph). EachLeaf (IsSizedLeaf fonts) s.items) (ok_same is) tt
    where
      ok_same : {s t : SetParagraph} → set_as s ≡ set_as t → s ≡ t
      ok_same e = cc
  set_have (x ∷ rest) params previous set all is =
      list_have (finished_list (x ∷ rest) params.par_fill_skip) params previous set (finished_have (x ∷ rest) params.par_fill_skip all) is

  pub set_sized : (list : List Node) (params : Params) (previous : ℤ) (set : SetParagraph) → AreSized fonts list → setting list params previous ≡ Ok set
      → EachLeaf (IsSizedLeaf fonts) set.items
  set_sized list params previous set all is = set_have list params previous set (all_weaker (IsSized fonts) (HasGlyphs fonts) list (sized_has fonts) all) is
