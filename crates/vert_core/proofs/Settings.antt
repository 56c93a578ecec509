-- There is only one way to set a paragraph.
use Rattle.std.proofs.Common.{◌≡◌, ◌≢◌, ◌∙◌, ◌<◌, ℕ, true, false, List, [], ◌∷◌, length, refl, ap, sym, arith, Option, Some, None, Ok, Err}
use Rattle.std.specs.Prelude.{ℤ}
use Rattle.node_core.specs.declared.params.Params.{Params}
use Rattle.node_core.specs.declared.tree.Glue.{Glue}
use Rattle.node_core.specs.declared.tree.Node.{Node}
use Rattle.node_core.specs.Items.{Items}
use Rattle.node_core.specs.Nodes.{items_of}
use Rattle.break_lines.specs.Problems.{Path, ends_of, places_of}
use Rattle.break_lines.specs.Chosen.{IsChosen, AdmitsNone}
use Rattle.break_core.specs.declared.broken.Breaks.{Breaks}
use Rattle.break_core.specs.declared.broken.LineEnd.{LineEnd}
use Rattle.break_lines.specs.declared.fault.BreakFault.TheVariants as breaking
use Rattle.break_core.specs.declared.broken.Pass.{Pass}
use Rattle.break_core.specs.declared.broken.Pass.TheVariants.{First, Second, Third}
use Rattle.break_lines.specs.Facts.{Facts, facts_of, refusal}
use Rattle.break_core.specs.Passes.{bound_of, problem_of, IsBefore, IsBroken}
use Rattle.vert_core.specs.declared.paragraph.ParagraphFault.{ParagraphFault}
use Rattle.vert_core.specs.declared.paragraph.ParagraphFault.TheVariants.{InfiniteShrink, TooManyBreaks, DimensionTooLarge, OutOfMemory}
use Rattle.vert_core.specs.Lines.{BrokenParagraph, broken_list, vertical_items, last_depth, lines_fit}
use Rattle.vert_core.specs.Finished.{finished_list}
use Rattle.vert_core.specs.Paragraphs.{SetParagraph, with_breaks, break_fault, HasLargeLine, IsSet, IsSetParagraph, IsUnsetList, IsUnset}
use Rattle.vert_core.specs.Setting.{chosen_lines, paragraph_in_lines, set_by, list_setting, setting}
use Rattle.vert_core.proofs.LeastLists.{no_least, chosen_least}

-- The best list of the first pass that admits one is the chosen list.
pass_chosen :
    (facts : Facts) (params : Params) (pass : Pass) (path : Path)
    → IsChosen (problem_of facts params (bound_of params pass)) (places_of (ends_of path)) path
    → ((other : Pass) → IsBefore other pass → AdmitsNone (problem_of facts params (bound_of params other)))
    → chosen_lines facts params ≡ Some (record { pass = pass; path = path })
unfolding chosen_lines
pass_chosen facts params First path is earlier =
    rw (chosen_least (problem_of facts params (bound_of params First)) _ path is) refl
pass_chosen facts params Second path is earlier =
    rw (no_least (problem_of facts params (bound_of params First)) (earlier First tt), chosen_least (problem_of facts params (bound_of params Second)) _ path is) refl
pass_chosen facts params Third path is earlier =
    rw (
      no_least (problem_of facts params (bound_of params First)) (earlier First tt),
      no_least (problem_of facts params (bound_of params Second)) (earlier Second tt),
      chosen_least (problem_of facts params (bound_of params Third)) _ path is,
    ) refl

broken_chosen :
    (facts : Facts) (params : Params) (breaks : Breaks) (is : IsBroken facts params breaks)
    → chosen_lines facts params ≡ Some (record { pass = breaks.pass; path = is.path })
broken_chosen facts params breaks is = pass_chosen facts params breaks.pass is.path is.chosen is.earlier

-- A paragraph that was set, given by its parts.
abbrev parts : Items → ℤ → ℕ → Option Pass → ℤ → ℤ → SetParagraph
parts items depth lines pass overhang demerits =
    record { items = items; depth = depth; lines = lines; pass = pass; overhang = overhang; demerits = demerits }

set_same :
    (s t : SetParagraph) → s.items ≡ t.items → s.depth ≡ t.depth → s.lines ≡ t.lines → s.pass ≡ t.pass → s.overhang ≡ t.overhang → s.demerits ≡ t.demerits → s ≡ t
set_same s t items depth lines pass overhang demerits =
    ap (λ x. parts x s.depth s.lines s.pass s.overhang s.demerits) items
    ∙ (ap (λ x. parts t.items x s.lines s.pass s.overhang s.demerits) depth
    ∙ (ap (λ x. parts t.items t.depth x s.pass s.overhang s.demerits) lines
    ∙ (ap (λ x. parts t.items t.depth t.lines x s.overhang s.demerits) pass
    ∙ (ap (λ x. parts t.items t.depth t.lines t.pass x s.demerits) overhang
    ∙ ap (λ x. parts t.items t.depth t.lines t.pass t.overhang x) demerits))))

-- A list with breaks is broken into the chosen lines.
breaks_lined :
    (list : List Node) (params : Params) (previous : ℤ) (breaks : Breaks) (is : IsBroken (facts_of list) params breaks)
    → with_breaks list params previous breaks ≡ paragraph_in_lines list params previous (record { pass = breaks.pass; path = is.path })
breaks_lined list params previous breaks is = ap (λ (ends : List LineEnd). broken_list list ends params previous) is.lines

set_is :
    (list : List Node) (params : Params) (previous : ℤ) (set : SetParagraph) (is : IsSet list params previous set)
    → set ≡ set_by list params previous (record { pass = is.breaks.pass; path = is.broken.path })
set_is list params previous set is =
    let same = breaks_lined list params previous is.breaks is.broken in
    set_same set (set_by list params previous (record { pass = is.breaks.pass; path = is.broken.path }))
    (is.items ∙ ap (λ (p : BrokenParagraph). items_of (vertical_items p)) same)
    (is.depth ∙ ap last_depth same)
    (is.lines ∙ ap length is.broken.lines)
    is.pass
    (is.overhang ∙ is.broken.overhang)
    (is.demerits ∙ is.broken.demerits)

-- A finished list that was set.
pub list_set :
    (list : List Node) (params : Params) (previous : ℤ) (set : SetParagraph) → refusal list ≡ None → IsSet list params previous set
    → list_setting list params previous ≡ Ok set
unfolding list_setting
list_set list params previous set free is =
    let fit : lines_fit (paragraph_in_lines list params previous (record { pass = is.breaks.pass; path = is.broken.path })) ≡ true =
    sym (ap lines_fit (breaks_lined list params previous is.breaks is.broken)) ∙ is.fit in
    rw (free, broken_chosen (facts_of list) params is.breaks is.broken, fit) (ap Ok (sym (set_is list params previous set is)))

-- A list that cannot be broken, or with lines in which a number does not fit.
list_shrinks : (list : List Node) (params : Params) (previous : ℤ) → refusal list ≡ Some breaking.InfiniteShrink → list_setting list params previous ≡ Err InfiniteShrink
unfolding list_setting
list_shrinks list params previous is = rw is refl

list_crowded : (list : List Node) (params : Params) (previous : ℤ) → refusal list ≡ Some breaking.TooManyBreaks → list_setting list params previous ≡ Err TooManyBreaks
unfolding list_setting
list_crowded list params previous is = rw is refl

list_large :
    (list : List Node) (params : Params) (previous : ℤ) → refusal list ≡ None → HasLargeLine list params previous → list_setting list params previous ≡ Err DimensionTooLarge
unfolding list_setting
list_large list params previous free (breaks, broken, large) =
    let fit : lines_fit (paragraph_in_lines list params previous (record { pass = breaks.pass; path = broken.path })) ≡ false =
    sym (ap lines_fit (breaks_lined list params previous breaks broken)) ∙ large in
    rw (free, broken_chosen (facts_of list) params breaks broken, fit) refl

-- A paragraph that was set has this setting.
pub paragraph_set :
    (list : List Node) (params : Params) (previous : ℤ) (set : SetParagraph) → break_fault list params.par_fill_skip ≡ None
    → IsSetParagraph list params previous set → setting list params previous ≡ Ok set
unfolding setting
paragraph_set [] params previous set free is = ap Ok (sym is)
paragraph_set (x ∷ rest) params previous set free is = list_set (finished_list (x ∷ rest) params.par_fill_skip) params previous set free is

-- A paragraph that was not set has this fault.
pub paragraph_unset :
    (list : List Node) (params : Params) (previous : ℤ) (fault : ParagraphFault) → fault ≢ OutOfMemory
    → IsUnset list params previous fault → setting list params previous ≡ Err fault
unfolding setting
paragraph_unset [] params previous fault figures is = absurd is
paragraph_unset (x ∷ rest) params previous InfiniteShrink figures is = list_shrinks (finished_list (x ∷ rest) params.par_fill_skip) params previous is
paragraph_unset (x ∷ rest) params previous TooManyBreaks figures is = list_crowded (finished_list (x ∷ rest) params.par_fill_skip) params previous is
paragraph_unset (x ∷ rest) params previous DimensionTooLarge figures (free, large) =
    list_large (finished_list (x ∷ rest) params.par_fill_skip) params previous free large
paragraph_unset (x ∷ rest) params previous OutOfMemory figures is = absurd (figures refl)

-- A paragraph that is not set has items.
pub unset_some :
    (list : List Node) (params : Params) (previous : ℤ) (fault : ParagraphFault) → 0 < length list
    → IsUnsetList (finished_list list params.par_fill_skip) params previous fault → IsUnset list params previous fault
unset_some [] params previous fault some is = absurd (omega arith)
unset_some (x ∷ rest) params previous fault some is = is

-- An empty paragraph can be broken.
pub empty_unbroken : (list : List Node) (skip : Glue) → length list ≡ 0 → break_fault list skip ≡ None
empty_unbroken [] skip empty = refl
empty_unbroken (x ∷ rest) skip empty = absurd (omega arith)

-- If memory was refused, the paragraph can be broken.
pub memory_free : (list : List Node) (params : Params) (previous : ℤ) → IsUnset list params previous OutOfMemory → break_fault list params.par_fill_skip ≡ None
memory_free [] params previous is = refl
memory_free (x ∷ rest) params previous is = is
