-- A paragraph that was ended, or not, is as the machine has it.
use Rattle.std.proofs.Common.{◌≡◌, ◌≢◌, ◌∙◌, ◌≤◌, ◌<◌, ◌+◌, ℤ, true, false, refl, List, length, Option, Some, None, Ok, Err, ap, sym, arith}
use Rattle.std.specs.Prelude.{is_none, nat_lt}
use Rattle.std.proofs.lemmas.Bool.{lt-ltb, le-ltb}
use Rattle.node_core.specs.declared.limits.TheConstants.{MAX_DEPTH, MAX_ITEMS}
use Rattle.node_core.specs.declared.params.Params.{Params}
use Rattle.node_core.specs.declared.tree.Node.{Node}
use Rattle.node_core.specs.Items.{Items, items_depth}
use Rattle.node_core.specs.Nodes.{nodes_of}
use Rattle.vert_core.specs.declared.appending.AppendedParagraph.{AppendedParagraph}
use Rattle.vert_core.specs.declared.appending.UnappendedLines.{UnappendedLines}
use Rattle.vert_core.specs.declared.appending.UnappendedLines.TheVariants.{Unset, TooDeep, TooLong}
use Rattle.vert_core.specs.declared.paragraph.ParagraphFault.{ParagraphFault}
use Rattle.vert_core.specs.declared.paragraph.ParagraphFault.TheVariants as faults
use Rattle.vert_core.specs.Paragraphs.{break_fault, IsUnset}
use Rattle.vert_core.specs.Setting.{setting}
use Rattle.vert_core.proofs.Settings.{paragraph_unset, memory_free}
use Rattle.job_machine.specs.declared.replies.Refusal.{Refusal}
use Rattle.job_machine.specs.declared.replies.Refusal.TheVariants as refusals
use Rattle.job_machine.specs.declared.OpenList.{OpenList}
use Rattle.job_machine.specs.State.{innermost, items_in}
use Rattle.job_machine.specs.Checks.{first_refusal}
use Rattle.job_machine.specs.Paragraphs.{depth_in, set_after, paragraph_answer, with_paragraph, paragraph_refusal, paragraph_checks, early_paragraph_checks}
use Rattle.job_lists.specs.Private.EndedParagraphs.{IsEnded, IsRefused, refusal_of}

-- The only fault that is no refusal of the machine is refused memory.
pub only_memory : (fault : ParagraphFault) → paragraph_refusal fault ≡ None → fault ≡ faults.OutOfMemory
only_memory faults.InfiniteShrink is = cc
only_memory faults.TooManyBreaks is = cc
only_memory faults.DimensionTooLarge is = cc
only_memory faults.OutOfMemory is = cc

-- Where a list is around a paragraph that may be broken, no early check refuses its end.
pub early_free : (params : Params) (around : List OpenList) (items : Items) → is_none (innermost around) ≡ false
    → break_fault (nodes_of items) params.par_fill_skip ≡ None → first_refusal (early_paragraph_checks params around items) ≡ None
early_free params around items some free = rw (some, free) refl

-- A paragraph whose lines were appended is not refused; its answer and the lists after it are the machine's.
module _ (params : Params) (around after : List OpenList) (items : Items) (figures : AppendedParagraph)
    (ended : IsEnded params around items after figures) where
  pub not_refused : is_none (innermost around) ≡ false → first_refusal (paragraph_checks params around items) ≡ None
  not_refused some =
      let shallow : nat_lt MAX_DEPTH (items_depth ended.set.items) ≡ false = le-ltb MAX_DEPTH (items_depth ended.set.items) ended.shallow in
      let short : nat_lt MAX_ITEMS (length (nodes_of (items_in (innermost around))) + length (nodes_of ended.set.items)) ≡ false =
      le-ltb MAX_ITEMS (length (nodes_of (items_in (innermost around))) + length (nodes_of ended.set.items)) ended.short in
      rw (some, ended.is_set, shallow, short) refl

  pub ended_lists : after ≡ with_paragraph params around items
  ended_lists = rw ended.is_set ended.nest

-- Why the lines of a paragraph were not appended is the machine's refusal, unless memory was refused.
pub refused_so :
    (params : Params) (around : List OpenList) (items : Items) (unappended : UnappendedLines) (refusal : Refusal) → is_none (innermost around) ≡ false
    → IsRefused params around items unappended → refusal_of unappended ≡ Some refusal → first_refusal (paragraph_checks params around items) ≡ Some refusal
refused_so params around items (Unset fault) refusal some is figures =
    let unset : set_after params around items ≡ Err fault =
    paragraph_unset (nodes_of items) params (depth_in (innermost around)) fault (λ memory. absurd (no_refusal fault memory figures)) is in
    rw (some, unset, figures) refl
  where
    no_refusal : (fault : ParagraphFault) → fault ≡ faults.OutOfMemory → paragraph_refusal fault ≡ Some refusal → ⊥
    no_refusal fault memory figures = cc
refused_so params around items TooDeep refusal some is figures =
    let deep : nat_lt MAX_DEPTH (items_depth is.0.items) ≡ true = lt-ltb MAX_DEPTH (items_depth is.0.items) is.2 in
    rw (some, is.1, deep) figures
refused_so params around items TooLong refusal some is figures =
    let shallow : nat_lt MAX_DEPTH (items_depth is.0.items) ≡ false = le-ltb MAX_DEPTH (items_depth is.0.items) is.2 in
    let long : nat_lt MAX_ITEMS (length (nodes_of (items_in (innermost around))) + length (nodes_of is.0.items)) ≡ true =
    lt-ltb MAX_ITEMS (length (nodes_of (items_in (innermost around))) + length (nodes_of is.0.items)) is.3 in
    rw (some, is.1, shallow, long) figures

pub memory_refused :
    (params : Params) (around : List OpenList) (items : Items) (unappended : UnappendedLines) → is_none (innermost around) ≡ false
    → IsRefused params around items unappended → refusal_of unappended ≡ None → first_refusal (early_paragraph_checks params around items) ≡ None
memory_refused params around items (Unset faults.OutOfMemory) some is figures =
    early_free params around items some (memory_free (nodes_of items) params (depth_in (innermost around)) is)
memory_refused params around items (Unset faults.InfiniteShrink) some is figures = absurd (cc)
memory_refused params around items (Unset faults.TooManyBreaks) some is figures = absurd (cc)
memory_refused params around items (Unset faults.DimensionTooLarge) some is figures = absurd (cc)
memory_refused params around items TooDeep some is figures = absurd (cc)
memory_refused params around items TooLong some is figures = absurd (cc)
