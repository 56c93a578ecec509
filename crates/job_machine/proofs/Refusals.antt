-- The replies that a step of the machine can give, and the steps of a machine that is over.
use Rattle.std.proofs.Common.{◌+◌, ◌≡◌, ◌≢◌, ℕ, ℤ, Bool, cond, true, false, List, [], ◌∷◌, Option, Some, None, Result, Ok, Err, refl, ap, sym, ◌∙◌, subst}
use Rattle.std.specs.List.{AllByRecursion}
use Rattle.tfm_core.specs.declared.fault.TfmCause.{TfmCause}
use Rattle.tfm_core.specs.NamedBytes.{NamedBytes, file_named}
use Rattle.tfm_core.specs.MetricFile.{MetricFile}
use Rattle.tfm_core.specs.Rules.{metric_file}
use Rattle.tfm_core.specs.Fonts.{SizedFont, chosen_size, fits_at, font_at}
use Rattle.job_machine.specs.FontSlots.{font_of_slot, sized_font}
use Rattle.job_machine.specs.declared.command.Command.{Command}
use Rattle.job_machine.specs.declared.command.Command.TheVariants.{LoadFont, UseFont, Open, Paragraph, End, Text, Character, Rule, Kern, Glue, Penalty, Append, Unbox, LastBox, Split, Measure, Void, Set, Count, Special, Ship}
use Rattle.job_machine.specs.declared.replies.Answer.{Answer}
use Rattle.job_machine.specs.declared.replies.Refusal.{Refusal}
use Rattle.job_machine.specs.declared.replies.Refusal.TheVariants.{OutOfMemory, DimensionTooLarge, Device, JobOver}
use Rattle.page_core.specs.declared.summary.Summary.{Summary}
use Rattle.job_machine.specs.Reply.{Reply}
use Rattle.node_core.specs.declared.params.Params.{Params}
use Rattle.node_core.specs.declared.params.SplitParams.{SplitParams}
use Rattle.node_core.specs.declared.tree.Kind.{Kind}
use Rattle.node_core.specs.declared.tree.BoxNode.{BoxNode}
use Rattle.pack_core.specs.declared.pack.PackedBox as packs
use Rattle.job_machine.specs.declared.OpenList.{OpenList}
use Rattle.std.specs.Prelude.{length}
use Rattle.node_core.specs.Nodes.{nodes_of}
use Rattle.job_machine.specs.State.{State, innermost, outer, items_in, open_count, held_in}
use Rattle.job_machine.specs.declared.ListPurpose.{ListPurpose}
use Rattle.job_machine.specs.declared.ListPurpose.TheVariants as purposes
use Rattle.vert_core.specs.Paragraphs.{SetParagraph}
use Rattle.vert_core.specs.declared.paragraph.ParagraphFault.{ParagraphFault}
use Rattle.vert_core.specs.declared.paragraph.ParagraphFault.TheVariants as faults
use Rattle.job_machine.specs.OpenLists.{packed_list}
use Rattle.job_machine.specs.Paragraphs.{set_after, set_checks}
use Rattle.job_machine.specs.Checks.{box_checks, held_checks, home_checks, packed_checks, purpose_checks, close_checks, items_checks, split_checks, page_checks, checks, first_refusal, refusal_in}
use Rattle.job_machine.specs.Answers.{answer_of}
use Rattle.job_machine.specs.Machine.{Machine, reply_by, reply_to, step}
use Rattle.job_machine.specs.Runs.{early_checks, finish_checks, Finishes, Finished, Refuses, WantsMemory, LostDevice, MayRunOutOfMemory, StepsTo, Replies, LacksMemory, LosesDevice, Run}

-- A refusal that the machine decides: any but OutOfMemory and Device, which memory and the device decide.
abbrev IsChosen : Refusal → Type 0
IsChosen OutOfMemory = ⊥
IsChosen Device = ⊥
IsChosen refusal = Unit {0}

abbrev AreChosen : List (Bool × Refusal) → Type 0
AreChosen list = AllByRecursion (λ (check : Bool × Refusal). IsChosen check.1) list

some_same : {r s : Refusal} → Some r ≡ Some s → r ≡ s
some_same e = cc

first_chosen : (list : List (Bool × Refusal)) (r : Refusal) → AreChosen list → first_refusal list ≡ Some r → IsChosen r
first_chosen [] r all is = cc
first_chosen ((true, s) ∷ rest) r all is = subst IsChosen (some_same is) all.0
first_chosen ((false, s) ∷ rest) r all is = first_chosen rest r all.1 is

-- The refusals of a font are such refusals.
chosen_by_size : (b : Bool) (font : SizedFont) → AreChosen (refusal_in (cond b (Ok font) (Err DimensionTooLarge)))
chosen_by_size true font = tt
chosen_by_size false font = (tt, tt)

chosen_by_read : (read : Result MetricFile TfmCause) (size : Option ℤ) → AreChosen (refusal_in (sized_font read size))
chosen_by_read (Err cause) size = (tt, tt)
chosen_by_read (Ok file) size = chosen_by_size (fits_at file (chosen_size file size)) (font_at file (chosen_size file size))

chosen_by_font : (file : Option NamedBytes) (size : Option ℤ) → AreChosen (refusal_in (font_of_slot file size))
chosen_by_font None size = (tt, tt)
chosen_by_font (Some file) size = chosen_by_read (metric_file file.bytes) size

-- So are the refusals of a box, or of items, at the end of a list.
chosen_by_box : (params : Params) (l : Option OpenList) (b : BoxNode) → AreChosen (box_checks params l b)
chosen_by_box params None b = (tt, tt)
chosen_by_box params (Some l) b = (tt, (tt, tt))

chosen_by_held : (params : Params) (l : Option OpenList) (held : Option BoxNode) → AreChosen (held_checks params l held)
chosen_by_held params l None = tt
chosen_by_held params l (Some b) = chosen_by_box params l b

chosen_by_page : (s : State) (held : Option BoxNode) → AreChosen (page_checks s held)
chosen_by_page s None = tt
chosen_by_page s (Some b) = (tt, (tt, (tt, (tt, tt))))

chosen_by_home : (params : Params) (around : List OpenList) (into : Option ℕ) (b : BoxNode) → AreChosen (home_checks params around into b)
chosen_by_home params around None b = chosen_by_box params (innermost around) b
chosen_by_home params around (Some register) b = tt

chosen_by_packed : (params : Params) (around : List OpenList) (into : Option ℕ) (packed : Option packs.PackedBox)
    → AreChosen (packed_checks params around into packed)
chosen_by_packed params around into None = (tt, tt)
chosen_by_packed params around into (Some packed) = (tt, chosen_by_home params around into packed.box_node)

chosen_by_set : (count : ℕ) (result : Result SetParagraph ParagraphFault) → AreChosen (set_checks count result)
chosen_by_set count (Ok set) = (tt, (tt, tt))
chosen_by_set count (Err faults.InfiniteShrink) = (tt, tt)
chosen_by_set count (Err faults.TooManyBreaks) = (tt, tt)
chosen_by_set count (Err faults.DimensionTooLarge) = (tt, tt)
chosen_by_set count (Err faults.OutOfMemory) = tt

chosen_by_purpose : (params : Params) (around : List OpenList) (l : OpenList) (purpose : ListPurpose) → AreChosen (purpose_checks params around l purpose)
chosen_by_purpose params around l (purposes.Box opening) = chosen_by_packed params around opening.into (packed_list params (Some l))
chosen_by_purpose params around l purposes.Paragraph = (tt, chosen_by_set (length (nodes_of (items_in (innermost around)))) (set_after params around l.list))

chosen_by_end : (params : Params) (around : List OpenList) (l : Option OpenList) → AreChosen (close_checks params around l)
chosen_by_end params around None = (tt, tt)
chosen_by_end params around (Some l) = chosen_by_purpose params around l l.purpose

chosen_by_items : (kind : Kind) (count : ℕ) (held : Option BoxNode) → AreChosen (items_checks kind count held)
chosen_by_items kind count None = tt
chosen_by_items kind count (Some b) = (tt, (tt, tt))

chosen_by_split : (params : SplitParams) (height : ℤ) (held : Option BoxNode) → AreChosen (split_checks params height held)
chosen_by_split params height None = tt
chosen_by_split params height (Some b) = (tt, (tt, (tt, tt)))

all_chosen : (s : State) (command : Command) → AreChosen (checks s command)
all_chosen s (LoadFont load) = (tt, (tt, chosen_by_font (file_named load.name s.files) load.size))
all_chosen s (UseFont slot) = (tt, (tt, tt))
all_chosen s (Text text) = (tt, (tt, (tt, (tt, (tt, tt)))))
all_chosen s (Character code) = (tt, (tt, (tt, (tt, (tt, tt)))))
all_chosen s (Open opening) = (tt, (tt, (tt, tt)))
all_chosen s Paragraph = (tt, (tt, (tt, (tt, tt))))
all_chosen s End = (tt, chosen_by_end s.params (outer s.nest) (innermost s.nest))
all_chosen s (Rule rule) = (tt, (tt, (tt, (tt, tt))))
all_chosen s (Kern width) = (tt, (tt, (tt, tt)))
all_chosen s (Glue glue) = (tt, (tt, (tt, tt)))
all_chosen s (Penalty n) = (tt, (tt, (tt, tt)))
all_chosen s (Append taken) = (tt, (tt, chosen_by_held s.params (innermost s.nest) (held_in s.registers taken.register)))
all_chosen s (Unbox taken) = (tt, (tt, (tt, chosen_by_items taken.kind (open_count s) (held_in s.registers taken.register))))
all_chosen s (LastBox r) = (tt, (tt, tt))
all_chosen s (Split splitting) = (tt, chosen_by_split s.params.split splitting.height (held_in s.registers splitting.register))
all_chosen s (Measure r) = (tt, tt)
all_chosen s (Void r) = (tt, tt)
all_chosen s (Set parameter) = (tt, tt)
all_chosen s (Count counting) = (tt, tt)
all_chosen s (Special text) = (tt, (tt, (tt, (tt, tt))))
all_chosen s (Ship r) = (tt, (tt, chosen_by_page s (held_in s.registers r)))

-- A reply that refuses comes from a check that holds.
refused_by : (refused : Option Refusal) (answer : Answer) (r : Refusal) → Err r ≡ reply_by refused answer → refused ≡ Some r
refused_by None answer r is = cc
refused_by (Some s) answer r is = cc

refuses : (s : State) (command : Command) (r : Refusal) → Err r ≡ reply_to s command → first_refusal (checks s command) ≡ Some r
refuses s command r is = refused_by (first_refusal (checks s command)) (answer_of s command) r is

stays : (m : Machine) (command : Command) (r : Refusal) → first_refusal (checks m.state command) ≡ Some r → step m command ≡ m
stays m command r is = rw is refl

pub unchanged : (m next : Machine) (n k : ℕ) (command : Command) (r : Refusal) → r ≢ Device → StepsTo m n command (Err r) next k → next ≡ m
unchanged m next n k command r other (Replies says goes counts) = goes ∙ stays m command r (refuses m.state command r says)
unchanged m next n k command r other (LacksMemory says takes may goes counts) = goes
unchanged m next n k command r other (LosesDevice says ships may goes counts) = absurd (other (cc))

pub takes_memory : (m next : Machine) (n k : ℕ) (command : Command) → StepsTo m n command (Err OutOfMemory) next k → MayRunOutOfMemory m.state command
takes_memory m next n k command (Replies says goes counts) =
    absurd (first_chosen (checks m.state command) OutOfMemory (all_chosen m.state command) (refuses m.state command OutOfMemory says))
takes_memory m next n k command (LacksMemory says takes may goes counts) = takes
takes_memory m next n k command (LosesDevice says ships may goes counts) = cc

pub counted_fault : (m next : Machine) (n k : ℕ) (command : Command) → StepsTo m n command (Err Device) next k → k ≡ n + 1
counted_fault m next n k command (Replies says goes counts) =
    absurd (first_chosen (checks m.state command) Device (all_chosen m.state command) (refuses m.state command Device says))
counted_fault m next n k command (LacksMemory says takes may goes counts) = cc
counted_fault m next n k command (LosesDevice says ships may goes counts) = counts

none_is_some : {r : Refusal} → None ≡ Some r → ⊥
none_is_some e = cc

-- If the job is over, the first check of each command holds.
over_first : (s : State) (command : Command) → s.over ≡ true → first_refusal (checks s command) ≡ Some JobOver
over_first s command over = rw over refl

-- If the job is over, the first early check of each command holds.
over_early : (s : State) (command : Command) → s.over ≡ true → first_refusal (early_checks s command) ≡ Some JobOver
over_early s (LoadFont load) over = rw over refl
over_early s (UseFont slot) over = rw over refl
over_early s Paragraph over = rw over refl
over_early s (Open opening) over = rw over refl
over_early s End over = rw over refl
over_early s (Text text) over = rw over refl
over_early s (Character code) over = rw over refl
over_early s (Rule rule) over = rw over refl
over_early s (Kern width) over = rw over refl
over_early s (Glue glue) over = rw over refl
over_early s (Penalty n) over = rw over refl
over_early s (Append taken) over = rw over refl
over_early s (Unbox taken) over = rw over refl
over_early s (LastBox r) over = rw over refl
over_early s (Split splitting) over = rw over refl
over_early s (Measure r) over = rw over refl
over_early s (Void r) over = rw over refl
over_early s (Set parameter) over = rw over refl
over_early s (Count counting) over = rw over refl
over_early s (Special text) over = rw over refl
over_early s (Ship r) over = rw over refl

over_step : (m next : Machine) (n k : ℕ) (command : Command) (reply : Reply) → m.state.over ≡ true → StepsTo m n command reply next k
    → (reply ≡ Err JobOver) × ((next ≡ m) × (k ≡ n))
over_step m next n k command reply over (Replies says goes counts) =
    let first = over_first m.state command over in
    (says ∙ ap (λ refused. reply_by refused (answer_of m.state command)) first, (goes ∙ stays m command JobOver first, counts))
over_step m next n k command reply over (LacksMemory says takes may goes counts) = absurd (none_is_some (sym may ∙ over_early m.state command over))
over_step m next n k command reply over (LosesDevice says ships may goes counts) = absurd (none_is_some (sym may ∙ over_first m.state command over))

pub over_run : (m next : Machine) (n k : ℕ) (commands : List Command) (replies : List Reply) → m.state.over ≡ true → Run m n commands replies next k
    → AllByRecursion (λ reply. reply ≡ Err JobOver) replies × (next ≡ m) × (k ≡ n)
over_run m next n k [] [] over run = (tt, run.0, run.1)
over_run m next n k [] (reply ∷ replies) over run = absurd run
over_run m next n k (command ∷ commands) [] over run = absurd run
over_run m next n k (command ∷ commands) (reply ∷ replies) over run =
    let first = over_step m run.0 n run.1 command reply over run.2 in
    let still : run.0.state.over ≡ true = ap (λ (x : Machine). x.state.over) first.1.0 ∙ over in
    let rest = over_run run.0 next run.1 k commands replies still run.3 in
    ((first.0, rest.0), rest.1 ∙ first.1.0, rest.2 ∙ first.1.1)

over_last : (s : State) → s.over ≡ true → first_refusal (finish_checks s) ≡ Some JobOver
over_last s over = rw over refl

pub over_finish : (m next : Machine) (n k : ℕ) (result : Result Summary Refusal) → m.state.over ≡ true → Finishes m n result next k
    → (result ≡ Err JobOver) × (next ≡ m) × (k ≡ n)
over_finish m next n k result over (Finished summary says may counts goes fails) = absurd (none_is_some (sym may ∙ over_last m.state over))
over_finish m next n k result over (Refuses refusal says is goes fails) =
    let same : refusal ≡ JobOver = some_same (sym is ∙ over_last m.state over) in
    (says ∙ ap Err same, goes, fails)
over_finish m next n k result over (WantsMemory says may some goes fails) = absurd (none_is_some (sym may ∙ over_last m.state over))
over_finish m next n k result over (LostDevice says may some goes fails) = absurd (none_is_some (sym may ∙ over_last m.state over))

-- The result of an end that is refused.
abbrev ended : Refusal → Result Summary Refusal
ended r = Err r

err_same : {r s : Refusal} → ended r ≡ ended s → r ≡ s
err_same e = cc

end_chosen : (s : State) (r : Refusal) → first_refusal (finish_checks s) ≡ Some r → IsChosen r
end_chosen s r is = first_chosen (finish_checks s) r (tt, (tt, tt)) is

pub memory_for_pages : (m next : Machine) (n k : ℕ) → Finishes m n (Err OutOfMemory) next k → m.pages ≢ []
memory_for_pages m next n k (Finished summary says may counts goes fails) = cc
memory_for_pages m next n k (Refuses refusal says is goes fails) =
    absurd (end_chosen m.state OutOfMemory (is ∙ ap Some (err_same (sym says))))
memory_for_pages m next n k (WantsMemory says may some goes fails) = some
memory_for_pages m next n k (LostDevice says may some goes fails) = cc

pub device_counted : (m next : Machine) (n k : ℕ) → Finishes m n (Err Device) next k → k ≡ n + 1
device_counted m next n k (Finished summary says may counts goes fails) = cc
device_counted m next n k (Refuses refusal says is goes fails) =
    absurd (end_chosen m.state Device (is ∙ ap Some (err_same (sym says))))
device_counted m next n k (WantsMemory says may some goes fails) = cc
device_counted m next n k (LostDevice says may some goes fails) = fails

pub end_unchanged : (m next : Machine) (n k : ℕ) (r : Refusal) → r ≢ Device → Finishes m n (Err r) next k → next ≡ m
end_unchanged m next n k r other (Finished summary says may counts goes fails) = cc
end_unchanged m next n k r other (Refuses refusal says is goes fails) = goes
end_unchanged m next n k r other (WantsMemory says may some goes fails) = goes
end_unchanged m next n k r other (LostDevice says may some goes fails) = absurd (other (err_same says))
