-- What commands leave as it is. Those on boxes change only the open lists and the registers; none changes the font files or whether the job is over.
use Rattle.std.proofs.Common.{◌≡◌, ℕ, List, Option, Some, None, refl}
use Rattle.std.specs.Prelude.{ℤ}
use Rattle.node_core.specs.declared.tree.BoxNode.{BoxNode}
use Rattle.pack_core.specs.declared.pack.PackedBox as packs
use Rattle.job_machine.specs.declared.OpenList.{OpenList}
use Rattle.job_machine.specs.declared.command.Transfer.{Transfer}
use Rattle.job_machine.specs.State.{State, innermost, outer, held_in}
use Rattle.job_machine.specs.declared.ListPurpose.{ListPurpose}
use Rattle.job_machine.specs.declared.ListPurpose.TheVariants as purposes
use Rattle.job_machine.specs.OpenLists.{packed_list}
use Rattle.job_machine.specs.Checks.{checks, first_refusal}
use Rattle.job_machine.specs.Effects.{with_home, with_closed, with_purpose, with_ended, with_used, with_unboxed, state_after_command}
use Rattle.job_machine.specs.Machine.{state_by, state_after}
use Rattle.job_machine.specs.declared.command.AppendBox.{AppendBox}
use Rattle.job_machine.specs.declared.command.Unboxing.{Unboxing}
use Rattle.job_machine.specs.declared.replies.Refusal.{Refusal}
use Rattle.job_machine.specs.declared.command.Command.{Command}
use Rattle.job_machine.specs.declared.command.Command.TheVariants.{LoadFont, UseFont, Open, Paragraph, End, Text, Character, Rule, Kern, Glue, Penalty, Append, Unbox, LastBox, Split, Measure, Void, Set, Count, Special, Ship}

pub record KeepsRest (s t : State) : Type 0 where
  pub files : t.files ≡ s.files
  pub fonts : t.fonts ≡ s.fonts
  pub over : t.over ≡ s.over

same_rest : (s : State) → KeepsRest s s
same_rest s = record { files = refl; fonts = refl; over = refl }

home_rest : (s : State) (around : List OpenList) (into : Option ℕ) (b : BoxNode) → KeepsRest s (with_home s around into b)
home_rest s around None b = record { files = refl; fonts = refl; over = refl }
home_rest s around (Some r) b = record { files = refl; fonts = refl; over = refl }

closed_rest : (s : State) (into : Option ℕ) (packed : Option packs.PackedBox) → KeepsRest s (with_closed s into packed)
closed_rest s into None = same_rest s
closed_rest s into (Some packed) = home_rest s (outer s.nest) into packed.box_node

purpose_rest : (s : State) (l : OpenList) (purpose : ListPurpose) → KeepsRest s (with_purpose s l purpose)
purpose_rest s l (purposes.Box opening) = closed_rest s opening.into (packed_list s.params (Some l))
purpose_rest s l purposes.Paragraph = record { files = refl; fonts = refl; over = refl }

ended_rest : (s : State) (l : Option OpenList) → KeepsRest s (with_ended s l)
ended_rest s None = same_rest s
ended_rest s (Some l) = purpose_rest s l l.purpose

used_rest : (s : State) (taking : Transfer) (r : ℕ) (shift : ℤ) (held : Option BoxNode) → KeepsRest s (with_used s taking r shift held)
used_rest s taking r shift None = same_rest s
used_rest s taking r shift (Some b) = record { files = refl; fonts = refl; over = refl }

unboxed_rest : (s : State) (taking : Transfer) (r : ℕ) (held : Option BoxNode) → KeepsRest s (with_unboxed s taking r held)
unboxed_rest s taking r None = same_rest s
unboxed_rest s taking r (Some b) = record { files = refl; fonts = refl; over = refl }

pub end_keeps : (s : State) → KeepsRest s (state_after_command s End)
end_keeps s = ended_rest s (innermost s.nest)

pub append_keeps : (s : State) (taken : AppendBox) → KeepsRest s (state_after_command s (Append taken))
append_keeps s taken = used_rest s taken.taking taken.register taken.shift (held_in s.registers taken.register)

pub unbox_keeps : (s : State) (taken : Unboxing) → KeepsRest s (state_after_command s (Unbox taken))
unbox_keeps s taken = unboxed_rest s taken.taking taken.register (held_in s.registers taken.register)

-- What no command changes.
pub record KeepsJob (s t : State) : Type 0 where
  pub files : t.files ≡ s.files
  pub over : t.over ≡ s.over

by_rest : (s t : State) → KeepsRest s t → KeepsJob s t
by_rest s t keeps = record { files = keeps.files; over = keeps.over }

after_kept : (s : State) (command : Command) → KeepsJob s (state_after_command s command)
after_kept s (LoadFont load) = record { files = refl; over = refl }
after_kept s (UseFont slot) = record { files = refl; over = refl }
after_kept s (Open opening) = record { files = refl; over = refl }
after_kept s Paragraph = record { files = refl; over = refl }
after_kept s End = by_rest s (state_after_command s End) (end_keeps s)
after_kept s (Text text) = record { files = refl; over = refl }
after_kept s (Character code) = record { files = refl; over = refl }
after_kept s (Rule rule) = record { files = refl; over = refl }
after_kept s (Kern width) = record { files = refl; over = refl }
after_kept s (Glue glue) = record { files = refl; over = refl }
after_kept s (Penalty n) = record { files = refl; over = refl }
after_kept s (Append taken) = by_rest s (state_after_command s (Append taken)) (append_keeps s taken)
after_kept s (Unbox taken) = by_rest s (state_after_command s (Unbox taken)) (unbox_keeps s taken)
after_kept s (LastBox r) = record { files = refl; over = refl }
after_kept s (Split splitting) = record { files = refl; over = refl }
after_kept s (Measure r) = record { files = refl; over = refl }
after_kept s (Void r) = record { files = refl; over = refl }
after_kept s (Set parameter) = record { files = refl; over = refl }
after_kept s (Count counting) = record { files = refl; over = refl }
after_kept s (Special text) = record { files = refl; over = refl }
after_kept s (Ship r) = record { files = refl; over = refl }

pub job_kept : (s : State) (command : Command) → KeepsJob s (state_after s command)
job_kept s command = cases (first_refusal (checks s command))
  where
    cases : (refused : Option Refusal) → KeepsJob s (state_by refused s (state_after_command s command))
    cases None = after_kept s command
    cases (Some refusal) = record { files = refl; over = refl }
