-- The faults of one call as those of its caller (own).
use Rattle.boxglue_print.specs.declared.output.PaintFault.{PaintFault}
use Rattle.boxglue_print.specs.declared.output.PaintFault.TheVariants as paints
use Rattle.boxglue_program.specs.declared.run.RunFault.{RunFault}
use Rattle.boxglue_program.specs.declared.run.RunFault.TheVariants as runs
use Rattle.boxglue_words.specs.declared.input_fault.InputFault.{InputFault}
use Rattle.boxglue_words.specs.declared.input_fault.InputFault.TheVariants as inputs
use Rattle.boxglue_lib.specs.declared.printing.PrintFault.{PrintFault}
use Rattle.boxglue_lib.specs.declared.printing.PrintFault.TheVariants as prints
use Rattle.boxglue_lib.specs.declared.task_fault.TaskFault.{TaskFault}
use Rattle.boxglue_lib.specs.declared.task_fault.TaskFault.TheVariants.{Unwritten, OutOfMemory, Unreadable, NoSuchPage}

-- The fault of a page that was not painted as one of a text that was not printed.
abbrev pub of_paint : PaintFault → PrintFault
of_paint paints.OutOfMemory = prints.OutOfMemory
of_paint paints.NoSuchPage = prints.NoSuchPage

-- The fault of an input that was not read as one of its task.
abbrev pub of_input : InputFault → TaskFault
of_input inputs.OutOfMemory = OutOfMemory
of_input (inputs.Unreadable path) = Unreadable path

-- The fault of a text that was not printed as one of its task.
abbrev pub of_print : PrintFault → TaskFault
of_print prints.OutOfMemory = OutOfMemory
of_print prints.Unwritten = Unwritten
of_print prints.NoSuchPage = NoSuchPage

-- The fault of a script that was run as one of its task, without the device.
abbrev pub of_run : {D : Type 0} → RunFault D → TaskFault
of_run (runs.Memory device) = OutOfMemory
of_run (runs.Answers device) = Unwritten
