-- The faults of one call as those of its caller (own).
use Rattle.std.specs.Prelude.{ℕ}
use Rattle.dvi_scan.specs.Execution.{fault_at}
use Rattle.dvi_scan.specs.declared.fault.FrameFault.{FrameFault}
use Rattle.dvi_scan.specs.declared.fault.FrameFault.TheVariants as frames
use Rattle.dvi_read.specs.declared.fault.DviFault.{DviFault}
use Rattle.dvi_read.specs.declared.fault.DviFault.TheVariants as faults
use Rattle.dvi_read.specs.declared.fault.StepFault.{StepFault}
use Rattle.dvi_read.specs.declared.fault.StepFault.TheVariants.{Pass, Font}

-- A fault of the end of a file, of its chain of pages or of the part after post, as a fault of the file.
abbrev pub of_frame : FrameFault → DviFault
of_frame frames.OutOfMemory = faults.OutOfMemory
of_frame (frames.Bad bad) = faults.Bad bad

-- The fault of an instruction at a place as a fault of the file.
abbrev pub fault_in : (place : ℕ) → StepFault → DviFault
fault_in place (Pass fault) = of_frame (fault_at place fault)
fault_in place (Font refusal) = faults.Font refusal
