-- What a job holds may go to another thread. Each lemma is one type's, the lowest first.
use denote.Builtin.{u8}
use denote.Param.Send.{IsSend, view_send, sendable}
use denote.Param.SendFields.{as_row_send, array_field_send, declared_send}
use Rattle.std.proofs.Crossing.{crosses, Vec-send}
use Rattle.std.specs.contracts.alloc.Global.{the_row as Z}
use Rattle.std.specs.contracts.impls.GlobalAllocator.TheImpl.{ghosts}
use Rattle.std_alloc.specs.contracts.vec.Vec as Vec
use Rattle.dvi_device.specs.contracts.device.Memory as memory
use Rattle.tfm_core.specs.contracts.font_file.FontFile as file
use Rattle.tfm_core.specs.contracts.font.Font as font
use Rattle.tfm_core.specs.contracts.slots.LoadedFont as loaded
use Rattle.tfm_core.specs.contracts.slots.Fonts as fonts
use Rattle.node_core.specs.contracts.params.Params as params
use Rattle.job_lists.specs.contracts.nest.Nest as nest
use Rattle.job_state.specs.contracts.registers.Registers as registers
use Rattle.boxglue_calls.proofs.NodesCrossing.{of_list, of_box}
use Rattle.job_state.specs.contracts.job_state.JobState as state
use Rattle.boxglue_calls.specs.contracts.jobs.kept_job.KeptJob as kept_job
use Rattle.boxglue_calls.specs.contracts.jobs.kept_job.KeptJob.TheInside as in_kept
use Rattle.job_state.specs.contracts.job_state.JobState.TheInside as in_state
use Rattle.dvi_device.specs.contracts.device.MemoryDevice.TheImpl.{ghosts as device}
use Rattle.dvi_write.specs.contracts.dvi_writer.DviWriter as writer
use Rattle.dvi_write.specs.contracts.dvi_writer.DviWriter.TheInside as in_writer
use Rattle.job_core.specs.contracts.device_job.Job as job
use Rattle.job_core.specs.contracts.device_job.Job.TheInside as in_job

text : IsSend (Vec.the_row u8 Z ghosts)
text = search (sendable, crosses) depth 20

of_memory : IsSend memory.the_row
of_memory = search (sendable, crosses) depth 40

of_file : IsSend file.the_row
of_file = search (sendable, crosses) depth 40

of_font : IsSend font.the_row
of_font = search (sendable, crosses) depth 40

of_loaded : IsSend loaded.the_row
of_loaded = search (sendable, crosses, of_font) depth 40 fits 100000

of_fonts : IsSend fonts.the_row
of_fonts = search (sendable, crosses, of_loaded) depth 40 fits 100000

of_params : IsSend params.the_row
of_params = search (sendable, crosses) depth 60 fits 100000

of_registers : IsSend registers.the_row
of_registers = search (sendable, crosses, of_box) depth 60 fits 100000

of_nest : IsSend nest.the_row
of_nest = search (sendable, crosses, of_list, of_box) depth 60 fits 100000

files : IsSend (Vec.the_row file.the_row Z ghosts)
files = Vec-send file.the_row of_file

state_inside : IsSend in_state.the_row
state_inside = declared_send in_state.the_type (search (as_row_send, array_field_send, files, of_fonts, of_params, of_nest, of_registers, sendable) depth 60 fits 100000)

of_state : IsSend state.the_row
of_state = view_send in_state.the_row _ _ _ _ state_inside

writer_inside : IsSend (in_writer.the_row memory.the_row device)
writer_inside = declared_send (in_writer.the_type memory.the_row device) (search (as_row_send, of_memory, sendable, crosses) depth 60 fits 100000)

of_writer : IsSend (writer.the_row memory.the_row device)
of_writer = view_send (in_writer.the_row memory.the_row device) _ _ _ _ writer_inside

job_inside : IsSend (in_job.the_row memory.the_row device)
job_inside = declared_send (in_job.the_type memory.the_row device) (search (as_row_send, of_state, of_writer, sendable, crosses) depth 60 fits 100000)

of_job : IsSend (job.the_row memory.the_row device)
of_job = view_send (in_job.the_row memory.the_row device) _ _ _ _ job_inside

kept_inside : IsSend in_kept.the_row
kept_inside = declared_send in_kept.the_type (search (as_row_send, of_job, text, sendable) depth 60 fits 100000)

pub kept : IsSend kept_job.the_row
kept = view_send in_kept.the_row _ _ _ _ kept_inside
