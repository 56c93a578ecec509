-- How the logic stores the state of a job, and the state of a machine (own; the models of `JobState` and `Job` alone).
use Rattle.std.specs.Prelude.{ℕ, ℤ, Bool, List, Option, refl}
use Rattle.std.specs.Coded.{Coded, code_by, coded×, coded_ℕ, coded_ℤ, coded_bool, coded_list, coded_option}
use Rattle.node_core.specs.declared.tree.BoxNode.{BoxNode}
use Rattle.node_core.specs.contracts.tree.BoxNode as box_node
use Rattle.node_core.specs.Loads.{Load}
use Rattle.node_core.specs.declared.params.Params.{Params}
use Rattle.node_core.specs.contracts.params.Params as params_code
use Rattle.job_machine.specs.declared.OpenList.{OpenList}
use Rattle.job_machine.specs.contracts.OpenList as open_list
use Rattle.tfm_core.specs.NamedBytes.{NamedBytes}
use Rattle.tfm_core.specs.declared.slots.LoadedFont.{LoadedFont}
use Rattle.tfm_core.specs.contracts.slots.LoadedFont as loaded_font
use Rattle.job_machine.specs.State.{State}
use Rattle.job_state.specs.JobStateView.{JobStateView, state_of}

-- How a font file is stored: its name and its bytes.
abbrev pub coded_named : Coded NamedBytes
coded_named =
    code_by (List ℕ × List ℕ) (coded× (coded_list coded_ℕ) (coded_list coded_ℕ)) (λ f. (f.name, f.bytes))
    (λ p. record { name = p.0; bytes = p.1 }) (λ _. refl)

-- How the fonts of the slots are stored, with the slot of the current one.
abbrev pub coded_fonts : Coded (List (Option LoadedFont) × Option ℕ)
coded_fonts = coded× (coded_list (coded_option loaded_font.the_row.coded)) (coded_option coded_ℕ)

-- The parts of the state of a job, as a pair of pairs.
abbrev pub StateParts : Type 0
StateParts = ((List NamedBytes × (List (Option LoadedFont) × Option ℕ)) × (Params × List OpenList)) × (List (Option BoxNode) × List ℤ)

-- How the parts of the state of a job are stored.
abbrev pub coded_parts : Coded StateParts
coded_parts =
    coded× (coded× (coded× (coded_list coded_named) coded_fonts) (coded× params_code.the_row.coded (coded_list open_list.the_row.coded)))
    (coded× (coded_list (coded_option box_node.the_row.coded)) (coded_list coded_ℤ))

-- How the state of a job is stored: by its parts.
abbrev pub coded_job_state : Coded JobStateView
coded_job_state =
    code_by StateParts coded_parts (λ k. (((k.files, (k.fonts, k.current)), (k.params, k.nest)), (k.registers, k.counts)))
    (λ p. record { files = p.0.0.0; fonts = p.0.0.1.0; current = p.0.0.1.1; params = p.0.1.0; nest = p.0.1.1; registers = p.1.0; counts = p.1.1 })
    (λ _. refl)

-- How the numbers of what was shipped are stored.
abbrev pub coded_load : Coded Load
coded_load = code_by (ℕ × ℕ) (coded× coded_ℕ coded_ℕ) (λ l. (l.nodes, l.text)) (λ p. record { nodes = p.0; text = p.1 }) (λ _. refl)

-- How the state of a machine is stored: by the state of a job, the numbers of what was shipped and of pages, and whether it is over.
abbrev pub coded_state : Coded State
coded_state =
    code_by (JobStateView × ((Load × ℕ) × Bool)) (coded× coded_job_state (coded× (coded× coded_load coded_ℕ) coded_bool))
    (λ s. (
      record { files = s.files; fonts = s.fonts; current = s.current; params = s.params; nest = s.nest; registers = s.registers; counts = s.counts },
      ((s.shipped, s.pages), s.over),
    ))
    (λ p. state_of p.0 p.1.0.0 p.1.0.1 p.1.1) (λ _. refl)
