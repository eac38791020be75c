-- The refusals of a script, each with its number and its layer.
use Rattle.std.specs.Prelude.{ℕ}
use Rattle.protocol.specs.Refusals.{fault_layer, fault_number}
use Rattle.script.specs.declared.fault.ScriptFault.{ScriptFault}
use Rattle.script.specs.declared.fault.ScriptRefusal.{ScriptRefusal}
use Rattle.script.specs.declared.fault.ScriptRefusal.TheVariants.{BadLine, Floor}

abbrev pub number_of : ScriptRefusal → ℕ
number_of BadLine = 16
number_of (Floor fault) = fault_number fault

-- S, or the layer where the floor's fault arose
abbrev pub layer_of : ScriptRefusal → ℕ
layer_of BadLine = 83
layer_of (Floor fault) = fault_layer fault

abbrev pub at_line : ℕ → ScriptRefusal → ScriptFault
at_line line refusal = record { line = line; refusal = refusal }
