-- The faults of records and files: their numbers and their places.
use Rattle.std.specs.Prelude.{ℕ, ◌-◌, List, [], length, Some, None, Option}
use Rattle.supplied.specs.MakeErrors.{number_of}
use Rattle.fields.specs.declared.faults.FaultKind.{FaultKind}
use Rattle.fields.specs.declared.faults.FaultKind.TheVariants.{Short, OtherFamily, CountAboveLimit, NoPlaces, UndefinedBit, AbsentValue, BrokenRule, SpareBytes}
use Rattle.fields.specs.declared.faults.RecordFault.{RecordFault}
use Rattle.fields.specs.declared.faults.Part.{Part}
use Rattle.fields.specs.declared.faults.Fault.{Fault}

abbrev pub fault_number : FaultKind → ℕ
fault_number Short = 12
fault_number OtherFamily = 13
fault_number CountAboveLimit = 14
fault_number NoPlaces = 7
fault_number UndefinedBit = 15
fault_number AbsentValue = 16
fault_number (BrokenRule cause) = 17
fault_number SpareBytes = 18

-- the number of the region rule that is broken, inside 17
abbrev pub cause_number : FaultKind → Option ℕ
cause_number Short = None
cause_number OtherFamily = None
cause_number CountAboveLimit = None
cause_number NoPlaces = None
cause_number UndefinedBit = None
cause_number AbsentValue = None
cause_number (BrokenRule cause) = Some (number_of cause)
cause_number SpareBytes = None

-- a fault at the first of these bytes
abbrev pub fault_at : FaultKind → List ℕ → RecordFault
fault_at kind bytes = record { kind = kind; left = length bytes }

-- bytes that end early are at fault where nothing is left
abbrev pub ends_early : RecordFault
ends_early = fault_at Short []

-- a fault in a part of a file of so many bytes: its place counts from the front
abbrev pub fault_in : ℕ → Part → RecordFault → Fault
fault_in total part fault = record { kind = fault.kind; part = part; place = total - fault.left }
