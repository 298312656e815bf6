-- The statuses of the program: their numbers, the line that each ends what was written with, and the errors that become one.
use Rattle.std.specs.Prelude.{ℕ, List, [], ◌∷◌, ◌++◌, codes, ◌==◌, if◌then◌else◌}
use Rattle.std.specs.Fmt.{decimal}
use Rattle.std.specs.declared.io.ErrorKind.{ErrorKind}
use Rattle.std.specs.declared.io.ErrorKind.TheVariants.{OutOfMemory}
use Rattle.ff_io.specs.declared.reading.ReadAll.{ReadAll}
use Rattle.ff_io.specs.declared.reading.ReadAll.TheVariants.{Failed, TooLong, Memory}
use Rattle.script_text.specs.declared.fault.ScriptFault.{ScriptFault}
use Rattle.interface_text.specs.declared.fault.TextFault.{TextFault}
use Rattle.commands.specs.declared.status.Status.{Status}
use Rattle.commands.specs.declared.status.Status.TheVariants as status

abbrev pub number_of : Status → ℕ
number_of status.Ok = 0
number_of status.Usage = 2
number_of (status.BadText line number) = 3
number_of status.ReadFault = 4
number_of status.WriteFault = 5
number_of status.LinkFault = 6
number_of status.CallsFailed = 7
number_of status.TooLong = 8
number_of status.ClockFault = 9
number_of status.NoMemory = 10

abbrev pub newline : List ℕ
newline = 10 ∷ []

-- the line that is written last
unfoldable pub fault_line : Status → List ℕ
fault_line status.Ok = []
fault_line status.Usage = codes "fault Usage" ++ newline
fault_line (status.BadText line number) = codes "fault BadText " ++ decimal line ++ codes " " ++ decimal number ++ newline
fault_line status.ReadFault = codes "fault ReadFault" ++ newline
fault_line status.WriteFault = []
fault_line status.LinkFault = codes "fault LinkFault" ++ newline
fault_line status.CallsFailed = codes "fault CallsFailed" ++ newline
fault_line status.TooLong = codes "fault TooLong" ++ newline
fault_line status.ClockFault = codes "fault ClockFault" ++ newline
fault_line status.NoMemory = codes "fault NoMemory" ++ newline

-- where the words of the program can't be had: one of them is no text, unless memory ran out
abbrev pub status_of_words : ErrorKind → Status
status_of_words OutOfMemory = status.NoMemory
status_of_words _ = status.Usage

-- where the input can't be read to its end
abbrev pub status_of_reading : ReadAll → Status
status_of_reading Failed = status.ReadFault
status_of_reading TooLong = status.TooLong
status_of_reading Memory = status.NoMemory

-- where its text is no script: the number 0 stands for want of memory
abbrev pub status_of_text : ScriptFault → Status
status_of_text fault = if fault.number == 0 then status.NoMemory else status.BadText fault.line fault.number

-- where it is no interface
abbrev pub status_of_interface : TextFault → Status
status_of_interface fault = if fault.number == 0 then status.NoMemory else status.BadText fault.line fault.number
