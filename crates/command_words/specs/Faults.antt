-- Why words ask for nothing, by the error that `clap` answers.
use Rattle.clap.specs.declared.error.kind.ErrorKind.{ErrorKind}
use Rattle.clap.specs.declared.error.kind.ErrorKind.TheVariants.{OutOfMemory}
use Rattle.command_words.specs.declared.fault.WordsFault.{WordsFault}
use Rattle.command_words.specs.declared.fault.WordsFault.TheVariants.{Usage, Memory}

abbrev pub fault_of_kind : ErrorKind → WordsFault
fault_of_kind OutOfMemory = Memory
fault_of_kind _ = Usage
