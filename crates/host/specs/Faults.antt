-- What the system's errors say of a file.
use Rattle.std_io.specs.declared.io.kind.ErrorKind.{ErrorKind}
use Rattle.std_io.specs.declared.io.kind.ErrorKind.TheVariants.{IsADirectory, NotADirectory, NotFound, OutOfMemory, PermissionDenied}
use Rattle.command_line.specs.declared.files.FileFault.{FileFault}
use Rattle.command_line.specs.declared.files.FileFault.TheVariants.{Failed, Folder, Forbidden, Memory, Missing}

-- why a file wasn't read or written
abbrev pub fault_of_kind : ErrorKind → FileFault
fault_of_kind NotFound = Missing
fault_of_kind NotADirectory = Missing
fault_of_kind IsADirectory = Folder
fault_of_kind PermissionDenied = Forbidden
fault_of_kind OutOfMemory = Memory
fault_of_kind kind = Failed
