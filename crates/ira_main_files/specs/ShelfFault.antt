-- The fault of a file by the kind of the system's error.
use Rattle.std.specs.declared.io.ErrorKind.{ErrorKind}
use Rattle.std.specs.declared.io.ErrorKind.TheVariants as kind
use Rattle.ira_main_files.specs.declared.shelf_fault.ShelfFault.{ShelfFault}
use Rattle.ira_main_files.specs.declared.shelf_fault.ShelfFault.TheVariants.{Device, NotFound, OutOfMemory}

-- the fault of an error of this kind
abbrev pub kind_fault : ErrorKind → ShelfFault
kind_fault kind.NotFound = NotFound
kind_fault kind.OutOfMemory = OutOfMemory
kind_fault _ = Device
