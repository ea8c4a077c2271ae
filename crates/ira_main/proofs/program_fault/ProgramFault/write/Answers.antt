use Rattle.ira_main.proofs.program_fault.ProgramFault.write.Goals as goal

pub returns-in-File : goal.returns-in-File
returns-in-File g c = rw c.in-File.is c.write.ensures

pub returns-in-Command : goal.returns-in-Command
returns-in-Command g c = rw c.in-Command.is c.write-in-Command.ensures

pub returns-in-CannotWriteLog : goal.returns-in-CannotWriteLog
returns-in-CannotWriteLog g c = rw c.in-CannotWriteLog.is c.write_unwritten.ensures

pub returns-in-CannotWrite : goal.returns-in-CannotWrite
returns-in-CannotWrite g c = rw c.in-CannotWrite.is c.write_naming.ensures

pub returns-in-CannotWriteAnswer : goal.returns-in-CannotWriteAnswer
returns-in-CannotWriteAnswer g c = rw c.in-CannotWriteAnswer.is c.write_bytes-in-CannotWriteAnswer.ensures

pub returns-in-OutOfMemory : goal.returns-in-OutOfMemory
returns-in-OutOfMemory g c = rw c.in-OutOfMemory.is c.write_bytes-in-OutOfMemory.ensures
