use Rattle.ira_main.proofs.file_fault.FileFault.write.Goals as goal

pub returns-in-Unread : goal.returns-in-Unread
returns-in-Unread g c = rw c.in-Unread.is (rw c.as_str.ensures at c.write_naming.ensures)
