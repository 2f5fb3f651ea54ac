use Rattle.doc_server_journal.proofs.file_device.write_zeros.Given as goal

-- what is left
abbrev pub decreases-left : goal.decreases-left
decreases-left l = l.left
