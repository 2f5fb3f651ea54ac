use Rattle.std.specs.List.{All}
use Rattle.doc_server_config.specs.FolderPages.{IsFileOf}
use Rattle.doc_server_config.proofs.folder_reading.FolderReading.read.Given as goal

-- where the files were a folder's they are
abbrev pub invariant-files : goal.invariant-files
invariant-files g l = All (IsFileOf l.fn.folder) l.fn.self.files.items → All (IsFileOf l.fn.folder) l.self.files.items
