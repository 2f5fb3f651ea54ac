use Rattle.std.specs.List.{All}
use Rattle.doc_server_config.specs.FolderPages.{IsFileOf}
use Rattle.doc_server_config.proofs.folder_reading.FolderReading.read_all.Given as goal

-- where the files were a folder's they are
abbrev pub invariant-parts : goal.invariant-parts
invariant-parts g l = All (IsFileOf l.fn.folder) l.fn.self.files.items → All (IsFileOf l.fn.folder) l.self.files.items
