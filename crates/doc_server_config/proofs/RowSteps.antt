-- One turn of reading the tables of an array.
use Rattle.std.proofs.Common.{◌≡◌, ◌+◌, ℕ, List, [], ◌∷◌, ◌++◌, Some, None, Ok, Err}
use Rattle.toml.specs.Data.{Data, Items, item}
use Rattle.doc_server_config.specs.declared.config.ConfigError.TheVariants.{BadPage}
use Rattle.doc_server_config.specs.declared.folder.Folder.{Folder}
use Rattle.doc_server_config.specs.declared.folder.FolderFault.{FolderFault}
use Rattle.doc_server_config.specs.declared.listening.ListeningError.TheVariants.{BadFolder}
use Rattle.doc_server_config.specs.declared.page_row.PageRow.{PageRow}
use Rattle.doc_server_config.specs.Folders.{folder_of, folders_from}
use Rattle.doc_server_config.specs.PageRows.{page_of, pages_from}

pub page_more : (found more : List PageRow) (n : ℕ) (row : Data) (rows rest : Items) (page : PageRow)
    → rows ≡ item row rest → page_of row ≡ Some page → more ≡ found ++ page ∷ [] → pages_from found n rows ≡ pages_from more (n + 1) rest
page_more found more n row rows rest page first is next = rw (first, is, pages_from, next)

pub page_bad : (found : List PageRow) (n : ℕ) (row : Data) (rows rest : Items)
    → rows ≡ item row rest → page_of row ≡ None → pages_from found n rows ≡ Err (BadPage n)
page_bad found n row rows rest first is = rw (first, is, pages_from)

pub folder_more : (found more : List Folder) (n : ℕ) (row : Data) (rows rest : Items) (folder : Folder)
    → rows ≡ item row rest → folder_of row ≡ Ok folder → more ≡ found ++ folder ∷ []
    → folders_from found n rows ≡ folders_from more (n + 1) rest
folder_more found more n row rows rest folder first is next = rw (first, is, folders_from, next)

pub folder_bad : (found : List Folder) (n : ℕ) (row : Data) (rows rest : Items) (fault : FolderFault)
    → rows ≡ item row rest → folder_of row ≡ Err fault → folders_from found n rows ≡ Err (BadFolder n fault)
folder_bad found n row rows rest fault first is = rw (first, is, folders_from)
