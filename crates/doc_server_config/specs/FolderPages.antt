-- The files of a folder. All of this is this project's choice.
use Rattle.std.specs.Prelude.{◌≡◌, ◌≤◌, ℕ, List, length, true, false, Option, Some, None, Result, Ok, Err}
use Rattle.doc_media.specs.Held.{medium_limit}
use Rattle.doc_media.specs.Kinds.{kind_of}
use Rattle.doc_store.specs.Store.{text_limit}
use Rattle.doc_server_config.specs.BadFiles.{bad_file}
use Rattle.doc_server_config.specs.Excepted.{is_excepted}
use Rattle.doc_server_config.specs.FileNames.{is_page_name, path_in_folder}
use Rattle.doc_server_config.specs.Reasons.{is_of_path}
use Rattle.doc_server_config.specs.declared.bad_file.BadFile.{BadFile}
use Rattle.doc_server_config.specs.declared.folder.Folder.{Folder}
use Rattle.doc_server_config.specs.declared.folder_pages.FolderFile.{FolderFile}
use Rattle.doc_server_config.specs.declared.folder_pages.FolderFile.TheVariants.{Page, Medium, Bad}
use Rattle.doc_server_config.specs.declared.folder_pages.FolderMedium.{FolderMedium}
use Rattle.doc_server_config.specs.declared.folder_pages.FolderPage.{FolderPage}
use Rattle.doc_server_config.specs.declared.reason.Reason.{Reason}

-- the path of the page or the medium in the file of this name in a folder, or why it makes none; nothing where the file is passed over
abbrev pub path_in : Folder → List ℕ → Result (Option (List ℕ)) Reason
path_in folder name = path_in_folder folder.rules.is_nfc folder.media folder.prefix name

-- A page that a folder may have: under the path of some file in it that isn't passed over, for the folder's groups, and with a text that
-- a page may have.
pub record IsPageOf (folder : Folder) (page : FolderPage) : Type 0 where
  pub name : List ℕ
  pub inside : is_excepted folder.except name ≡ false
  pub named : is_page_name name ≡ true
  pub path : path_in folder name ≡ Ok (Some page.path)
  pub groups : page.groups ≡ folder.groups
  pub short : length page.text ≤ text_limit

-- A medium that a folder may have: the same of a file whose name has one of the folder's extensions, of the kind that its path names, and
-- with as many bytes as a medium may have.
pub record IsMediumOf (folder : Folder) (medium : FolderMedium) : Type 0 where
  pub name : List ℕ
  pub inside : is_excepted folder.except name ≡ false
  pub path : path_in folder name ≡ Ok (Some medium.path)
  pub groups : medium.groups ≡ folder.groups
  pub kind : kind_of medium.path ≡ Some medium.kind
  pub short : length medium.bytes ≤ medium_limit

-- whether a reason may be told of a file whose name makes this path: where it makes none, that is the reason, and no other file has
-- such a one
abbrev pub MaySay : Result (Option (List ℕ)) Reason → Reason → Type 0
MaySay (Err of_path) reason = reason ≡ of_path
MaySay (Ok None) reason = ⊥
MaySay (Ok (Some path)) reason = is_of_path reason ≡ false

-- A bad file that a folder may have: it is named, isn't passed over, and has a reason that may be told of it.
pub record IsBadOf (folder : Folder) (bad : BadFile) : Type 0 where
  pub name : List ℕ
  pub inside : is_excepted folder.except name ≡ false
  pub told : bad ≡ bad_file folder name bad.reason
  pub reason : MaySay (path_in folder name) bad.reason

-- a file that a folder may have
abbrev pub IsFileOf : Folder → FolderFile → Type 0
IsFileOf folder (Page page) = IsPageOf folder page
IsFileOf folder (Medium medium) = IsMediumOf folder medium
IsFileOf folder (Bad bad) = IsBadOf folder bad
