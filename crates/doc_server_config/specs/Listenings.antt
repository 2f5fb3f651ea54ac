-- What `listen` reads of a configuration. The order of the refusals is this project's choice: no TOML, the bounds, the folders, the names
-- of readers.
use Rattle.std.specs.Prelude.{ℕ, List, [], codes, Option, Some, None, Result, Ok, Err}
use Rattle.toml.specs.Data.{Items, Members, get_member}
use Rattle.toml.specs.Parse.{parse_document}
use Rattle.doc_store_readers.specs.Readers.{tables_at}
use Rattle.doc_server_config.specs.declared.bounds.Bounds.{Bounds}
use Rattle.doc_server_config.specs.declared.folder.Folder.{Folder}
use Rattle.doc_server_config.specs.declared.listening.Listening.{Listening}
use Rattle.doc_server_config.specs.declared.listening.ListeningError.{ListeningError}
use Rattle.doc_server_config.specs.declared.listening.ListeningError.TheVariants.{BadToml, BadFolders, BadName}
use Rattle.doc_server_config.specs.Bounds.{bounds_in}
use Rattle.doc_server_config.specs.Folders.{folders_from}
use Rattle.doc_server_config.specs.ReaderNames.{bad_name_in}

-- what these parts are
abbrev pub listening_with : Bounds → List Folder → Listening
listening_with bounds folders = record { bounds = bounds; folders = folders }

-- the same where the folders may be refused
abbrev pub with_folders : Bounds → Result (List Folder) ListeningError → Result Listening ListeningError
with_folders bounds (Err e) = Err e
with_folders bounds (Ok folders) = Ok (listening_with bounds folders)

-- the same of what should be the tables of the folders
abbrev pub with_tables : Bounds → Option Items → Result Listening ListeningError
with_tables bounds None = Err BadFolders
with_tables bounds (Some tables) = with_folders bounds (folders_from [] 1 tables)

-- the same where the bounds may be refused
abbrev pub with_bounds : Members → Result Bounds ListeningError → Result Listening ListeningError
with_bounds document (Err e) = Err e
with_bounds document (Ok bounds) = with_tables bounds (tables_at (get_member (codes "folder") document))

-- the same where a reader may have a bad name
abbrev pub unless_named : Result Listening ListeningError → Option ℕ → Result Listening ListeningError
unless_named (Err e) bad = Err e
unless_named (Ok listening) None = Ok listening
unless_named (Ok listening) (Some row) = Err (BadName row)

-- what `listen` reads of a document, or the first refusal
abbrev pub listening_of_document : Members → Result Listening ListeningError
listening_of_document document = unless_named (with_bounds document (bounds_in document)) (bad_name_in document)

-- what it reads of what should be a document
abbrev pub listening_in : Option Members → Result Listening ListeningError
listening_in None = Err BadToml
listening_in (Some document) = listening_of_document document

-- what it reads of a text
abbrev pub listening_of : List ℕ → Result Listening ListeningError
listening_of text = listening_in (parse_document text)
