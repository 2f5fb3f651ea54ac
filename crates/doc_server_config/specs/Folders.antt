-- The folders of a configuration: the tables of its array `folder`. Their keys are this project's choice.
use Rattle.std.specs.Prelude.{ℕ, ◌+◌, List, [], ◌∷◌, ◌++◌, Bool, false, not, codes, Option, Some, None, option_and_then, Result, Ok, Err}
use Rattle.std.specs.Prelude.{if◌then◌else◌}
use Rattle.toml.specs.Data.{Data, Items, no_items, item, Members, get, as_str, as_table}
use Rattle.doc_store_readers.specs.Readers.{groups_at}
use Rattle.doc_server_config.specs.declared.folder.Folder.{Folder}
use Rattle.doc_server_config.specs.declared.folder.FolderFault.{FolderFault}
use Rattle.doc_server_config.specs.declared.folder_rules.FolderRules.{FolderRules}
use Rattle.doc_server_config.specs.declared.folder.FolderFault.TheVariants.{OtherKey, BadFile, BadPrefix, BadGroups, BadExcept, BadMedia}
use Rattle.doc_server_config.specs.declared.listening.ListeningError.{ListeningError}
use Rattle.doc_server_config.specs.declared.listening.ListeningError.TheVariants.{BadFolder}
use Rattle.doc_server_config.specs.Excepted.{except_at}
use Rattle.doc_server_config.specs.FileNames.{is_prefix}
use Rattle.doc_server_config.specs.FolderRules.{rules_of}
use Rattle.doc_server_config.specs.Keys.{has_only}
use Rattle.doc_server_config.specs.MediaNames.{media_at}

-- whether a table has another key than these
abbrev pub has_other_key_in : Option Members → Bool
has_other_key_in None = false
has_other_key_in (Some table) =
    not (has_only (codes "except" ∷ codes "groups" ∷ codes "media" ∷ codes "names" ∷ codes "on_bad" ∷ codes "path" ∷ codes "prefix" ∷ codes "readme" ∷ [])
    table)

abbrev pub has_other_key : Data → Bool
has_other_key row = has_other_key_in (as_table row)

-- the name of a folder: what the key holds, where that is a string; a folder must have one
abbrev pub file_at : Option Data → Option (List ℕ)
file_at value = option_and_then as_str value

-- the text, where it can stand before names of files
abbrev pub good_prefix : List ℕ → Option (List ℕ)
good_prefix text = if is_prefix text then Some text else None

-- the prefix of a folder: what the key holds, where that is a string that can be one; without the key the empty one
abbrev pub prefix_at : Option Data → Option (List ℕ)
prefix_at None = Some []
prefix_at (Some value) = option_and_then good_prefix (as_str value)

-- a folder of these parts, or its first fault
abbrev pub folder_with : Option (List ℕ) → Option (List ℕ) → Option (List (List ℕ)) → Option (List (List ℕ))
    → Option (Option (List (List ℕ))) → Result FolderRules FolderFault → Result Folder FolderFault
folder_with None prefix groups except media rules = Err BadFile
folder_with (Some file) None groups except media rules = Err BadPrefix
folder_with (Some file) (Some prefix) None except media rules = Err BadGroups
folder_with (Some file) (Some prefix) (Some groups) None media rules = Err BadExcept
folder_with (Some file) (Some prefix) (Some groups) (Some except) None rules = Err BadMedia
folder_with (Some file) (Some prefix) (Some groups) (Some except) (Some media) (Err fault) = Err fault
folder_with (Some file) (Some prefix) (Some groups) (Some except) (Some media) (Ok rules) =
    Ok (record { file = file; prefix = prefix; groups = groups; except = except; media = media; rules = rules })

-- the folder that a table is, or its first fault
abbrev pub folder_of : Data → Result Folder FolderFault
folder_of row =
    if has_other_key row then Err OtherKey
    else folder_with (file_at (get (codes "path") row)) (prefix_at (get (codes "prefix") row)) (groups_at (get (codes "groups") row))
    (except_at (get (codes "except") row)) (media_at (get (codes "media") row)) (rules_of row)

-- the folders found so far, then those of more tables, the first of which has the number n
abbrev pub folders_from : List Folder → ℕ → Items → Result (List Folder) ListeningError
folders_from found n no_items = Ok found
folders_from found n (item row rest) = elim (folder_of row) [
  | Err fault ↦ Err (BadFolder n fault)
  | Ok folder ↦ folders_from (found ++ folder ∷ []) (n + 1) rest
]
