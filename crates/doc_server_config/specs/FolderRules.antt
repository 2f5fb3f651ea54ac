-- How the files of a folder are taken, by the keys of its table. All of this is this project's choice.
use Rattle.std.specs.Prelude.{ℕ, List, Bool, true, false, bytes_eq, codes, Option, Some, None, option_and_then, Result, Ok, Err}
use Rattle.std.specs.Prelude.{if◌then◌else◌}
use Rattle.toml.specs.Data.{Data, get, as_bool, as_str}
use Rattle.doc_server_config.specs.declared.folder.FolderFault.{FolderFault}
use Rattle.doc_server_config.specs.declared.folder.FolderFault.TheVariants.{BadNames, BadReadme, BadOnBad}
use Rattle.doc_server_config.specs.declared.folder_rules.FolderRules.{FolderRules}

-- whether names are normalised, by the name of a form
abbrev pub nfc_of : List ℕ → Option Bool
nfc_of text = if bytes_eq text (codes "nfc") then Some true else None

-- the same of what the key holds, where that is `nfc`; without the key they aren't
abbrev pub is_nfc_at : Option Data → Option Bool
is_nfc_at None = Some false
is_nfc_at (Some value) = option_and_then nfc_of (as_str value)

-- whether a `README.md` is moved: what the key holds, where that is a boolean; without the key it isn't
abbrev pub readme_at : Option Data → Option Bool
readme_at None = Some false
readme_at (Some value) = as_bool value

-- whether bad files are passed over, by the name of it
abbrev pub skips_of : List ℕ → Option Bool
skips_of text = if bytes_eq text (codes "skip") then Some true else if bytes_eq text (codes "stop") then Some false else None

-- the same of what the key holds, where that is `stop` or `skip`; without the key they aren't
abbrev pub skips_at : Option Data → Option Bool
skips_at None = Some false
skips_at (Some value) = option_and_then skips_of (as_str value)

-- the rules of these parts, or the first fault
abbrev pub rules_with : Option Bool → Option Bool → Option Bool → Result FolderRules FolderFault
rules_with None readme skips = Err BadNames
rules_with (Some is_nfc) None skips = Err BadReadme
rules_with (Some is_nfc) (Some readme) None = Err BadOnBad
rules_with (Some is_nfc) (Some readme) (Some skips) = Ok (record { is_nfc = is_nfc; readme = readme; skips = skips })

-- the rules of a table
abbrev pub rules_of : Data → Result FolderRules FolderFault
rules_of row =
    rules_with (is_nfc_at (get (codes "names") row)) (readme_at (get (codes "readme") row)) (skips_at (get (codes "on_bad") row))
