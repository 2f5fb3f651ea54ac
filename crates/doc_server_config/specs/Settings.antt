-- The settings of a configuration, a TOML 1.1 document. Their keys are this project's choice.
use Rattle.std.specs.Prelude.{ℕ, ℤ, pos, negsuc, List, Bool, true, ◌&&◌, nat_le, codes, Option, Some, None, option_map, if◌then◌else◌}
use Rattle.toml.specs.Data.{Data, Members, get_member, as_str, as_bool, as_integer}
use Rattle.doc_server_config.specs.declared.markdown.Markdown.{Markdown}
use Rattle.doc_server_config.specs.declared.settings.Settings.{Settings}
use Rattle.doc_server_config.specs.Markdown.{markdown_at}

-- whether connections are kept after a reply: what the key holds, where that is a boolean; without the key they are
abbrev pub keep_alive_at : Option Data → Option Bool
keep_alive_at None = Some true
keep_alive_at (Some value) = as_bool value

-- the capacity that a number is, 1 to 4,096
abbrev pub capacity_of : ℤ → Option ℕ
capacity_of (pos n) = if nat_le 1 n && nat_le n 4096 then Some n else None
capacity_of (negsuc n) = None

-- the same where there may be no number
abbrev pub capacity_in : Option ℤ → Option ℕ
capacity_in None = None
capacity_in (Some number) = capacity_of number

-- how many filled pages are kept: what the key holds, where that is an integer from 1 to 4,096; without the key 64
abbrev pub cache_at : Option Data → Option ℕ
cache_at None = Some 64
cache_at (Some value) = capacity_in (as_integer value)

-- the file of a table of entities: what the key holds, where that is a string; without the key there is none
abbrev pub entities_at : Option Data → Option (Option (List ℕ))
entities_at None = Some None
entities_at (Some value) = option_map Some (as_str value)

-- the settings of these parts, where all are good
abbrev pub settings_with : Option Bool → Option ℕ → Option (Option (List ℕ)) → Option Markdown → Option Settings
settings_with None cache entities markdown = None
settings_with (Some keep_alive) None entities markdown = None
settings_with (Some keep_alive) (Some cache) None markdown = None
settings_with (Some keep_alive) (Some cache) (Some entities) None = None
settings_with (Some keep_alive) (Some cache) (Some entities) (Some markdown) =
    Some (record { keep_alive = keep_alive; cache = cache; entities = entities; markdown = markdown })

-- the settings of a document
abbrev pub settings_in : Members → Option Settings
settings_in document =
    settings_with (keep_alive_at (get_member (codes "keep_alive") document)) (cache_at (get_member (codes "cache") document))
    (entities_at (get_member (codes "entities") document)) (markdown_at (get_member (codes "markdown") document))
