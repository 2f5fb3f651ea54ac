-- Names of readers in a configuration: what a server's log goes by, and the server alone reads. The key is this project's choice.
use Rattle.std.specs.Prelude.{ℕ, ◌+◌, List, Bool, true, is_some, codes, Option, Some, None, option_and_then, if◌then◌else◌}
use Rattle.toml.specs.Data.{Data, Items, no_items, item, Members, as_str, get, get_member}
use Rattle.doc_store_readers.specs.Readers.{tables_at}
use Rattle.doc_server_names.specs.Names.{is_name}

-- a text, where it is a name
abbrev pub good_name : List ℕ → Option (List ℕ)
good_name text = if is_name text then Some text else None

-- the name of a reader: what the key holds, where that is a string that is a name
abbrev pub name_at : Option Data → Option (List ℕ)
name_at value = option_and_then good_name (option_and_then as_str value)

-- whether a reader may have what the key holds; without the key it has no name
abbrev pub is_name_at : Option Data → Bool
is_name_at None = true
is_name_at (Some value) = is_some (name_at (Some value))

abbrev pub has_good_name : Data → Bool
has_good_name row = is_name_at (get (codes "name") row)

-- the first of some readers that may not have its name; the first of all has the number n
abbrev pub bad_name_from : ℕ → Items → Option ℕ
bad_name_from n no_items = None
bad_name_from n (item row rest) = if has_good_name row then bad_name_from (n + 1) rest else Some n

-- the same of what should be the tables of the readers: that they are, is no matter of names
abbrev pub bad_name_of : Option Items → Option ℕ
bad_name_of None = None
bad_name_of (Some rows) = bad_name_from 1 rows

-- the same of a document
abbrev pub bad_name_in : Members → Option ℕ
bad_name_in document = bad_name_of (tables_at (get_member (codes "reader") document))
