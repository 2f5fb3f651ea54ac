-- The readers of a configuration, as the log names them. The keys of their rows are this project's choice.
use Rattle.std.specs.Prelude.{◌≡◌, ℕ, ◌+◌, List, ◌++◌, Bool, false, bytes_eq, codes, decimal, Option, Some, None, option_map, option_and_then, if◌then◌else◌}
use Rattle.std.specs.FinMap as map
use Rattle.std.specs.Option.{option_or}
use Rattle.std.specs.Result.{result_ok}
use Rattle.hex.specs.Hex.{decode_sized}
use Rattle.sha2.specs.Sha256.{sha256}
use Rattle.toml.specs.Data.{Data, Items, no_items, item, Members, get, get_member, as_str}
use Rattle.doc_store_readers.specs.Maps.{TextMap}
use Rattle.doc_store_readers.specs.Readers.{tables_at}
use Rattle.doc_server_names.specs.Names.{is_name}
use Rattle.doc_server_log_names.specs.declared.listed.ListedReader.{ListedReader}

-- readers by the SHA-256 of their tokens (FIPS 180-4)
abbrev pub NameTable : Type 0
NameTable = TextMap ListedReader

-- the 32 bytes of 64 hexadecimal digits
abbrev pub digest_written : List ℕ → Option (List ℕ)
digest_written text = result_ok (decode_sized text 32)

-- the digest of a row's token, or else the one that stands in its place
abbrev pub digest_by : Option Data → Option Data → Option (List ℕ)
digest_by (Some token) digest = option_map sha256 (as_str token)
digest_by None None = None
digest_by None (Some digest) = option_and_then digest_written (as_str digest)

abbrev pub digest_in : Data → Option (List ℕ)
digest_in row = digest_by (get (codes "token") row) (get (codes "token_sha256") row)

-- a name, where a text is one
abbrev pub good_name : List ℕ → Option (List ℕ)
good_name text = if is_name text then Some text else None

abbrev pub name_in : Data → Option (List ℕ)
name_in row = option_and_then good_name (option_and_then as_str (get (codes "name") row))

-- whether a row has this digest
abbrev pub is_digest : List ℕ → Option (List ℕ) → Bool
is_digest digest None = false
is_digest digest (Some own) = bytes_eq digest own

-- the reader of row n, where its digest is this one
abbrev pub row_with : List ℕ → ℕ → Data → Option ListedReader
row_with digest n row = if is_digest digest (digest_in row) then Some (record { row = n; name = name_in row }) else None

-- the reader of the first row that has a digest; the rows are counted from n on
abbrev pub first_with : List ℕ → ℕ → Items → Option ListedReader
first_with digest n no_items = None
first_with digest n (item row rest) = option_or (row_with digest n row) (first_with digest (n + 1) rest)

-- at each digest stands the reader of the first row that has it
abbrev pub AreNamesIn : Items → NameTable → Type 0
AreNamesIn rows names = (digest : List ℕ) → map.get names digest ≡ first_with digest 1 rows

abbrev pub rows_of : Option Items → Items
rows_of None = no_items
rows_of (Some rows) = rows

-- the same of the readers of a document
abbrev pub AreNamesOf : Members → NameTable → Type 0
AreNamesOf document names = AreNamesIn (rows_of (tables_at (get_member (codes "reader") document))) names

-- what stood at each digest, or else the reader of row n
abbrev pub IsWithRow : NameTable → ℕ → Data → NameTable → Type 0
IsWithRow old n row new = (digest : List ℕ) → map.get new digest ≡ option_or (map.get old digest) (row_with digest n row)

-- the reader of a token
abbrev pub found_by : NameTable → List ℕ → Option ListedReader
found_by names token = map.get names (sha256 token)

-- the name that the configuration gives, or the row
abbrev pub shown_by : ℕ → Option (List ℕ) → List ℕ
shown_by row None = codes "reader-" ++ decimal row
shown_by row (Some name) = name

abbrev pub shown_row : ListedReader → List ℕ
shown_row listed = shown_by listed.row listed.name

-- who asks, as a line has it: `-` for nobody whom the configuration knows
abbrev pub shown_found : Option ListedReader → List ℕ
shown_found None = codes "-"
shown_found (Some listed) = shown_row listed
