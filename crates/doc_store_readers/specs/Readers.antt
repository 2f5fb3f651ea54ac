-- The readers of a configuration, a TOML 1.1 document: the tables of its array `reader`, each a reader
-- entry. Their keys and the order of the refusals are this project's choice.
use Rattle.std.specs.Prelude.{ℕ, ◌+◌, List, [], ◌∷◌, ◌++◌, Bool, true, false, ◌&&◌, ◌||◌, is_some, codes, map as mapped, String, string_bytes}
use Rattle.std.specs.Prelude.{Option, Some, None, option_map, option_and_then, Result, Ok, Err, if◌then◌else◌, refl}
use Rattle.std.specs.Coded.{Coded, code_by, coded×, coded_list, coded_ℕ}
use Rattle.std.specs.FinMap as map
use Rattle.std.specs.Cmp.Lexicographic.{slice_cmp}
use Rattle.std.specs.Ordering.{nat_cmp}
use Rattle.std.specs.Result.{result_ok}
use Rattle.sha2.specs.Sha256.{sha256}
use Rattle.toml.specs.Data.{Data, Items, no_items, item, Members, get, get_member, as_str, as_bool, as_array, as_table}
use Rattle.toml.specs.Parse.{parse_document}
use Rattle.doc_store_readers.specs.declared.entries.Entry.{Entry}
use Rattle.doc_store_readers.specs.declared.keys.Key.{Key}
use Rattle.doc_store_readers.specs.declared.keys.Key.TheVariants.{Token, Digest}
use Rattle.doc_store_readers.specs.declared.reader.Reader.{Reader}
use Rattle.doc_store_readers.specs.declared.readers.ReaderError.{ReaderError}
use Rattle.doc_store_readers.specs.declared.readers.ReaderError.TheVariants.{BadToken}
use Rattle.doc_store_readers.specs.declared.readers.ReadersError.{ReadersError}
use Rattle.doc_store_readers.specs.declared.readers.ReadersError.TheVariants.{BadToml, BadRow, Twice}
use Rattle.doc_store_readers.specs.declared.readers.Set.{Set}
use Rattle.doc_store_readers.specs.declared.readers.Set.TheVariants.{Added, Replaced}
use Rattle.doc_store_readers.specs.Groups.{groups_of_names}
use Rattle.doc_store_readers.specs.Keys.{key_in}
use Rattle.doc_store_readers.specs.Maps.{TextMap}
use Rattle.doc_page_parts.specs.Tokens.{is_token}

-- map entries by `String` keys, as contracts see them
abbrev pub entries_shown : {A : Type 0} → List (String A × Reader) → List (List ℕ × Reader)
entries_shown entries = mapped (λ entry. (string_bytes entry.0, entry.1)) entries

-- The readers of a site: by their tokens those whose tokens are known, and the others by the SHA-256
-- (FIPS 180-4) of their tokens, 32 bytes.
pub record ReaderTable : Type 0 where
  pub by_token : TextMap Reader
  pub by_digest : TextMap Reader

abbrev pub reader_table_code : Coded Reader → Coded ReaderTable
reader_table_code reader =
    code_by (TextMap Reader × TextMap Reader) (coded× (map.code (coded_list coded_ℕ) reader) (map.code (coded_list coded_ℕ) reader))
    (λ t. (t.by_token, t.by_digest)) (λ p. record { by_token = p.0; by_digest = p.1 }) (λ _. refl)

-- the map that entries make
abbrev pub by_keys : List (List ℕ × Reader) → TextMap Reader
by_keys entries = map.from_entries entries

-- the same by `String` keys
abbrev pub by_tokens : {A : Type 0} → List (String A × Reader) → TextMap Reader
by_tokens entries = by_keys (entries_shown entries)

-- no readers
abbrev pub no_readers : ReaderTable
no_readers = record { by_token = map.empty; by_digest = map.empty }

-- the first of two, or the second where there is none
abbrev pub first_of : Option Reader → Option Reader → Option Reader
first_of None other = other
first_of (Some reader) other = Some reader

-- the reader of a token: whom the token names, or else its digest
unfoldable pub find_in : ReaderTable → List ℕ → Option Reader
find_in readers token = first_of (map.get readers.by_token token) (map.get readers.by_digest (sha256 token))

-- the readers without that of a token
unfoldable pub without_reader : ReaderTable → List ℕ → ReaderTable
without_reader readers token =
    record { by_token = map.remove readers.by_token token; by_digest = map.remove readers.by_digest (sha256 token) }

-- the readers with this one as that of a token, which is known then
unfoldable pub with_reader : ReaderTable → List ℕ → Reader → ReaderTable
with_reader readers token reader =
    record { by_token = map.insert readers.by_token token reader; by_digest = map.remove readers.by_digest (sha256 token) }

-- whether the reader is an owner: what the key holds, where that is a boolean; without the key no owner
abbrev pub owner_at : Option Data → Option Bool
owner_at None = Some false
owner_at (Some value) = as_bool value

-- the strings of an array that holds nothing else
abbrev pub strings_in : Items → Option (List (List ℕ))
strings_in no_items = Some []
strings_in (item value rest) = option_and_then (λ text. option_map (λ texts. text ∷ texts) (strings_in rest)) (as_str value)

-- the groups of the reader: what the key holds, where that is an array of their names; without the key none
abbrev pub groups_at : Option Data → Option (List (List ℕ))
groups_at None = Some []
groups_at (Some value) = option_and_then (λ names. result_ok (groups_of_names names)) (option_and_then strings_in (as_array value))

-- a reader entry of these parts, where all are good
abbrev pub entry_with : Option Key → Option Bool → Option (List (List ℕ)) → Option Entry
entry_with None owner groups = None
entry_with (Some key) None groups = None
entry_with (Some key) (Some owner) None = None
entry_with (Some key) (Some owner) (Some groups) = Some (record { key = key; reader = record { owner = owner; groups = groups } })

-- the reader entry that a table is; other keys don't count
abbrev pub entry_of : Data → Option Entry
entry_of entry = entry_with (key_in entry) (owner_at (get (codes "owner") entry)) (groups_at (get (codes "groups") entry))

-- whether an array holds tables alone
abbrev pub are_tables : Items → Bool
are_tables no_items = true
are_tables (item value rest) = is_some (as_table value) && are_tables rest

-- the tables of what should be an array of tables
abbrev pub tables_of : Option Items → Option Items
tables_of None = None
tables_of (Some items) = if are_tables items then Some items else None

-- the tables of what a key holds; without the key there are none
abbrev pub tables_at : Option Data → Option Items
tables_at None = Some no_items
tables_at (Some value) = tables_of (as_array value)

-- the tables of the readers, if what should be their array is one
abbrev pub reader_tables : Option Items → Result Items ReadersError
reader_tables None = Err BadToml
reader_tables (Some tables) = Ok tables

-- the tables of a document's readers
abbrev pub tables_in : Option Members → Result Items ReadersError
tables_in None = Err BadToml
tables_in (Some document) = reader_tables (tables_at (get_member (codes "reader") document))

-- the reader entries found so far, then those of more tables, the first of which has the number n
abbrev pub entries_from : List Entry → ℕ → Items → Result (List Entry) ReadersError
entries_from found n no_items = Ok found
entries_from found n (item one rest) = elim (entry_of one) [
  | None ↦ Err (BadRow n)
  | Some entry ↦ entries_from (found ++ entry ∷ []) (n + 1) rest
]

-- the reader entries of tables that may be refused already
abbrev pub entries_of : Result Items ReadersError → Result (List Entry) ReadersError
entries_of (Err e) = Err e
entries_of (Ok tables) = entries_from [] 1 tables

-- readers as they are listed, by their tokens and by the digests of their tokens
pub record Listed : Type 0 where
  pub by_token : List (List ℕ × Reader)
  pub by_digest : List (List ℕ × Reader)

-- none
abbrev pub none_listed : Listed
none_listed = record { by_token = []; by_digest = [] }

-- listed readers, and one more
abbrev pub listed_with : Listed → Key → Reader → Listed
listed_with before (Token token) reader = record before { by_token = before.by_token ++ (token, reader) ∷ [] }
listed_with before (Digest digest) reader = record before { by_digest = before.by_digest ++ (digest, reader) ∷ [] }

-- whether one of these has the key
abbrev pub is_listed : List ℕ → List (List ℕ × Reader) → Bool
is_listed key readers = is_some (map.find (slice_cmp nat_cmp) key readers)

-- readers that are listed by their tokens, by the digests of these
abbrev pub by_their_digests : List (List ℕ × Reader) → List (List ℕ × Reader)
by_their_digests readers = mapped (λ entry. (sha256 entry.0, entry.1)) readers

-- whether a listed reader has the token: the same one, or its digest; or one of the digest: the same one, or a token of it
abbrev pub comes_again : Listed → Key → Bool
comes_again before (Token token) = is_listed token before.by_token || is_listed (sha256 token) before.by_digest
comes_again before (Digest digest) = is_listed digest before.by_digest || is_listed digest (by_their_digests before.by_token)

-- listed readers, then those of more reader entries, the first of which has the number n; none may come again
abbrev pub readers_from : Listed → ℕ → List Entry → Result Listed ReadersError
readers_from before n [] = Ok before
readers_from before n (entry ∷ rest) =
    if comes_again before entry.key then Err (Twice n)
    else readers_from (listed_with before entry.key entry.reader) (n + 1) rest

-- the readers of reader entries that may be refused already
abbrev pub readers_of_entries : Result (List Entry) ReadersError → Result Listed ReadersError
readers_of_entries (Err e) = Err e
readers_of_entries (Ok entries) = readers_from none_listed 1 entries

-- the readers that a document lists, or the first refusal: no array of tables, a bad reader entry, a reader who comes again
abbrev pub readers_in : Option Members → Result Listed ReadersError
readers_in document = readers_of_entries (entries_of (tables_in document))

-- the table of listed readers
abbrev pub table_listed : Listed → ReaderTable
table_listed listed = record { by_token = map.from_entries listed.by_token; by_digest = map.from_entries listed.by_digest }

-- the table of readers that may be refused already
abbrev pub table_of : Result Listed ReadersError → Result ReaderTable ReadersError
table_of (Err e) = Err e
table_of (Ok listed) = Ok (table_listed listed)

-- the readers of a document
abbrev pub readers_of_document : Members → Result ReaderTable ReadersError
readers_of_document document = table_of (readers_in (Some document))

-- the readers of a text
abbrev pub readers_of : List ℕ → Result ReaderTable ReadersError
readers_of text = table_of (readers_in (parse_document text))

-- the readers after one is set, and what that did: it was added, or took the place of the one with its
-- token; only a bearer token can have a reader
abbrev pub set_reader : ReaderTable → List ℕ → Reader → ReaderTable × Result Set ReaderError
set_reader readers token reader =
    if is_token token
    then (with_reader readers token reader, Ok (if is_some (find_in readers token) then Replaced else Added))
    else (readers, Err BadToken)
