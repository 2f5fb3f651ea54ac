-- The faults of a configuration, as far as its document tells them. The order is this project's choice: the document, `markdown`, `listen`,
-- `browse`, and then the readers, the pages and the folders by row. Those of each table by itself are `TableFaults`.
use Rattle.std.specs.Prelude.{ℕ, ◌+◌, List, [], ◌++◌, true, codes, Option, Some, None, option_map}
use Rattle.std.specs.FinMap as map
use Rattle.std.specs.Option.{option_or}
use Rattle.sha2.specs.Sha256.{sha256}
use Rattle.toml.specs.Data.{Data, Items, no_items, item, Members, get, get_member}
use Rattle.doc_store_readers.specs.Maps.{TextMap}
use Rattle.doc_store_readers.specs.Keys.{key_in}
use Rattle.doc_store_readers.specs.declared.keys.Key.{Key}
use Rattle.doc_store_readers.specs.declared.keys.Key.TheVariants as keys
use Rattle.doc_server_lint_faults.specs.declared.finding.Finding.{Finding}
use Rattle.doc_server_lint.specs.declared.known_readers.KnownReaders.{KnownReaders}
use Rattle.doc_server_lint_faults.specs.declared.place.Place.TheVariants.{Document, Markdown, Listen, Browse, Reader}
use Rattle.doc_server_lint_faults.specs.declared.what.What.{What}
use Rattle.doc_server_lint_faults.specs.declared.what.What.TheVariants.{Missing, TwoTokens, TokenOf}
use Rattle.doc_server_lint_faults.specs.Rules.{top_keys, markdown_keys, listen_keys, browse_keys, reader_keys, name_key}
use Rattle.doc_server_lint_faults.specs.TableFaults.{fault_of_key, faults_of_folders, faults_of_held, faults_of_keys, faults_of_pages}
use Rattle.doc_server_lint_faults.specs.TableFaults.{finding_of, rows_at}

-- ---- readers

-- the rows that have a text, by it: the last of them where there are several
abbrev pub Rows : Type 0
Rows = TextMap ℕ

-- the row of a text, where there is a text
abbrev pub row_of : Rows → Option (List ℕ) → Option ℕ
row_of rows None = None
row_of rows (Some text) = map.get rows text

abbrev pub with_row : Rows → Option (List ℕ) → ℕ → Rows
with_row rows None n = rows
with_row rows (Some text) n = map.insert rows text n

-- no readers
abbrev pub nobody_known : KnownReaders
nobody_known = record { by_token = map.empty; by_digest = map.empty; of_tokens = map.empty }

-- the row of a reader of the same token: by a token, or else by its digest
abbrev pub known_as : KnownReaders → Key → Option ℕ
known_as known (keys.Token token) = option_or (map.get known.by_token token) (map.get known.by_digest (sha256 token))
known_as known (keys.Digest digest) = option_or (map.get known.by_digest digest) (map.get known.of_tokens digest)

-- one reader more
abbrev pub known_with : KnownReaders → Key → ℕ → KnownReaders
known_with known (keys.Token token) n = record {
  by_token = map.insert known.by_token token n;
  by_digest = known.by_digest;
  of_tokens = map.insert known.of_tokens (sha256 token) n;
}
known_with known (keys.Digest digest) n = record known { by_digest = map.insert known.by_digest digest n }

-- the same where there is a key
abbrev pub known_at : KnownReaders → Option Key → Option ℕ
known_at known None = None
known_at known (Some key) = known_as known key

abbrev pub with_reader : KnownReaders → Option Key → ℕ → KnownReaders
with_reader known None n = known
with_reader known (Some key) n = known_with known key n

-- a reader has a token or the digest of one, and not both
abbrev pub naming_fault : Option Data → Option Data → Option What
naming_fault None None = Some Missing
naming_fault (Some token) None = None
naming_fault None (Some digest) = None
naming_fault (Some token) (Some digest) = Some TwoTokens

-- the key that names a reader
abbrev pub naming_key : Option Key → List ℕ
naming_key None = codes "token"
naming_key (Some (keys.Token token)) = codes "token"
naming_key (Some (keys.Digest digest)) = codes "token_sha256"

-- the faults of a reader's entry, by itself
abbrev pub faults_of_row : ℕ → Data → List Finding
faults_of_row n row =
    finding_of true (Reader n) (Some (codes "token")) (naming_fault (get (codes "token") row) (get (codes "token_sha256") row))
    ++ faults_of_keys (Reader n) reader_keys (λ key. get key row)

-- what is told where an earlier reader has the token
abbrev pub faults_of_key_again : KnownReaders → ℕ → Option Key → List Finding
faults_of_key_again known n key = finding_of true (Reader n) (Some (naming_key key)) (option_map TokenOf (known_at known key))

-- the faults of a reader's entry, beside those before it
abbrev pub faults_of_entry : KnownReaders → ℕ → Data → List Finding
faults_of_entry known n row = faults_of_row n row ++ faults_of_key_again known n (key_in row)

-- what is told of its name
abbrev pub faults_of_name : ℕ → Data → List Finding
faults_of_name n row = fault_of_key (Reader n) (λ key. get key row) name_key

abbrev pub faults_of_reader : KnownReaders → ℕ → Data → List Finding
faults_of_reader known n row = faults_of_entry known n row ++ faults_of_name n row

abbrev pub faults_of_readers : KnownReaders → ℕ → Items → List Finding
faults_of_readers known n no_items = []
faults_of_readers known n (item row rest) =
    faults_of_reader known n row ++ faults_of_readers (with_reader known (key_in row) n) (n + 1) rest

-- ---- the document

abbrev pub faults_of_tables : Members → List Finding
faults_of_tables document =
    faults_of_held Markdown markdown_keys (get_member (codes "markdown") document)
    ++ faults_of_held Listen listen_keys (get_member (codes "listen") document)
    ++ faults_of_held Browse browse_keys (get_member (codes "browse") document)

abbrev pub faults_of_rows : Members → List Finding
faults_of_rows document =
    faults_of_readers nobody_known 1 (rows_at (codes "reader") document)
    ++ faults_of_pages 1 (rows_at (codes "page") document)
    ++ faults_of_folders 1 (rows_at (codes "folder") document)

abbrev pub faults_of : Members → List Finding
faults_of document =
    faults_of_keys Document top_keys (λ key. get_member key document) ++ faults_of_tables document ++ faults_of_rows document
