-- What a document is refused for, row by row.
use Rattle.std.proofs.Common.{◌≡◌, ◌+◌, ℕ, List, [], ◌∷◌, ◌++◌, Bool, true, false, not, ◌&&◌, is_some, is_ok, codes, refl, ap, sym, ◌∙◌}
use Rattle.std.specs.Prelude.{Option, Some, None, Result, Ok, Err, option_and_then, option_map, if◌then◌else◌}
use Rattle.std.specs.Result.{result_ok}
use Rattle.toml.specs.Data.{Data, Items, no_items, item, Members, get, as_str, as_table}
use Rattle.doc_store_readers.specs.declared.keys.Key.{Key}
use Rattle.doc_store_readers.specs.declared.keys.Key.TheVariants as keys
use Rattle.doc_store_readers.specs.Keys.{digest_of_text, good_token, key_in, key_of}
use Rattle.doc_store_readers.specs.Readers.{entry_of, entry_with, groups_at, owner_at}
use Rattle.doc_page_parts.specs.Tokens.{is_token}
use Rattle.doc_server_lint.specs.declared.known_readers.KnownReaders.{KnownReaders}
use Rattle.doc_page_parts.specs.Paths.{path_of}
use Rattle.doc_server_config.specs.declared.config.ConfigError.{ConfigError}
use Rattle.doc_server_config.specs.declared.config.ConfigError.TheVariants.{BadPage}
use Rattle.doc_server_config.specs.declared.folder.FolderFault.{FolderFault}
use Rattle.doc_server_config.specs.declared.folder.Folder.{Folder}
use Rattle.doc_server_config.specs.declared.listening.ListeningError.{ListeningError}
use Rattle.doc_server_config.specs.declared.listening.ListeningError.TheVariants.{BadFolder}
use Rattle.doc_server_config.specs.declared.page_row.PageRow.{PageRow}
use Rattle.doc_server_config.specs.declared.page_row.Source.{Source}
use Rattle.doc_server_config.specs.declared.page_row.Source.TheVariants as source
use Rattle.doc_server_config.specs.FolderRules.{is_nfc_at, nfc_of, readme_at, rules_with, skips_at, skips_of}
use Rattle.doc_server_config.specs.FileNames.{is_prefix}
use Rattle.doc_server_config.specs.Folders.{file_at, folder_of, folder_with, folders_from, good_prefix, has_other_key, has_other_key_in}
use Rattle.doc_server_config.specs.Folders.{prefix_at}
use Rattle.doc_server_config.specs.Excepted.{except_at}
use Rattle.doc_server_config.specs.Keys.{has_only, keys_in}
use Rattle.doc_server_config.specs.MediaNames.{media_at}
use Rattle.doc_server_config.specs.PageRows.{page_of, page_with, pages_from, path_at, source_of}
use Rattle.doc_server_config.specs.ReaderNames.{bad_name_from, good_name, has_good_name, is_name_at}
use Rattle.doc_server_names.specs.Names.{is_name}
use Rattle.doc_server_lint_faults.specs.declared.place.Place.TheVariants as place
use Rattle.doc_server_lint_faults.specs.declared.rule.Form.TheVariants as form
use Rattle.doc_server_lint_faults.specs.declared.rule.Rule.TheVariants as rule
use Rattle.doc_server_lint_faults.specs.declared.what.What.TheVariants.{Bad, NoToken, TokenOf}
use Rattle.doc_server_lint_faults.specs.TableFaults.{faults_of_closed, faults_of_folders, faults_of_keys, faults_of_page, faults_of_pages}
use Rattle.doc_server_lint.specs.Faults.{faults_of_entry, faults_of_key_again, faults_of_name, faults_of_reader, faults_of_row, known_at}
use Rattle.doc_server_lint_faults.specs.TableFaults.{finding_of}
use Rattle.doc_server_lint.specs.Faults.{naming_fault, naming_key}
use Rattle.doc_server_lint.specs.Faults.{faults_of_readers, with_reader}
use Rattle.doc_server_lint_faults.specs.TableFaults.{source_fault}
use Rattle.doc_server_lint.specs.Laws.{is_clear}
use Rattle.doc_server_lint_faults.specs.Rules.{folder_keys, names_of, page_keys, reader_keys}
use Rattle.doc_server_lint_faults.specs.Values.{key_fault, text_fault, told}
use Rattle.doc_server_lint.proofs.Clear.{allows, any_text_allows, clear_append, closed_clear, except_good, finding_clear, groups_good}
use Rattle.doc_server_lint.proofs.Clear.{if_taken, keys_clear, media_good, only, page_text_allows, path_taken, same_names, text_taken}
use Rattle.doc_server_lint.proofs.Clear.{told_allows}

-- whether each row is good
abbrev pub each : (Data → Bool) → Items → Bool
each good no_items = true
each good (item row rest) = good row && each good rest

-- ---- pages

path_good : (held : Option Data) → allows (key_fault (rule.Needed form.PagePath) held) ≡ is_some (path_at held)
path_good None = refl
path_good (Some value) = text_taken form.PagePath (λ text. result_ok (path_of text)) (as_str value) refl path_taken

source_good : (text file : Option Data)
    → (allows (key_fault (rule.Text form.PageText) text) && (allows (key_fault (rule.Text form.Any) file)
    && allows (source_fault text file)))
    ≡ is_some (source_of text file)
source_good None None = refl
source_good (Some text) None = by_text (as_str text)
  where
    by_text : (o : Option (List ℕ)) → (allows (text_fault form.PageText o) && true) ≡ is_some (option_map source.Text o)
    by_text None = refl
    by_text (Some t) = ap (λ b. b && true) (page_text_allows (Some t))
source_good None (Some file) = by_file (as_str file)
  where
    by_file : (o : Option (List ℕ)) → (allows (text_fault form.Any o) && true) ≡ is_some (option_map source.File o)
    by_file None = refl
    by_file (Some t) = refl
source_good (Some text) (Some file) = none (allows (key_fault (rule.Text form.PageText) (Some text))) (allows (key_fault
    (rule.Text form.Any) (Some file)))
  where
    none : (a b : Bool) → (a && (b && false)) ≡ false
    none true true = refl
    none true false = refl
    none false b = refl

page_parts : (path : Option (List ℕ)) (groups : Option (List (List ℕ))) (source : Option Source)
    → is_some (page_with path groups source) ≡ (is_some path && (is_some groups && is_some source))
page_parts None groups source = refl
page_parts (Some path) None source = refl
page_parts (Some path) (Some groups) None = refl
page_parts (Some path) (Some groups) (Some source) = refl

regroup : (a b c d e : Bool) → ((a && (b && (c && (d && true)))) && e) ≡ (a && (b && (c && (d && e))))
regroup true true true true e = refl
regroup true true true false e = refl
regroup true true false d e = refl
regroup true false c d e = refl
regroup false b c d e = refl

pub page_clear : (n : ℕ) (row : Data) → is_clear (faults_of_page n row) ≡ is_some (page_of row)
page_clear n row =
    let path = path_good (get (codes "path") row) in
    let groups = groups_good (get (codes "groups") row) in
    let source = source_good (get (codes "text") row) (get (codes "file") row) in
    let keys = keys_clear (place.Page n) page_keys (λ key. get key row) in
    let both = finding_clear (place.Page n) None (source_fault (get (codes "text") row) (get (codes "file") row)) in
    clear_append (faults_of_keys (place.Page n) page_keys (λ key. get key row)) _
    ∙ (λ i. keys i && both i)
    ∙ regroup (allows (key_fault (rule.Needed form.PagePath) (get (codes "path") row))) (allows (key_fault rule.Groups (get
    (codes "groups") row)))
    (allows (key_fault (rule.Text form.PageText) (get (codes "text") row))) (allows (key_fault (rule.Text form.Any) (get
    (codes "file") row)))
    (allows (source_fault (get (codes "text") row) (get (codes "file") row)))
    ∙ (λ i. path i && (groups i && source i))
    ∙ sym (page_parts (path_at (get (codes "path") row)) (groups_at (get (codes "groups") row))
    (source_of (get (codes "text") row) (get (codes "file") row)))

pub pages_clear : (n : ℕ) (rows : Items) → is_clear (faults_of_pages n rows) ≡ each (λ row. is_some (page_of row)) rows
pages_clear n no_items = refl
pages_clear n (item row rest) =
    let first = page_clear n row in
    let more = pages_clear (n + 1) rest in
    clear_append (faults_of_page n row) (faults_of_pages (n + 1) rest) ∙ (λ i. first i && more i)

pub pages_taken : (found : List PageRow) (n : ℕ) (rows : Items) → is_ok (pages_from found n rows) ≡ each (λ row. is_some (page_of row)) rows
pages_taken found n no_items = refl
pages_taken found n (item row rest) = by (page_of row) (λ page. pages_taken (found ++ page ∷ []) (n + 1) rest)
  where
    by : (page : Option PageRow)
        → ((page : PageRow) → is_ok (pages_from (found ++ page ∷ []) (n + 1) rest) ≡ each (λ row. is_some (page_of row)) rest)
        → is_ok (elim page as (λ _. Result (List PageRow) ConfigError) [
          | None ↦ Err (BadPage n)
          | Some page ↦ pages_from (found ++ page ∷ []) (n + 1) rest
        ]) ≡ (is_some page && each (λ row. is_some (page_of row)) rest)
    by None more = refl
    by (Some page) more = more page

-- ---- folders

name_good : (held : Option Data) → allows (key_fault (rule.Needed form.Any) held) ≡ is_some (file_at held)
name_good None = refl
name_good (Some value) = any_text_allows (as_str value)

prefix_good : (held : Option Data) → allows (key_fault (rule.Text form.Prefix) held) ≡ is_some (prefix_at held)
prefix_good None = refl
prefix_good (Some value) = text_taken form.Prefix good_prefix (as_str value) refl (λ text. if_taken (is_prefix text) text)

names_good : (held : Option Data) → allows (key_fault (rule.Text form.Names) held) ≡ is_some (is_nfc_at held)
names_good None = refl
names_good (Some value) = text_taken form.Names nfc_of (as_str value) refl (λ text. refl)

readme_good : (held : Option Data) → allows (key_fault rule.Boolean held) ≡ is_some (readme_at held)
readme_good None = refl
readme_good (Some value) = told_allows _ _ refl

on_bad_good : (held : Option Data) → allows (key_fault (rule.Text form.OnBad) held) ≡ is_some (skips_at held)
on_bad_good None = refl
on_bad_good (Some value) = text_taken form.OnBad skips_of (as_str value) refl (λ text. refl)

folder_parts : (a b : Option (List ℕ)) (c d : Option (List (List ℕ))) (e : Option (Option (List (List ℕ)))) (f g h : Option Bool)
    → is_ok (folder_with a b c d e (rules_with f g h))
    ≡ (is_some a && (is_some b && (is_some c && (is_some d && (is_some e && (is_some f && (is_some g && (is_some h && true))))))))
folder_parts None b c d e f g h = refl
folder_parts (Some a) None c d e f g h = refl
folder_parts (Some a) (Some b) None d e f g h = refl
folder_parts (Some a) (Some b) (Some c) None e f g h = refl
folder_parts (Some a) (Some b) (Some c) (Some d) None f g h = refl
folder_parts (Some a) (Some b) (Some c) (Some d) (Some e) None g h = refl
folder_parts (Some a) (Some b) (Some c) (Some d) (Some e) (Some f) None h = refl
folder_parts (Some a) (Some b) (Some c) (Some d) (Some e) (Some f) (Some g) None = refl
folder_parts (Some a) (Some b) (Some c) (Some d) (Some e) (Some f) (Some g) (Some h) = refl

-- the keys of a folder in the order of their bytes
abbrev known : List (List ℕ)
known =
    codes "except" ∷ codes "groups" ∷ codes "media" ∷ codes "names" ∷ codes "on_bad" ∷ codes "path" ∷ codes "prefix" ∷ codes "readme" ∷ []

only_known : (held : Option Members) → only (names_of folder_keys) held ≡ not (has_other_key_in held)
only_known None = refl
only_known (Some held) = same_names (names_of folder_keys) known refl refl (keys_in held) ∙ twice (has_only known held)
  where
    twice : (b : Bool) → b ≡ not (not b)
    twice true = refl
    twice false = refl

ok_where_not : {A E : Type 0} (b : Bool) (e : E) (r : Result A E) → is_ok (if b then Err e else r) ≡ (not b && is_ok r)
ok_where_not true e r = refl
ok_where_not false e r = refl

pub folder_clear : (n : ℕ) (row : Data) → is_clear (faults_of_closed (place.Folder n) folder_keys row) ≡ is_ok (folder_of row)
folder_clear n row =
    let at : List ℕ → Option Data = λ key. get key row in
    let names_known = only_known (as_table row) in
    let path = name_good (at (codes "path")) in
    let prefix = prefix_good (at (codes "prefix")) in
    let groups = groups_good (at (codes "groups")) in
    let except = except_good (at (codes "except")) in
    let media = media_good (at (codes "media")) in
    let names = names_good (at (codes "names")) in
    let readme = readme_good (at (codes "readme")) in
    let on_bad = on_bad_good (at (codes "on_bad")) in
    closed_clear (place.Folder n) folder_keys row
    ∙ (λ i. names_known i
    && (path i && (prefix i && (groups i && (except i && (media i && (names i && (readme i && (on_bad i && true)))))))))
    ∙ ap (λ b. not (has_other_key row) && b)
    (sym (folder_parts (file_at (at (codes "path"))) (prefix_at (at (codes "prefix"))) (groups_at (at (codes "groups")))
    (except_at (at (codes "except"))) (media_at (at (codes "media"))) (is_nfc_at (at (codes "names"))) (readme_at (at (codes "readme")))
    (skips_at (at (codes "on_bad")))))
    ∙ sym (ok_where_not (has_other_key row) _ _)

pub folders_clear : (n : ℕ) (rows : Items) → is_clear (faults_of_folders n rows) ≡ each (λ row. is_ok (folder_of row)) rows
folders_clear n no_items = refl
folders_clear n (item row rest) =
    let first = folder_clear n row in
    let more = folders_clear (n + 1) rest in
    clear_append (faults_of_closed (place.Folder n) folder_keys row) (faults_of_folders (n + 1) rest) ∙ (λ i. first i && more i)

pub folders_taken : (found : List Folder) (n : ℕ) (rows : Items)
    → is_ok (folders_from found n rows) ≡ each (λ row. is_ok (folder_of row)) rows
folders_taken found n no_items = refl
folders_taken found n (item row rest) = by (folder_of row) (λ folder. folders_taken (found ++ folder ∷ []) (n + 1) rest)
  where
    by : (folder : Result Folder FolderFault)
        → ((folder : Folder) → is_ok (folders_from (found ++ folder ∷ []) (n + 1) rest) ≡ each (λ row. is_ok (folder_of row)) rest)
        → is_ok (elim folder as (λ _. Result (List Folder) ListeningError) [
          | Err fault ↦ Err (BadFolder n fault)
          | Ok folder ↦ folders_from (found ++ folder ∷ []) (n + 1) rest
        ]) ≡ (is_ok folder && each (λ row. is_ok (folder_of row)) rest)
    by (Err fault) more = refl
    by (Ok folder) more = more folder

-- ---- readers

owner_good : (held : Option Data) → allows (key_fault rule.Boolean held) ≡ is_some (owner_at held)
owner_good None = refl
owner_good (Some value) = told_allows _ _ refl

-- a token that is one, or a digest that is one, and not both
naming_good : (token digest : Option Data)
    → (allows (naming_fault token digest) && (allows (key_fault (rule.Text form.Token) token)
    && allows (key_fault (rule.Text form.Digest) digest)))
    ≡ is_some (key_of token digest)
naming_good None None = refl
naming_good (Some token) None = by_text (as_str token)
  where
    by_token : (text : List ℕ) (good : Bool)
        → (allows (told NoToken good) && true) ≡ is_some (option_map keys.Token (if good then Some text else None))
    by_token text true = refl
    by_token text false = refl

    by_text : (text : Option (List ℕ)) → (allows (text_fault form.Token text) && true) ≡ is_some (option_map keys.Token (good_token text))
    by_text None = refl
    by_text (Some text) = by_token text (is_token text)
naming_good None (Some digest) = by_text (as_str digest)
  where
    by_digest : (found : Option (List ℕ)) → allows (told Bad (is_some found)) ≡ is_some (option_map keys.Digest found)
    by_digest None = refl
    by_digest (Some found) = refl

    by_text : (text : Option (List ℕ))
        → allows (text_fault form.Digest text) ≡ is_some (option_map keys.Digest (option_and_then digest_of_text text))
    by_text None = refl
    by_text (Some text) = by_digest (digest_of_text text)
naming_good (Some token) (Some digest) = refl

entry_parts : (a : Option Key) (b : Option Bool) (c : Option (List (List ℕ)))
    → is_some (entry_with a b c) ≡ (is_some a && (is_some b && (is_some c && true)))
entry_parts None b c = refl
entry_parts (Some a) None c = refl
entry_parts (Some a) (Some b) None = refl
entry_parts (Some a) (Some b) (Some c) = refl

fresh_token : (earlier : Option ℕ) → allows (option_map TokenOf earlier) ≡ not (is_some earlier)
fresh_token None = refl
fresh_token (Some m) = refl

named_first : (a b c d : Bool) → (a && (b && (c && d))) ≡ ((a && (b && c)) && d)
named_first true true true d = refl
named_first true true false d = refl
named_first true false c d = refl
named_first false b c d = refl

-- the faults of a reader's entry, by itself
pub reader_entry : (n : ℕ) (row : Data) → is_clear (faults_of_row n row) ≡ is_some (entry_of row)
reader_entry n row =
    let token = get (codes "token") row in
    let digest = get (codes "token_sha256") row in
    let owner = owner_good (get (codes "owner") row) in
    let groups = groups_good (get (codes "groups") row) in
    let key = naming_good token digest in
    let named = finding_clear (place.Reader n) (Some (codes "token")) (naming_fault token digest) in
    let held = keys_clear (place.Reader n) reader_keys (λ key. get key row) in
    clear_append (finding_of true (place.Reader n) (Some (codes "token")) (naming_fault token digest)) _
    ∙ (λ i. named i && held i)
    ∙ named_first (allows (naming_fault token digest)) (allows (key_fault (rule.Text form.Token) token)) (allows (key_fault (rule.Text
    form.Digest) digest))
    (allows (key_fault rule.Boolean (get (codes "owner") row)) && (allows (key_fault rule.Groups (get (codes "groups") row)) && true))
    ∙ (λ i. key i && (owner i && (groups i && true)))
    ∙ sym (entry_parts (key_in row) (owner_at (get (codes "owner") row)) (groups_at (get (codes "groups") row)))

pub entry_clear : (known : KnownReaders) (n : ℕ) (row : Data)
    → is_clear (faults_of_entry known n row) ≡ (is_some (entry_of row) && not (is_some (known_at known (key_in row))))
entry_clear known n row =
    let own = reader_entry n row in
    let again = finding_clear (place.Reader n) (Some (naming_key (key_in row))) (option_map TokenOf (known_at known (key_in row)))
    ∙ fresh_token (known_at known (key_in row)) in
    clear_append (faults_of_row n row) (faults_of_key_again known n (key_in row)) ∙ (λ i. own i && again i)

name_taken : (held : Option Data) → allows (key_fault (rule.Text form.Name) held) ≡ is_name_at held
name_taken None = refl
name_taken (Some value) = text_taken form.Name good_name (as_str value) refl (λ text. if_taken (is_name text) text)

pub name_clear : (n : ℕ) (row : Data) → is_clear (faults_of_name n row) ≡ has_good_name row
name_clear n row =
    finding_clear (place.Reader n) (Some (codes "name")) (key_fault (rule.Text form.Name) (get (codes "name") row))
    ∙ name_taken (get (codes "name") row)

-- no name is bad where each is good
pub names_taken : (n : ℕ) (rows : Items) → not (is_some (bad_name_from n rows)) ≡ each has_good_name rows
names_taken n no_items = refl
names_taken n (item row rest) = by (has_good_name row) (names_taken (n + 1) rest)
  where
    by : (b : Bool) → not (is_some (bad_name_from (n + 1) rest)) ≡ each has_good_name rest
        → not (is_some (if b then bad_name_from (n + 1) rest else Some n)) ≡ (b && each has_good_name rest)
    by true more = more
    by false more = refl

-- whether no row has a reader of one before it
abbrev pub are_fresh : KnownReaders → ℕ → Items → Bool
are_fresh known n no_items = true
are_fresh known n (item row rest) =
    not (is_some (known_at known (key_in row))) && are_fresh (with_reader known (key_in row) n) (n + 1) rest

apart : (a b c d : Bool) → ((a && b) && (c && d)) ≡ ((a && c) && (b && d))
apart true true c d = refl
apart true false true d = refl
apart true false false d = refl
apart false b c d = refl

pub readers_clear : (known : KnownReaders) (n : ℕ) (rows : Items)
    → is_clear (faults_of_readers known n rows)
    ≡ ((each (λ row. is_some (entry_of row)) rows && are_fresh known n rows) && each has_good_name rows)
readers_clear known n no_items = refl
readers_clear known n (item row rest) =
    let one = entry_clear known n row in
    let name = name_clear n row in
    let more = readers_clear (with_reader known (key_in row) n) (n + 1) rest in
    let is_entry = is_some (entry_of row) in
    let is_fresh = not (is_some (known_at known (key_in row))) in
    let are_entries = each (λ row. is_some (entry_of row)) rest in
    let are_more_fresh = are_fresh (with_reader known (key_in row) n) (n + 1) rest in
    let behind = faults_of_readers (with_reader known (key_in row) n) (n + 1) rest in
    clear_append (faults_of_reader known n row) behind
    ∙ ap (λ b. b && is_clear behind) (clear_append (faults_of_entry known n row) (faults_of_name n row))
    ∙ (λ i. (one i && name i) && more i)
    ∙ apart (is_entry && is_fresh) (has_good_name row) (are_entries && are_more_fresh) (each has_good_name rest)
    ∙ ap (λ b. b && (has_good_name row && each has_good_name rest)) (apart is_entry is_fresh are_entries are_more_fresh)
