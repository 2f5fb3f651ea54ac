-- What a document is refused for, key by key: a key whose value is taken, and no other, has no such finding.
use Rattle.std.proofs.Common.{◌≡◌, ℕ, List, [], ◌∷◌, ◌++◌, Bool, true, false, not, ◌&&◌, ◌||◌, bytes_eq, is_some, refl, ap, sym, ◌∙◌, subst}
use Rattle.std.specs.Prelude.{ℤ, pos, negsuc, Option, Some, None, Result, Ok, Err, option_and_then, option_map, if◌then◌else◌}
use Rattle.std.specs.List.{flat_map, list_all}
use Rattle.std.specs.Result.{result_ok}
use Rattle.std.proofs.lemmas.List.Folds.{list_all-append}
use Rattle.toml.specs.Data.{Data, Members, as_integer, as_str, as_table, get}
use Rattle.doc_page_parts.specs.declared.path.PathError.TheVariants.{BadPath}
use Rattle.doc_page_parts.specs.Paths.{is_path, path_of}
use Rattle.doc_store_readers.proofs.KeySteps.{bytes_eq_is, same_from}
use Rattle.doc_store_readers.specs.declared.groups.GroupsError.{GroupsError}
use Rattle.doc_store_readers.specs.declared.groups.GroupsError.TheVariants as refusals
use Rattle.doc_store_readers.specs.Groups.{groups_of_names}
use Rattle.doc_store_readers.specs.Readers.{groups_at, tables_at}
use Rattle.doc_page_parts.proofs.Bools.{and_first, and_second, same_bool}
use Rattle.doc_server_config.specs.Bounds.{within}
use Rattle.doc_server_config.specs.Excepted.{are_folder_names, except_at, good_names}
use Rattle.doc_server_config.specs.Keys.{has_only, is_one_of, keys_in}
use Rattle.doc_server_config.specs.MediaNames.{media_at}
use Rattle.doc_server_config.specs.Settings.{cache_at, capacity_in, entities_at}
use Rattle.doc_server_lint_faults.specs.declared.place.Place.{Place}
use Rattle.doc_server_lint_faults.specs.declared.rule.Form.{Form}
use Rattle.doc_server_lint_faults.specs.declared.rule.Form.TheVariants as form
use Rattle.doc_server_lint_faults.specs.declared.rule.Rule.TheVariants as rule
use Rattle.doc_server_lint_faults.specs.declared.what.What.{What}
use Rattle.doc_server_lint_faults.specs.declared.what.What.TheVariants.{Unknown}
use Rattle.doc_server_lint_faults.specs.TableFaults.{fault_of_key, faults_of_closed, faults_of_keys, finding_of}
use Rattle.doc_server_lint.specs.Laws.{is_clear, is_of_site, is_refusal}
use Rattle.doc_server_lint_faults.specs.Rules.{Keys, names_of}
use Rattle.doc_server_lint_faults.specs.Unknown.{meant, unknown_in, unknown_in_table, unknown_key}
use Rattle.doc_server_lint_faults.specs.Values.{except_fault, form_told, group_told, groups_fault, is_form, key_fault, refused_groups}
use Rattle.doc_server_lint_faults.specs.Values.{strings_of, text_fault, told}

-- ---- what is told of one key

-- whether the document is taken beside what is told
abbrev pub allows : Option What → Bool
allows None = true
allows (Some what) = is_of_site what

pub finding_clear : (place : Place) (key : Option (List ℕ)) (what : Option What) → is_clear (finding_of true place key what) ≡ allows what
finding_clear place key None = refl
finding_clear place key (Some what) = by (is_of_site what)
  where
    by : (b : Bool) → (not (not b) && true) ≡ b
    by true = refl
    by false = refl

-- two lists are clear together
pub clear_append : (found more : _) → is_clear (found ++ more) ≡ (is_clear found && is_clear more)
clear_append found more = list_all-append (λ finding. not (is_refusal finding)) found more

pub told_allows : (what : What) (good : Bool) → is_of_site what ≡ false → allows (told what good) ≡ good
told_allows what true is = refl
told_allows what false is = is

some_if : {A : Type 0} (b : Bool) (x : A) → is_some (if b then Some x else None) ≡ b
some_if true x = refl
some_if false x = refl

-- ---- strings

-- whether there is a string of a form
abbrev pub is_text : Form → Option (List ℕ) → Bool
is_text form None = false
is_text form (Some text) = is_form form text

pub text_allows : (form : Form) (text : Option (List ℕ)) → is_of_site (form_told form) ≡ false
    → allows (text_fault form text) ≡ is_text form text
text_allows form None is = refl
text_allows form (Some text) is = told_allows (form_told form) (is_form form text) is

-- where a form is what a definition takes
pub text_taken : {A : Type 0} (form : Form) (taken : List ℕ → Option A) (text : Option (List ℕ)) → is_of_site (form_told form) ≡ false
    → ((text : List ℕ) → is_form form text ≡ is_some (taken text)) → allows (text_fault form text) ≡ is_some (option_and_then taken text)
text_taken form taken None is same = refl
text_taken form taken (Some text) is same = told_allows (form_told form) (is_form form text) is ∙ same text

-- a long text is no matter of the document's
pub page_text_allows : (text : Option (List ℕ)) → allows (text_fault form.PageText text) ≡ is_some text
page_text_allows None = refl
page_text_allows (Some text) = by (is_form form.PageText text)
  where
    by : (b : Bool) → allows (told (form_told form.PageText) b) ≡ true
    by true = refl
    by false = refl

pub any_text_allows : (text : Option (List ℕ)) → allows (text_fault form.Any text) ≡ is_some text
any_text_allows None = refl
any_text_allows (Some text) = refl

pub path_taken : (text : List ℕ) → is_path text ≡ is_some (result_ok (path_of text))
path_taken text = by (is_path text)
  where
    by : (b : Bool) → b ≡ is_some (result_ok (if b then Ok text else Err BadPath))
    by true = refl
    by false = refl

pub if_taken : {A : Type 0} (b : Bool) (x : A) → b ≡ is_some (if b then Some x else None)
if_taken b x = sym (some_if b x)

-- ---- numbers

pub capacity_taken : (number : Option ℤ) → is_some (option_and_then (within 4096) number) ≡ is_some (capacity_in number)
capacity_taken None = refl
capacity_taken (Some (pos n)) = refl
capacity_taken (Some (negsuc n)) = refl

-- ---- arrays of strings

pub groups_allowed : (names : Option (List (List ℕ))) → allows (groups_fault names)
    ≡ is_some (option_and_then (λ names. result_ok (groups_of_names names)) names)
groups_allowed None = refl
groups_allowed (Some names) = by (groups_of_names names)
  where
    bad : (found : Option (List ℕ)) → is_of_site (group_told found) ≡ false
    bad None = refl
    bad (Some name) = refl

    by : (groups : Result (List (List ℕ)) GroupsError) → allows (refused_groups names groups) ≡ is_some (result_ok groups)
    by (Ok groups) = refl
    by (Err refusals.BadGroup) = bad _
    by (Err refusals.TooMany) = refl
    by (Err refusals.Memory) = bad _

-- ---- keys

pub groups_good : (held : Option Data) → allows (key_fault rule.Groups held) ≡ is_some (groups_at held)
groups_good None = refl
groups_good (Some value) = groups_allowed (strings_of value)

pub tables_good : (held : Option Data) → allows (key_fault rule.Tables held) ≡ is_some (tables_at held)
tables_good None = refl
tables_good (Some value) = told_allows _ _ refl

pub except_good : (held : Option Data) → allows (key_fault rule.Except held) ≡ is_some (except_at held)
except_good None = refl
except_good (Some value) = by (strings_of value)
  where
    by : (names : Option (List (List ℕ))) → allows (except_fault names) ≡ is_some (good_names names)
    by None = refl
    by (Some names) = told_allows _ _ refl ∙ if_taken (are_folder_names names) names

pub media_good : (held : Option Data) → allows (key_fault rule.Media held) ≡ is_some (media_at held)
media_good None = refl
media_good (Some value) = told_allows _ _ refl

pub cache_good : (held : Option Data) → allows (key_fault (rule.Integer 4096) held) ≡ is_some (cache_at held)
cache_good None = refl
cache_good (Some value) = told_allows _ _ refl ∙ capacity_taken (as_integer value)

pub entities_good : (held : Option Data) → allows (key_fault (rule.Text form.Any) held) ≡ is_some (entities_at held)
entities_good None = refl
entities_good (Some value) = any_text_allows (as_str value) ∙ by (as_str value)
  where
    by : (text : Option (List ℕ)) → is_some text ≡ is_some (option_map Some text)
    by None = refl
    by (Some text) = refl

-- ---- the keys of a table

-- whether all of these keys are good
abbrev pub are_good : Keys → (List ℕ → Option Data) → Bool
are_good keys held = list_all (λ key. allows (key_fault key.1 (held key.0))) keys

pub keys_clear : (place : Place) (keys : Keys) (held : List ℕ → Option Data)
    → is_clear (faults_of_keys place keys held) ≡ are_good keys held
keys_clear place [] held = refl
keys_clear place (key ∷ keys) held =
    let first = finding_clear place (Some key.0) (key_fault key.1 (held key.0)) in
    let rest = keys_clear place keys held in
    clear_append (fault_of_key place held key) (faults_of_keys place keys held) ∙ (λ i. first i && rest i)

-- ---- keys that aren't known

key_clear : (place : Place) (known : List (List ℕ)) (key : List ℕ) → is_clear (unknown_key true place known key) ≡ is_one_of known key
key_clear place known key = by (is_one_of known key)
  where
    by : (b : Bool)
        → is_clear (if b then []
        else record { place = place; key = Some key; what = Unknown (meant known key); is_fault = true } ∷ []) ≡ b
    by true = refl
    by false = refl

unknown_clear_keys : (place : Place) (known keys : List (List ℕ)) → is_clear (flat_map (unknown_key true place known) keys)
    ≡ list_all (is_one_of known) keys
unknown_clear_keys place known [] = refl
unknown_clear_keys place known (key ∷ keys) =
    let first = key_clear place known key in
    let rest = unknown_clear_keys place known keys in
    clear_append (unknown_key true place known key) (flat_map (unknown_key true place known) keys) ∙ (λ i. first i && rest i)

-- whether what may be a table has these keys alone
abbrev pub only : List (List ℕ) → Option Members → Bool
only known None = true
only known (Some table) = has_only known table

pub unknown_clear : (place : Place) (known : List (List ℕ)) (value : Data) → is_clear (unknown_in true place known value)
    ≡ only known (as_table value)
unknown_clear place known value = by (as_table value)
  where
    by : (table : Option Members) → is_clear (unknown_in_table true place known table) ≡ only known table
    by None = refl
    by (Some table) = unknown_clear_keys place known (keys_in table)

pub closed_clear : (place : Place) (keys : Keys) (value : Data) → is_clear (faults_of_closed place keys value)
    ≡ (only (names_of keys) (as_table value) && are_good keys (λ key. get key value))
closed_clear place keys value =
    let first = unknown_clear place (names_of keys) value in
    let rest = keys_clear place keys (λ key. get key value) in
    clear_append (unknown_in true place (names_of keys) value) (faults_of_keys place keys (λ key. get key value)) ∙ (λ i. first i && rest i)

-- ---- the same keys in another order

is_within : (names others : List (List ℕ)) (key : List ℕ) → list_all (is_one_of others) names ≡ true → is_one_of names key ≡ true
    → is_one_of others key ≡ true
is_within [] others key all is = cc
is_within (name ∷ names) others key all is = by (bytes_eq key name) (is_within names others key) refl
  where
    by : (b : Bool) → (list_all (is_one_of others) names ≡ true → is_one_of names key ≡ true → is_one_of others key ≡ true)
        → bytes_eq key name ≡ b → is_one_of others key ≡ true
    by true rest e =
        subst (λ one. is_one_of others one ≡ true) (sym (same_from key name (sym (bytes_eq_is key name) ∙ e)))
        (and_first (is_one_of others name) (list_all (is_one_of others) names) all)
    by false rest e =
        rest (and_second (is_one_of others name) (list_all (is_one_of others) names) all)
        (subst (λ b. (b || is_one_of names key) ≡ true) e is)

-- names that are among each other
pub same_names : (names others : List (List ℕ)) → list_all (is_one_of others) names ≡ true → list_all (is_one_of names) others ≡ true
    → (keys : List (List ℕ)) → list_all (is_one_of names) keys ≡ list_all (is_one_of others) keys
same_names names others forth back keys =
    ap (λ test. list_all test keys) (λ i key. same_bool (is_one_of names key) (is_one_of others key) (is_within names others key forth)
    (is_within others names key back) i)
