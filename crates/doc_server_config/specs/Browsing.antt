-- The table `browse` of a configuration, a TOML 1.1 document: what whoever runs a site says of its pages for people. Its keys,
-- what stands for them and the order of the refusals are this project's choice: no TOML, the table, title, language, home,
-- guest, login, editing.
use Rattle.std.specs.Prelude.{ℕ, List, [], ◌∷◌, Bool, true, false, bytes_eq, codes, Option, Some, None, option_map, option_and_then}
use Rattle.std.specs.Prelude.{Result, Ok, Err, if◌then◌else◌}
use Rattle.std.specs.Result.{result_ok}
use Rattle.toml.specs.Data.{Data, Members, get_member, as_str, as_bool, as_table}
use Rattle.toml.specs.Parse.{parse_document}
use Rattle.doc_page_parts.specs.Paths.{path_of}
use Rattle.doc_people.specs.declared.settings.Browse.{Browse}
use Rattle.doc_people.specs.Settings.{is_title, is_language}
use Rattle.doc_store_readers.specs.Readers.{groups_at}
use Rattle.doc_server_config.specs.declared.browsing.BrowseError.{BrowseError}
use Rattle.doc_server_config.specs.declared.browsing.BrowseError.TheVariants.{BadToml, BadBrowse, BadTitle, BadLanguage, BadHome, BadGuest}
use Rattle.doc_server_config.specs.declared.browsing.BrowseError.TheVariants.{BadLogin, BadEditing}
use Rattle.doc_server_config.specs.Keys.{has_only}

-- the text of a key: what it holds, where that is a string; without the key the text missing
abbrev pub text_at : List ℕ → Option Data → Option (List ℕ)
text_at missing None = Some missing
text_at missing (Some value) = as_str value

-- the text, where it is a title of a site
abbrev pub good_title : List ℕ → Option (List ℕ)
good_title text = if is_title text then Some text else None

-- the title of the site: what the key holds, where that is a string that is a title; without the key `Handbook`
abbrev pub title_at : Option Data → Option (List ℕ)
title_at value = option_and_then good_title (text_at (codes "Handbook") value)

-- the text, where it is a language
abbrev pub good_language : List ℕ → Option (List ℕ)
good_language text = if is_language text then Some text else None

-- the language of the site's texts: the same of a language; without the key `en`
abbrev pub language_at : Option Data → Option (List ℕ)
language_at value = option_and_then good_language (text_at (codes "en") value)

-- the path of the page at the front: the same of a path; without the key `index.md`
abbrev pub home_at : Option Data → Option (List ℕ)
home_at value = option_and_then (λ text. result_ok (path_of text)) (text_at (codes "index.md") value)

-- the groups of guests: what the key holds, where that is an array of names of groups, which may be empty; without the key nobody is a
-- guest
abbrev pub guest_at : Option Data → Option (Option (List (List ℕ)))
guest_at None = Some None
guest_at (Some value) = option_map Some (groups_at (Some value))

-- whether the text is the one way of signing in
abbrev pub good_login : List ℕ → Option Bool
good_login text = if bytes_eq text (codes "basic") then Some true else None

-- whether readers may sign in as browsers do: the key says so by the string `basic`, and may hold nothing else; without the key they
-- may not
abbrev pub login_at : Option Data → Option Bool
login_at None = Some false
login_at (Some value) = option_and_then good_login (as_str value)

-- whether owners edit pages by requests with conditions, and in a browser: what the key holds, where that is a boolean; without the key
-- they do
abbrev pub editing_at : Option Data → Option Bool
editing_at None = Some true
editing_at (Some value) = as_bool value

-- what these parts are, the first of which comes first where several are bad
abbrev pub browse_with : Option (List ℕ) → Option (List ℕ) → Option (List ℕ) → Option (Option (List (List ℕ))) → Option Bool
    → Option Bool → Result Browse BrowseError
browse_with None language home guest login editing = Err BadTitle
browse_with (Some title) None home guest login editing = Err BadLanguage
browse_with (Some title) (Some language) None guest login editing = Err BadHome
browse_with (Some title) (Some language) (Some home) None login editing = Err BadGuest
browse_with (Some title) (Some language) (Some home) (Some guest) None editing = Err BadLogin
browse_with (Some title) (Some language) (Some home) (Some guest) (Some login) None = Err BadEditing
browse_with (Some title) (Some language) (Some home) (Some guest) (Some login) (Some editing) =
    Ok (record { title = title; language = language; home = home; guest = guest; login = login; editing = editing })

-- what a table says, which has these six keys alone
abbrev pub browse_of_table : Members → Result Browse BrowseError
browse_of_table table =
    if has_only (codes "editing" ∷ codes "guest" ∷ codes "home" ∷ codes "language" ∷ codes "login" ∷ codes "title" ∷ []) table
    then browse_with (title_at (get_member (codes "title") table)) (language_at (get_member (codes "language") table))
    (home_at (get_member (codes "home") table)) (guest_at (get_member (codes "guest") table)) (login_at (get_member (codes "login") table))
    (editing_at (get_member (codes "editing") table))
    else Err BadBrowse

-- the same where it may be refused
abbrev pub some_browse : Result Browse BrowseError → Result (Option Browse) BrowseError
some_browse (Err e) = Err e
some_browse (Ok browse) = Ok (Some browse)

-- the same of what should be a table
abbrev pub browse_of_value : Option Members → Result (Option Browse) BrowseError
browse_of_value None = Err BadBrowse
browse_of_value (Some table) = some_browse (browse_of_table table)

-- what the key `browse` says; without it there are no pages for people
abbrev pub browse_at : Option Data → Result (Option Browse) BrowseError
browse_at None = Ok None
browse_at (Some value) = browse_of_value (as_table value)

-- what a document says of the pages for people, or the first refusal
abbrev pub browse_of_document : Members → Result (Option Browse) BrowseError
browse_of_document document = browse_at (get_member (codes "browse") document)

-- the same of what should be a document
abbrev pub browse_of_parsed : Option Members → Result (Option Browse) BrowseError
browse_of_parsed None = Err BadToml
browse_of_parsed (Some document) = browse_of_document document

-- what a text says of them
abbrev pub browse_of : List ℕ → Result (Option Browse) BrowseError
browse_of text = browse_of_parsed (parse_document text)
