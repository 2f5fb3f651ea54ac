-- The definitions on worked examples.
use Rattle.std.proofs.Common.{◌≡◌, [], ◌∷◌, true, false, codes, refl}
use Rattle.std.specs.Prelude.{Some, None, Ok, Err}
use Rattle.std.specs.Str.{chars}
use Rattle.toml.proofs.OnLiterals.{toml_on_literals}
use Rattle.doc_page_parts.specs.Paths.{is_path}
use Rattle.doc_people.specs.Settings.{is_title, is_language}
use Rattle.doc_store_readers.specs.Groups.{groups_of_names}
use Rattle.doc_server_config.specs.declared.browsing.BrowseError.TheVariants.{BadToml, BadBrowse, BadTitle, BadLanguage, BadHome, BadGuest}
use Rattle.doc_server_config.specs.declared.browsing.BrowseError.TheVariants.{BadLogin, BadEditing}
use Rattle.doc_server_config.specs.Browsing.{browse_of}

-- ---- what is read

-- nothing is said, or nothing of pages for people
no_table : browse_of (codes "") ≡ Ok None
unfolding toml_on_literals
no_table = refl

other_keys_of_the_document : browse_of (codes "title = 1\n[listen]\nconnections = 0\n") ≡ Ok None
unfolding toml_on_literals
other_keys_of_the_document = refl

-- an empty table is a table: the pages are there, nobody is a guest, nobody signs in as browsers do, and owners edit pages
empty_table : browse_of (codes "[browse]\n")
    ≡ Ok (Some (record {
      title = codes "Handbook";
      language = codes "en";
      home = codes "index.md";
      guest = None;
      login = false;
      editing = true;
    }))
unfolding toml_on_literals is_title is_language is_path chars
empty_table = refl

empty_inline_table : browse_of (codes "browse = {}")
    ≡ Ok (Some (record {
      title = codes "Handbook";
      language = codes "en";
      home = codes "index.md";
      guest = None;
      login = false;
      editing = true;
    }))
unfolding toml_on_literals is_title is_language is_path chars
empty_inline_table = refl

all_keys : browse_of (codes "[browse]\nediting = false\nlogin = \"basic\"\nguest = [\"public\", \"ops\", \"public\"]\nhome = \"a/b.md\"\nlanguage = \"de-CH\"\ntitle = \"Our handbook\"\n")
    ≡ Ok (Some (record {
      title = codes "Our handbook";
      language = codes "de-CH";
      home = codes "a/b.md";
      guest = Some (codes "ops" ∷ codes "public" ∷ []);
      login = true;
      editing = false;
    }))
unfolding toml_on_literals is_title is_language is_path chars groups_of_names
all_keys = refl

-- guests of no group: there are guests, as there are none without the key
guests_of_no_group : browse_of (codes "[browse]\nguest = []\n")
    ≡ Ok (Some (record {
      title = codes "Handbook";
      language = codes "en";
      home = codes "index.md";
      guest = Some [];
      login = false;
      editing = true;
    }))
unfolding toml_on_literals is_title is_language is_path chars groups_of_names
guests_of_no_group = refl

-- what `editing` holds
editing_is_off : browse_of (codes "[browse]\nediting = false\n")
    ≡ Ok (Some (record {
      title = codes "Handbook";
      language = codes "en";
      home = codes "index.md";
      guest = None;
      login = false;
      editing = false;
    }))
unfolding toml_on_literals is_title is_language is_path chars
editing_is_off = refl

editing_is_on : browse_of (codes "[browse]\nediting = true\n")
    ≡ Ok (Some (record {
      title = codes "Handbook";
      language = codes "en";
      home = codes "index.md";
      guest = None;
      login = false;
      editing = true;
    }))
unfolding toml_on_literals is_title is_language is_path chars
editing_is_on = refl

-- a title of 100 bytes
longest_title : browse_of (codes "browse.title = \"0123456789012345678901234567890123456789012345678901234567890123456789012345678901234567890123456789\"")
    ≡ Ok (Some (record {
      title = codes "0123456789012345678901234567890123456789012345678901234567890123456789012345678901234567890123456789";
      language = codes "en";
      home = codes "index.md";
      guest = None;
      login = false;
      editing = true;
    }))
unfolding toml_on_literals is_title is_language is_path chars
longest_title = refl

-- ---- what is refused alone

no_toml : browse_of (codes "browse = ") ≡ Err BadToml
unfolding toml_on_literals
no_toml = refl

no_table_of_that_name : browse_of (codes "browse = true") ≡ Err BadBrowse
unfolding toml_on_literals
no_table_of_that_name = refl

an_array_is_no_table : browse_of (codes "[[browse]]\n") ≡ Err BadBrowse
unfolding toml_on_literals
an_array_is_no_table = refl

unknown_key : browse_of (codes "[browse]\ntitel = \"Handbook\"\n") ≡ Err BadBrowse
unfolding toml_on_literals
unknown_key = refl

-- one of 101 bytes
long_title : browse_of (codes "browse.title = \"01234567890123456789012345678901234567890123456789012345678901234567890123456789012345678901234567890\"")
    ≡ Err BadTitle
unfolding toml_on_literals is_title is_language is_path chars
long_title = refl

empty_title : browse_of (codes "browse.title = \"\"") ≡ Err BadTitle
unfolding toml_on_literals is_title is_language is_path chars
empty_title = refl

a_title_that_ends_in_a_space : browse_of (codes "browse.title = \"Handbook \"") ≡ Err BadTitle
unfolding toml_on_literals is_title is_language is_path chars
a_title_that_ends_in_a_space = refl

a_title_with_a_control : browse_of (codes "browse.title = \"Hand\\tbook\"") ≡ Err BadTitle
unfolding toml_on_literals is_title is_language is_path chars
a_title_with_a_control = refl

a_number_is_no_title : browse_of (codes "browse.title = 1") ≡ Err BadTitle
unfolding toml_on_literals is_language is_path chars
a_number_is_no_title = refl

no_language : browse_of (codes "browse.language = \"e\"") ≡ Err BadLanguage
unfolding toml_on_literals is_title is_language is_path chars
no_language = refl

no_path : browse_of (codes "browse.home = \"../index.md\"") ≡ Err BadHome
unfolding toml_on_literals is_title is_language is_path chars
no_path = refl

a_string_is_no_array : browse_of (codes "browse.guest = \"public\"") ≡ Err BadGuest
unfolding toml_on_literals is_title is_language is_path chars groups_of_names
a_string_is_no_array = refl

no_group : browse_of (codes "browse.guest = [\"public\", \"Ops\"]") ≡ Err BadGuest
unfolding toml_on_literals is_title is_language is_path chars groups_of_names
no_group = refl

a_number_is_no_group : browse_of (codes "browse.guest = [1]") ≡ Err BadGuest
unfolding toml_on_literals is_title is_language is_path chars groups_of_names
a_number_is_no_group = refl

-- 33 different ones
too_many_groups : browse_of (codes "browse.guest = [\"0\", \"1\", \"2\", \"3\", \"4\", \"5\", \"6\", \"7\", \"8\", \"9\", \"a\", \"b\", \"c\", \"d\", \"e\", \"f\", \"g\", \"h\", \"i\", \"j\", \"k\", \"l\", \"m\", \"n\", \"o\", \"p\", \"q\", \"r\", \"s\", \"t\", \"u\", \"v\", \"w\"]")
    ≡ Err BadGuest
unfolding toml_on_literals is_title is_language is_path chars groups_of_names
too_many_groups = refl

other_login : browse_of (codes "browse.login = \"digest\"") ≡ Err BadLogin
unfolding toml_on_literals is_title is_language is_path chars
other_login = refl

a_boolean_is_no_login : browse_of (codes "browse.login = true") ≡ Err BadLogin
unfolding toml_on_literals is_title is_language is_path chars
a_boolean_is_no_login = refl

a_string_is_no_boolean : browse_of (codes "browse.editing = \"no\"") ≡ Err BadEditing
unfolding toml_on_literals is_title is_language is_path chars
a_string_is_no_boolean = refl

a_number_is_no_boolean : browse_of (codes "browse.editing = 1") ≡ Err BadEditing
unfolding toml_on_literals is_title is_language is_path chars
a_number_is_no_boolean = refl

-- ---- the first of two

no_toml_comes_first : browse_of (codes "browse = 1\nx") ≡ Err BadToml
unfolding toml_on_literals
no_toml_comes_first = refl

keys_come_before_titles : browse_of (codes "browse = { title = \"\", x = 1 }") ≡ Err BadBrowse
unfolding toml_on_literals
keys_come_before_titles = refl

titles_come_before_languages : browse_of (codes "browse = { language = \"\", title = \"\" }") ≡ Err BadTitle
unfolding toml_on_literals is_title is_language chars
titles_come_before_languages = refl

languages_come_before_homes : browse_of (codes "browse = { home = \"\", language = \"\" }") ≡ Err BadLanguage
unfolding toml_on_literals is_title is_language is_path chars
languages_come_before_homes = refl

homes_come_before_guests : browse_of (codes "browse = { guest = 1, home = \"\" }") ≡ Err BadHome
unfolding toml_on_literals is_title is_language is_path chars
homes_come_before_guests = refl

guests_come_before_logins : browse_of (codes "browse = { login = 1, guest = 1 }") ≡ Err BadGuest
unfolding toml_on_literals is_title is_language is_path chars
guests_come_before_logins = refl

logins_come_before_editing : browse_of (codes "browse = { editing = 1, login = \"digest\" }") ≡ Err BadLogin
unfolding toml_on_literals is_title is_language is_path chars
logins_come_before_editing = refl
