-- The definitions on worked examples.
use Rattle.std.proofs.Common.{◌≡◌, [], ◌∷◌, ◌++◌, true, false, codes, refl}
use Rattle.std.specs.Prelude.{Some, None, Ok, Err, option_and_then}
use Rattle.std.specs.Path.{rsplit_once}
use Rattle.std.specs.Str.{chars}
use Rattle.toml.specs.Data.{get_member}
use Rattle.toml.specs.Parse.{parse_document}
use Rattle.toml.proofs.OnLiterals.{toml_on_literals}
use Rattle.doc_server_config.specs.declared.reason.Reason.TheVariants.{BadCharacter, Control, ManyParts}
use Rattle.doc_page_parts.specs.Paths.{is_path}
use Rattle.doc_store_readers.specs.Groups.{groups_of_names}
use Rattle.doc_server_config.specs.declared.folder.FolderFault.TheVariants.{OtherKey, BadFile, BadPrefix, BadGroups, BadExcept, BadNames, BadReadme}
use Rattle.doc_server_config.specs.declared.folder.FolderFault.TheVariants.{BadMedia, BadOnBad}
use Rattle.doc_server_config.specs.declared.listening.ListeningError.TheVariants.{BadToml, BadListen, BadConnections, BadIdleSeconds, BadMediaBytes}
use Rattle.doc_server_config.specs.declared.listening.ListeningError.TheVariants.{BadFolders, BadFolder, BadName, BadStrangerSeconds, BadRequestSeconds, BadFollowMillis}
use Rattle.doc_server_config.specs.Excepted.{is_excepted}
use Rattle.doc_server_config.specs.FileNames.{path_in_folder}
use Rattle.doc_server_config.specs.Listenings.{listening_of}
use Rattle.doc_server_config.specs.Overlaps.{first_overlap}
use Rattle.doc_server_config.specs.ReaderNames.{bad_name_in, name_at}
use Rattle.doc_server_names.specs.Names.{is_name}
use Rattle.doc_server_config.specs.Readmes.{index_move}

-- ---- what is read

-- nothing is said, or nothing that is `listen`'s concern: 1,024 connections, 30 seconds, no folder
empty_text : listening_of (codes "") ≡ Ok (record { bounds = record { connections = 1024; idle_seconds = 30; media_bytes = 67108864; stranger_seconds = 5; request_seconds = 60; follow_millis = 20 }; folders = [] })
unfolding toml_on_literals
empty_text = refl

other_keys_of_the_document : listening_of (codes "cache = 0\npage = 1\n[listen]\n")
    ≡ Ok (record { bounds = record { connections = 1024; idle_seconds = 30; media_bytes = 67108864; stranger_seconds = 5; request_seconds = 60; follow_millis = 20 }; folders = [] })
unfolding toml_on_literals
other_keys_of_the_document = refl

all_keys : listening_of (codes "[[folder]]\npath = \"../d\"\nprefix = \"g/h\"\ngroups = [\"b\", \"a\"]\nexcept = [\"x/y\", \".z\"]\nmedia = [\"png\", \"jpeg\", \"png\"]\nnames = \"nfc\"\nreadme = true\non_bad = \"skip\"\n[[folder]]\npath = \"\"\n[listen]\nconnections = 1\nidle_seconds = 86400\nmedia_bytes = 1073741824\nrequest_seconds = 1\nfollow_millis = 10000\nstranger_seconds = 86400\n")
    ≡ Ok (record {
      bounds = record { connections = 1; idle_seconds = 86400; media_bytes = 1073741824; stranger_seconds = 86400; request_seconds = 1; follow_millis = 10000 };
      folders = record {
        file = codes "../d";
        prefix = codes "g/h";
        groups = codes "a" ∷ codes "b" ∷ [];
        except = codes "x/y" ∷ codes ".z" ∷ [];
        media = Some (codes "png" ∷ codes "jpeg" ∷ codes "png" ∷ []);
        rules = record { is_nfc = true; readme = true; skips = true };
      }
          ∷ record {
            file = [];
            prefix = [];
            groups = [];
            except = [];
            media = None;
            rules = record { is_nfc = false; readme = false; skips = false };
          }
          ∷ [];
    })
unfolding toml_on_literals is_path chars groups_of_names
all_keys = refl

-- ---- what is refused, in this order

no_toml : listening_of (codes "listen = ") ≡ Err BadToml
unfolding toml_on_literals
no_toml = refl

no_table : listening_of (codes "listen = 1") ≡ Err BadListen
unfolding toml_on_literals
no_table = refl

unknown_key : listening_of (codes "[listen]\nconnections = 0\nidle = 1\n") ≡ Err BadListen
unfolding toml_on_literals
unknown_key = refl

no_connections : listening_of (codes "listen = { connections = 0, idle_seconds = 0 }") ≡ Err BadConnections
unfolding toml_on_literals
no_connections = refl

too_many_connections : listening_of (codes "listen.connections = 65536") ≡ Err BadConnections
unfolding toml_on_literals
too_many_connections = refl

a_string_is_no_number : listening_of (codes "listen.connections = \"9\"") ≡ Err BadConnections
unfolding toml_on_literals
a_string_is_no_number = refl

less_than_a_second : listening_of (codes "folder = 1\nlisten.idle_seconds = -1") ≡ Err BadIdleSeconds
unfolding toml_on_literals
less_than_a_second = refl

more_than_a_day : listening_of (codes "listen.idle_seconds = 86401") ≡ Err BadIdleSeconds
unfolding toml_on_literals
more_than_a_day = refl

no_array : listening_of (codes "[folder]\npath = \"d\"\n") ≡ Err BadFolders
unfolding toml_on_literals
no_array = refl

unknown_key_of_a_folder : listening_of (codes "[[folder]]\npath = \"d\"\n[[folder]]\nfile = \"d\"\n") ≡ Err (BadFolder 2 OtherKey)
unfolding toml_on_literals
unknown_key_of_a_folder = refl

no_file : listening_of (codes "[[folder]]\nprefix = \"/\"\n") ≡ Err (BadFolder 1 BadFile)
unfolding toml_on_literals is_path chars
no_file = refl

-- a prefix ends where the slash stands: it has none of its own
bad_prefix : listening_of (codes "[[folder]]\npath = \"d\"\nprefix = \"g/\"\ngroups = 1\n") ≡ Err (BadFolder 1 BadPrefix)
unfolding toml_on_literals is_path chars
bad_prefix = refl

bad_groups : listening_of (codes "[[folder]]\npath = \"d\"\ngroups = [\"A\"]\n") ≡ Err (BadFolder 1 BadGroups)
unfolding toml_on_literals groups_of_names
bad_groups = refl

bad_except : listening_of (codes "[[folder]]\npath = \"d\"\nexcept = \"x\"\n") ≡ Err (BadFolder 1 BadExcept)
unfolding toml_on_literals groups_of_names
bad_except = refl

an_excepted_folder_has_no_slash_behind_it : listening_of (codes "[[folder]]\npath = \"d\"\nexcept = [\"x/\"]\n") ≡ Err (BadFolder 1 BadExcept)
unfolding toml_on_literals groups_of_names
an_excepted_folder_has_no_slash_behind_it = refl

no_array_of_extensions : listening_of (codes "[[folder]]\npath = \"d\"\nmedia = false\nnames = 1\n") ≡ Err (BadFolder 1 BadMedia)
unfolding toml_on_literals groups_of_names
no_array_of_extensions = refl

upper_case_extension : listening_of (codes "[[folder]]\npath = \"d\"\nmedia = [\"png\", \"PNG\"]\n") ≡ Err (BadFolder 1 BadMedia)
unfolding toml_on_literals groups_of_names
upper_case_extension = refl

no_extension : listening_of (codes "[[folder]]\npath = \"d\"\nmedia = []\n") ≡ Err (BadFolder 1 BadMedia)
unfolding toml_on_literals groups_of_names
no_extension = refl

no_media_bytes : listening_of (codes "folder = 1\nlisten.media_bytes = 0") ≡ Err BadMediaBytes
unfolding toml_on_literals
no_media_bytes = refl

many_media_bytes : listening_of (codes "listen.media_bytes = 1073741825") ≡ Err BadMediaBytes
unfolding toml_on_literals
many_media_bytes = refl

bad_names : listening_of (codes "[[folder]]\npath = \"d\"\nnames = \"NFC\"\nreadme = 1\n") ≡ Err (BadFolder 1 BadNames)
unfolding toml_on_literals groups_of_names
bad_names = refl

bad_readme : listening_of (codes "[[folder]]\npath = \"d\"\nreadme = \"x\"\non_bad = 1\n") ≡ Err (BadFolder 1 BadReadme)
unfolding toml_on_literals groups_of_names
bad_readme = refl

bad_on_bad : listening_of (codes "[[folder]]\npath = \"d\"\non_bad = true\n") ≡ Err (BadFolder 1 BadOnBad)
unfolding toml_on_literals groups_of_names
bad_on_bad = refl

-- groups are refused before excepted folders
groups_come_first : listening_of (codes "[[folder]]\npath = \"d\"\ngroups = 1\nexcept = [\"..\"]\n") ≡ Err (BadFolder 1 BadGroups)
unfolding toml_on_literals groups_of_names
groups_come_first = refl

-- ---- the files in folders that are passed over

below_an_excepted_folder : is_excepted (codes "x/y" ∷ codes "z" ∷ []) (codes "x/y/a.md") ≡ true
below_an_excepted_folder = refl

beside_an_excepted_folder : is_excepted (codes "x/y" ∷ codes "z" ∷ []) (codes "x/yy/a.md") ≡ false
beside_an_excepted_folder = refl

-- ---- the paths of files

in_a_folder : path_in_folder false None (codes "g") (codes "a/b.md") ≡ Ok (Some (codes "g/a/b.md"))
unfolding is_path chars
in_a_folder = refl

without_a_prefix : path_in_folder false None [] (codes "b.md") ≡ Ok (Some (codes "b.md"))
unfolding is_path chars
without_a_prefix = refl

other_ending : path_in_folder false None [] (codes "a.md.txt") ≡ Ok None
other_ending = refl

upper_case_ending : path_in_folder false None [] (codes "a.MD") ≡ Ok None
upper_case_ending = refl

hidden_file : path_in_folder false None [] (codes "a/.md") ≡ Ok None
hidden_file = refl

hidden_folder : path_in_folder false None [] (codes ".git/a.md") ≡ Ok None
hidden_folder = refl

no_path_of_a_page : path_in_folder false None [] (codes "what?.md") ≡ Err BadCharacter
unfolding is_path chars
no_path_of_a_page = refl

-- the first reason in their order, not in that of the name
first_reason : path_in_folder false None [] (127 ∷ codes "a%.md") ≡ Err BadCharacter
unfolding is_path chars
first_reason = refl

control_character : path_in_folder false None [] (codes "a" ++ 0xC2 ∷ 0x85 ∷ codes ".md") ≡ Err Control
unfolding is_path chars
control_character = refl

many_parts : path_in_folder false None (codes "a/b/c/d/e/f/g/h") (codes "i/j/k/l/m/n/o/p/q.md") ≡ Err ManyParts
unfolding is_path chars
many_parts = refl

-- ---- READMEs

at_the_front : index_move (codes "README.md") ≡ Some (record { from = codes "README.md"; to = codes "index.md" })
unfolding is_path chars rsplit_once
at_the_front = refl

in_a_folder_below : index_move (codes "a/b/README.md") ≡ Some (record { from = codes "a/b/README.md"; to = codes "a/b/index.md" })
unfolding is_path chars rsplit_once
in_a_folder_below = refl

in_another_case : index_move (codes "a/Readme.md") ≡ None
unfolding rsplit_once
in_another_case = refl

a_longer_name : index_move (codes "a/xREADME.md") ≡ None
unfolding rsplit_once
a_longer_name = refl

-- ---- media

a_medium : path_in_folder false (Some (codes "png" ∷ [])) (codes "g") (codes "a/B.PNG") ≡ Ok (Some (codes "g/a/B.PNG"))
unfolding is_path chars
a_medium = refl

no_medium_by_its_extension : path_in_folder false (Some (codes "png" ∷ [])) [] (codes "a.jpg") ≡ Ok None
no_medium_by_its_extension = refl

-- something stands before the `.`, or the file is hidden
a_hidden_medium : path_in_folder false (Some (codes "png" ∷ [])) [] (codes "a/.png") ≡ Ok None
a_hidden_medium = refl

the_last_extension_counts : path_in_folder false (Some (codes "gz" ∷ [])) [] (codes "a.gz.xyz") ≡ Ok None
the_last_extension_counts = refl

-- ---- paths that two sources give

-- the first in the order of the rows, not the first that comes again
in_the_order_of_rows : first_overlap (codes "a.md" ∷ codes "b.md" ∷ []) (codes "b.md" ∷ codes "a.md" ∷ []) ≡ Some (codes "a.md")
in_the_order_of_rows = refl

two_folders : first_overlap (codes "a.md" ∷ []) (codes "b.md" ∷ codes "c.md" ∷ codes "b.md" ∷ []) ≡ Some (codes "b.md")
two_folders = refl

rows_alone : first_overlap (codes "a.md" ∷ codes "a.md" ∷ []) (codes "b.md" ∷ []) ≡ None
rows_alone = refl

-- seconds of strangers and of requests, which come behind the others
no_seconds_of_strangers : listening_of (codes "[listen]\nrequest_seconds = 0\nstranger_seconds = 0\n") ≡ Err BadStrangerSeconds
unfolding toml_on_literals
no_seconds_of_strangers = refl

a_day_and_a_second : listening_of (codes "listen = { request_seconds = 86401, stranger_seconds = 1 }") ≡ Err BadRequestSeconds
unfolding toml_on_literals
a_day_and_a_second = refl

-- milliseconds between the looks of who follows, which come last of the table's
no_milliseconds : listening_of (codes "[listen]\nfollow_millis = 0\nrequest_seconds = 0\n") ≡ Err BadRequestSeconds
unfolding toml_on_literals
no_milliseconds = refl

more_than_ten_seconds : listening_of (codes "listen = { follow_millis = 10001 }") ≡ Err BadFollowMillis
unfolding toml_on_literals
more_than_ten_seconds = refl

-- names of readers, which come last
no_names :
    (listening_of (codes "[[reader]]\nname = \"ann\"\n[[reader]]\n[[reader]]\nname = \"Ann\"\n[[reader]]\nname = 5\n") ≡ Err (BadName 3))
    × (listening_of (codes "[[reader]]\nname = 5\n") ≡ Err (BadName 1))
    × (listening_of (codes "[[reader]]\nname = \"\"\n") ≡ Err (BadName 1))
    × (listening_of (codes "[[reader]]\nname = \"a b\"\n[[folder]]\n") ≡ Err (BadFolder 1 BadFile))
unfolding toml_on_literals is_name
no_names = (refl, refl, refl, refl)

long_names :
    (option_and_then bad_name_in (parse_document (codes "[[reader]]\nname = \"12345678901234567890123456789012\"\n")) ≡ None)
    × (option_and_then bad_name_in (parse_document (codes "[[reader]]\nname = \"123456789012345678901234567890123\"\n")) ≡ Some 1)
unfolding toml_on_literals is_name
long_names = (refl, refl)

a_good_name : option_and_then (λ row. name_at (get_member (codes "name") row)) (parse_document (codes "name = \"j.doe-2_x@example.org\"\n"))
    ≡ Some (codes "j.doe-2_x@example.org")
unfolding toml_on_literals is_name
a_good_name = refl

-- whether the readers are tables is no matter of their names
no_readers : option_and_then bad_name_in (parse_document (codes "reader = 1\n")) ≡ None
unfolding toml_on_literals
no_readers = refl
