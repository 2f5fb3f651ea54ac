-- What a document is refused for, table by table.
use Rattle.std.proofs.Common.{◌≡◌, ℕ, List, [], ◌∷◌, Bool, true, false, ◌&&◌, bytes_eq, is_some, is_ok, codes, refl, ap, sym, ◌∙◌}
use Rattle.std.specs.Prelude.{Option, Some, None, Result, Ok, Err, option_map, if◌then◌else◌}
use Rattle.std.specs.Result.{result_ok}
use Rattle.std.specs.Str.{chars}
use Rattle.toml.specs.Data.{Data, table, Members, get_member, as_str}
use Rattle.doc_page_parts.specs.Paths.{is_path, path_of}
use Rattle.doc_people.specs.declared.settings.Browse.{Browse}
use Rattle.doc_people.specs.Settings.{is_language, is_title}
use Rattle.doc_store_readers.specs.Readers.{groups_at}
use Rattle.doc_server_config.specs.declared.browsing.BrowseError.{BrowseError}
use Rattle.doc_server_config.specs.declared.browsing.BrowseError.TheVariants.{BadBrowse}
use Rattle.doc_server_config.specs.declared.listening.ListeningError.TheVariants.{BadListen}
use Rattle.doc_server_config.specs.Bounds.{bounds_at, bounds_of, bounds_with, connections_at, follow_millis_at, media_bytes_at, seconds_at}
use Rattle.doc_server_config.specs.Browsing.{browse_at, browse_of_table, browse_with, editing_at, good_language, good_login, good_title}
use Rattle.doc_server_config.specs.Browsing.{guest_at, home_at, language_at, login_at, some_browse, title_at}
use Rattle.doc_server_config.specs.Keys.{has_only, keys_in}
use Rattle.doc_server_config.specs.Markdown.{flag_at, front_with, keys, markdown_at, markdown_of_table, markdown_with, matter_at}
use Rattle.doc_server_config.specs.Markdown.{matter_of, options_with}
use Rattle.doc_server_lint_faults.specs.declared.place.Place.TheVariants as place
use Rattle.doc_server_lint_faults.specs.declared.rule.Form.TheVariants as form
use Rattle.doc_server_lint_faults.specs.declared.rule.Rule.TheVariants as rule
use Rattle.doc_server_lint_faults.specs.TableFaults.{faults_of_held}
use Rattle.doc_server_lint.specs.Laws.{is_clear}
use Rattle.doc_server_lint_faults.specs.Rules.{browse_keys, listen_keys, markdown_keys, names_of}
use Rattle.doc_server_lint_faults.specs.Values.{key_fault}
use Rattle.doc_server_lint.proofs.Clear.{allows, are_good, closed_clear, groups_good, if_taken, only, path_taken, same_names, text_taken}
use Rattle.doc_server_lint.proofs.Clear.{told_allows}

-- ---- `markdown`

flag_good : (held : Option Data) → allows (key_fault rule.Boolean held) ≡ is_some (flag_at held)
flag_good None = refl
flag_good (Some value) = told_allows _ _ refl

matter_good : (held : Option Data) → allows (key_fault (rule.Text form.Matter) held) ≡ is_some (matter_at held)
matter_good None = refl
matter_good (Some value) = text_taken form.Matter matter_of (as_str value) refl (λ text. refl)

markdown_parts : (a : Option Bool) (b : _) (c d e f g : Option Bool)
    → is_some (markdown_with (front_with a b) (options_with c d e f g))
    ≡ (is_some a && (is_some b && (is_some c && (is_some d && (is_some e && (is_some f && (is_some g && true)))))))
markdown_parts None b c d e f g = refl
markdown_parts (Some a) None c d e f g = refl
markdown_parts (Some a) (Some b) None d e f g = refl
markdown_parts (Some a) (Some b) (Some c) None e f g = refl
markdown_parts (Some a) (Some b) (Some c) (Some d) None f g = refl
markdown_parts (Some a) (Some b) (Some c) (Some d) (Some e) None g = refl
markdown_parts (Some a) (Some b) (Some c) (Some d) (Some e) (Some f) None = refl
markdown_parts (Some a) (Some b) (Some c) (Some d) (Some e) (Some f) (Some g) = refl

where_only : {A : Type 0} (b : Bool) (o : Option A) → is_some (if b then o else None) ≡ (b && is_some o)
where_only true o = refl
where_only false o = refl

markdown_table : (held : Members) → (only (names_of markdown_keys) (Some held) && are_good markdown_keys (λ key. get_member key held))
    ≡ is_some (markdown_of_table held)
markdown_table held =
    let at : List ℕ → Option Data = λ key. get_member key held in
    let skip_bom = flag_good (at (codes "skip_bom")) in
    let matter = matter_good (at (codes "front_matter")) in
    let tables = flag_good (at (codes "tables")) in
    let strikethrough = flag_good (at (codes "strikethrough")) in
    let tasks = flag_good (at (codes "tasks")) in
    let bare_links = flag_good (at (codes "bare_links")) in
    let images = flag_good (at (codes "check_images")) in
    (λ i. same_names (names_of markdown_keys) keys refl refl (keys_in held) i
    && (skip_bom i && (matter i && (tables i && (strikethrough i && (tasks i && (bare_links i && (images i && true))))))))
    ∙ ap (λ b. has_only keys held && b)
    (sym (markdown_parts (flag_at (at (codes "skip_bom"))) (matter_at (at (codes "front_matter"))) (flag_at (at (codes "tables")))
    (flag_at (at (codes "strikethrough"))) (flag_at (at (codes "tasks"))) (flag_at (at (codes "bare_links")))
    (flag_at (at (codes "check_images")))))
    ∙ sym (where_only (has_only keys held) _)

pub markdown_clear : (held : Option Data)
    → (allows (key_fault rule.Table held) && is_clear (faults_of_held place.Markdown markdown_keys held)) ≡ is_some (markdown_at held)
markdown_clear None = refl
markdown_clear (Some (table held)) = closed_clear place.Markdown markdown_keys (table held) ∙ markdown_table held
markdown_clear (Some other) = refl

-- ---- `listen`

connections_good : (held : Option Data) → allows (key_fault (rule.Integer 65535) held) ≡ is_some (connections_at held)
connections_good None = refl
connections_good (Some value) = told_allows _ _ refl

seconds_good : (missing : ℕ) (held : Option Data) → allows (key_fault (rule.Integer 86400) held) ≡ is_some (seconds_at missing held)
seconds_good missing None = refl
seconds_good missing (Some value) = told_allows _ _ refl

media_bytes_good : (held : Option Data) → allows (key_fault (rule.Integer 1073741824) held) ≡ is_some (media_bytes_at held)
media_bytes_good None = refl
media_bytes_good (Some value) = told_allows _ _ refl

follow_millis_good : (held : Option Data) → allows (key_fault (rule.Integer 10000) held) ≡ is_some (follow_millis_at held)
follow_millis_good None = refl
follow_millis_good (Some value) = told_allows _ _ refl

bounds_parts : (a b c d e f : Option ℕ)
    → is_ok (bounds_with a b c d e f)
    ≡ (is_some a && (is_some b && (is_some c && (is_some d && (is_some e && (is_some f && true))))))
bounds_parts None b c d e f = refl
bounds_parts (Some a) None c d e f = refl
bounds_parts (Some a) (Some b) None d e f = refl
bounds_parts (Some a) (Some b) (Some c) None e f = refl
bounds_parts (Some a) (Some b) (Some c) (Some d) None f = refl
bounds_parts (Some a) (Some b) (Some c) (Some d) (Some e) None = refl
bounds_parts (Some a) (Some b) (Some c) (Some d) (Some e) (Some f) = refl

ok_where_only : {A E : Type 0} (b : Bool) (r : Result A E) (e : E) → is_ok (if b then r else Err e) ≡ (b && is_ok r)
ok_where_only true r e = refl
ok_where_only false r e = refl

listen_table : (held : Members) → (only (names_of listen_keys) (Some held) && are_good listen_keys (λ key. get_member key held))
    ≡ is_ok (bounds_of held)
listen_table held =
    let at : List ℕ → Option Data = λ key. get_member key held in
    let connections = connections_good (at (codes "connections")) in
    let idle = seconds_good 30 (at (codes "idle_seconds")) in
    let media = media_bytes_good (at (codes "media_bytes")) in
    let stranger = seconds_good 5 (at (codes "stranger_seconds")) in
    let request = seconds_good 60 (at (codes "request_seconds")) in
    let follow = follow_millis_good (at (codes "follow_millis")) in
    (λ i. has_only (names_of listen_keys) held
    && (connections i && (idle i && (media i && (stranger i && (request i && (follow i && true)))))))
    ∙ ap (λ b. has_only (names_of listen_keys) held && b)
    (sym (bounds_parts (connections_at (at (codes "connections"))) (seconds_at 30 (at (codes "idle_seconds")))
    (media_bytes_at (at (codes "media_bytes"))) (seconds_at 5 (at (codes "stranger_seconds")))
    (seconds_at 60 (at (codes "request_seconds"))) (follow_millis_at (at (codes "follow_millis")))))
    ∙ sym (ok_where_only (has_only (names_of listen_keys) held) _ BadListen)

pub listen_clear : (held : Option Data)
    → (allows (key_fault rule.Table held) && is_clear (faults_of_held place.Listen listen_keys held)) ≡ is_ok (bounds_at held)
listen_clear None = refl
listen_clear (Some (table held)) = closed_clear place.Listen listen_keys (table held) ∙ listen_table held
listen_clear (Some other) = refl

-- ---- `browse`

-- what stands for the keys that are missing is good
handbook : is_some (good_title (codes "Handbook")) ≡ true
unfolding is_title chars
handbook = refl

english : is_some (good_language (codes "en")) ≡ true
unfolding is_language
english = refl

index : is_some (result_ok (path_of (codes "index.md"))) ≡ true
unfolding is_path chars
index = refl

title_good : (held : Option Data) → allows (key_fault (rule.Text form.Title) held) ≡ is_some (title_at held)
title_good None = sym handbook
title_good (Some value) = text_taken form.Title good_title (as_str value) refl (λ text. if_taken (is_title text) text)

language_good : (held : Option Data) → allows (key_fault (rule.Text form.Language) held) ≡ is_some (language_at held)
language_good None = sym english
language_good (Some value) = text_taken form.Language good_language (as_str value) refl (λ text. if_taken (is_language text) text)

home_good : (held : Option Data) → allows (key_fault (rule.Text form.Home) held) ≡ is_some (home_at held)
home_good None = sym index
home_good (Some value) = text_taken form.Home (λ text. result_ok (path_of text)) (as_str value) refl path_taken

guest_good : (held : Option Data) → allows (key_fault rule.Groups held) ≡ is_some (guest_at held)
guest_good None = refl
guest_good (Some value) = groups_good (Some value) ∙ by (groups_at (Some value))
  where
    by : (groups : Option (List (List ℕ))) → is_some groups ≡ is_some (option_map Some groups)
    by None = refl
    by (Some groups) = refl

login_good : (held : Option Data) → allows (key_fault (rule.Text form.Login) held) ≡ is_some (login_at held)
login_good None = refl
login_good (Some value) = text_taken form.Login good_login (as_str value) refl (λ text. if_taken (bytes_eq text (codes "basic")) true)

editing_good : (held : Option Data) → allows (key_fault rule.Boolean held) ≡ is_some (editing_at held)
editing_good None = refl
editing_good (Some value) = told_allows _ _ refl

browse_parts : (a b c : Option (List ℕ)) (d : Option (Option (List (List ℕ)))) (e f : Option Bool)
    → is_ok (browse_with a b c d e f) ≡ (is_some a && (is_some b && (is_some c && (is_some d && (is_some e && (is_some f && true))))))
browse_parts None b c d e f = refl
browse_parts (Some a) None c d e f = refl
browse_parts (Some a) (Some b) None d e f = refl
browse_parts (Some a) (Some b) (Some c) None e f = refl
browse_parts (Some a) (Some b) (Some c) (Some d) None f = refl
browse_parts (Some a) (Some b) (Some c) (Some d) (Some e) None = refl
browse_parts (Some a) (Some b) (Some c) (Some d) (Some e) (Some f) = refl

-- the keys of `browse` in the order of their bytes
abbrev known : List (List ℕ)
known = codes "editing" ∷ codes "guest" ∷ codes "home" ∷ codes "language" ∷ codes "login" ∷ codes "title" ∷ []

browse_table : (held : Members) → (only (names_of browse_keys) (Some held) && are_good browse_keys (λ key. get_member key held))
    ≡ is_ok (browse_of_table held)
browse_table held =
    let at : List ℕ → Option Data = λ key. get_member key held in
    let title = title_good (at (codes "title")) in
    let language = language_good (at (codes "language")) in
    let home = home_good (at (codes "home")) in
    let guest = guest_good (at (codes "guest")) in
    let login = login_good (at (codes "login")) in
    let editing = editing_good (at (codes "editing")) in
    (λ i. same_names (names_of browse_keys) known refl refl (keys_in held) i
    && (title i && (language i && (home i && (guest i && (login i && (editing i && true)))))))
    ∙ ap (λ b. has_only known held && b)
    (sym (browse_parts (title_at (at (codes "title"))) (language_at (at (codes "language"))) (home_at (at (codes "home")))
    (guest_at (at (codes "guest"))) (login_at (at (codes "login"))) (editing_at (at (codes "editing")))))
    ∙ sym (ok_where_only (has_only known held) _ BadBrowse)

pub browse_clear : (held : Option Data)
    → (allows (key_fault rule.Table held) && is_clear (faults_of_held place.Browse browse_keys held)) ≡ is_ok (browse_at held)
browse_clear None = refl
browse_clear (Some (table held)) = closed_clear place.Browse browse_keys (table held) ∙ browse_table held ∙ by (browse_of_table held)
  where
    by : (browse : Result Browse BrowseError) → is_ok browse ≡ is_ok (some_browse browse)
    by (Ok browse) = refl
    by (Err e) = refl
browse_clear (Some other) = refl
