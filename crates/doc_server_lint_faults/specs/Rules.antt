-- The keys of a configuration's tables, each with the rule of its value, in the order in which their faults are told.
use Rattle.std.specs.Prelude.{ℕ, List, [], ◌∷◌, codes, map}
use Rattle.std.specs.Borrow.{Bor}
use Rattle.doc_server_lint_faults.specs.declared.rule.Form.TheVariants as form
use Rattle.doc_server_lint_faults.specs.declared.rule.Rule.{Rule}
use Rattle.doc_server_lint_faults.specs.declared.rule.Rule.TheVariants.{Boolean, Integer, Text, Needed, Groups, Except, Media, Table, Tables}

-- keys with their rules
abbrev pub Keys : Type 0
Keys = List (List ℕ × Rule)

-- the same of borrowed names
abbrev pub keys_of : List (Bor (List ℕ) × Rule) → Keys
keys_of keys = map (λ key. (key.0.now, key.1)) keys

-- the names of keys
abbrev pub names_of : Keys → List (List ℕ)
names_of keys = map (λ key. key.0) keys

abbrev pub top_keys : Keys
top_keys =
    (codes "keep_alive", Boolean) ∷ (codes "cache", Integer 4096) ∷ (codes "entities", Text form.Any) ∷ (codes "markdown", Table)
    ∷ (codes "reader", Tables) ∷ (codes "page", Tables) ∷ (codes "listen", Table) ∷ (codes "folder", Tables) ∷ (codes "browse", Table) ∷ []

abbrev pub markdown_keys : Keys
markdown_keys =
    (codes "skip_bom", Boolean) ∷ (codes "front_matter", Text form.Matter) ∷ (codes "tables", Boolean) ∷ (codes "strikethrough", Boolean)
    ∷ (codes "tasks", Boolean) ∷ (codes "bare_links", Boolean) ∷ (codes "check_images", Boolean) ∷ []

abbrev pub listen_keys : Keys
listen_keys =
    (codes "connections", Integer 65535) ∷ (codes "idle_seconds", Integer 86400) ∷ (codes "media_bytes", Integer 1073741824)
    ∷ (codes "stranger_seconds", Integer 86400) ∷ (codes "request_seconds", Integer 86400)
    ∷ (codes "follow_millis", Integer 10000) ∷ []

abbrev pub browse_keys : Keys
browse_keys =
    (codes "title", Text form.Title) ∷ (codes "language", Text form.Language) ∷ (codes "home", Text form.Home) ∷ (codes "guest", Groups)
    ∷ (codes "login", Text form.Login) ∷ (codes "editing", Boolean) ∷ []

abbrev pub reader_keys : Keys
reader_keys =
    (codes "token", Text form.Token) ∷ (codes "token_sha256", Text form.Digest) ∷ (codes "owner", Boolean) ∷ (codes "groups", Groups) ∷ []

-- the key of a reader that a server alone reads, for its log
abbrev pub name_key : List ℕ × Rule
name_key = (codes "name", Text form.Name)

-- all that are known of a reader
abbrev pub known_reader_keys : Keys
known_reader_keys =
    (codes "token", Text form.Token) ∷ (codes "token_sha256", Text form.Digest) ∷ (codes "owner", Boolean) ∷ (codes "groups", Groups)
    ∷ name_key ∷ []

abbrev pub page_keys : Keys
page_keys =
    (codes "path", Needed form.PagePath) ∷ (codes "groups", Groups) ∷ (codes "text", Text form.PageText) ∷
    (codes "file", Text form.Any) ∷ []

abbrev pub folder_keys : Keys
folder_keys =
    (codes "path", Needed form.Any) ∷ (codes "prefix", Text form.Prefix) ∷ (codes "groups", Groups) ∷ (codes "except", Except)
    ∷ (codes "media", Media) ∷ (codes "names", Text form.Names) ∷ (codes "readme", Boolean) ∷ (codes "on_bad", Text form.OnBad) ∷ []
