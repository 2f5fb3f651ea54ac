-- The table `markdown` of a configuration: how texts are read. Its keys are this project's choice.
use Rattle.std.specs.Prelude.{ℕ, List, [], ◌∷◌, Bool, false, bytes_eq, codes, Option, Some, None, option_and_then, if◌then◌else◌}
use Rattle.toml.specs.Data.{Data, Members, get_member, as_str, as_bool, as_table}
use Rattle.doc_lines.specs.declared.options.Options.{Options}
use Rattle.doc_front.specs.declared.rules.FrontRules.{FrontRules}
use Rattle.doc_front.specs.declared.rules.FrontMatter.{FrontMatter}
use Rattle.doc_front.specs.declared.rules.FrontMatter.TheVariants.{Keep, Skip, Title}
use Rattle.doc_front.specs.Front.{none}
use Rattle.doc_server_config.specs.declared.markdown.Markdown.{Markdown}
use Rattle.doc_server_config.specs.Keys.{has_only}

-- what becomes of front matter, by the name of it
abbrev pub matter_of : List ℕ → Option FrontMatter
matter_of text = if bytes_eq text (codes "skip") then Some Skip else if bytes_eq text (codes "title") then Some Title else None

-- what becomes of front matter: what the key holds, where that is `skip` or `title`; without the key it is text
abbrev pub matter_at : Option Data → Option FrontMatter
matter_at None = Some Keep
matter_at (Some value) = option_and_then matter_of (as_str value)

-- what a key of a boolean holds, where that is one; without the key it is false
abbrev pub flag_at : Option Data → Option Bool
flag_at None = Some false
flag_at (Some value) = as_bool value

-- ---- fronts

-- the rules of these parts, where both are good
abbrev pub front_with : Option Bool → Option FrontMatter → Option FrontRules
front_with None matter = None
front_with (Some skip_bom) None = None
front_with (Some skip_bom) (Some matter) = Some (record { skip_bom = skip_bom; front_matter = matter })

-- what is cut of the fronts of texts, as a table says
abbrev pub front_of_table : Members → Option FrontRules
front_of_table table = front_with (flag_at (get_member (codes "skip_bom") table)) (matter_at (get_member (codes "front_matter") table))

-- ---- extensions, and what pages tell

-- no extension of CommonMark, and no image is told
abbrev pub no_options : Options
no_options = record { tables = false; strikethrough = false; tasks = false; bare_links = false; images = false }

-- the options of these parts, where all are good
abbrev pub options_with : Option Bool → Option Bool → Option Bool → Option Bool → Option Bool → Option Options
options_with None strikethrough tasks bare_links images = None
options_with (Some tables) None tasks bare_links images = None
options_with (Some tables) (Some strikethrough) None bare_links images = None
options_with (Some tables) (Some strikethrough) (Some tasks) None images = None
options_with (Some tables) (Some strikethrough) (Some tasks) (Some bare_links) None = None
options_with (Some tables) (Some strikethrough) (Some tasks) (Some bare_links) (Some images) =
    Some (record { tables = tables; strikethrough = strikethrough; tasks = tasks; bare_links = bare_links; images = images })

-- the extensions of CommonMark that a table names, and whether images are told
abbrev pub options_of_table : Members → Option Options
options_of_table table =
    options_with (flag_at (get_member (codes "tables") table)) (flag_at (get_member (codes "strikethrough") table))
    (flag_at (get_member (codes "tasks") table)) (flag_at (get_member (codes "bare_links") table))
    (flag_at (get_member (codes "check_images") table))

-- ---- the table

abbrev pub keys : List (List ℕ)
keys = codes "bare_links" ∷ codes "check_images" ∷ codes "front_matter" ∷ codes "skip_bom" ∷ codes "strikethrough" ∷ codes "tables" ∷ codes "tasks" ∷ []

-- what is read of these parts, where both are good
abbrev pub markdown_with : Option FrontRules → Option Options → Option Markdown
markdown_with None options = None
markdown_with (Some front) None = None
markdown_with (Some front) (Some options) = Some (record { front = front; options = options })

-- how texts are read, as a table says that has these keys alone
abbrev pub markdown_of_table : Members → Option Markdown
markdown_of_table table = if has_only keys table then markdown_with (front_of_table table) (options_of_table table) else None

-- texts are read as they stand, by CommonMark alone, and no image is told
abbrev pub plain : Markdown
plain = record { front = none; options = no_options }

-- the same of what the key `markdown` holds; without the key texts are read as they stand
abbrev pub markdown_at : Option Data → Option Markdown
markdown_at None = Some plain
markdown_at (Some value) = option_and_then markdown_of_table (as_table value)
