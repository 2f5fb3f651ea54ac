-- What a renderer goes by: the character references by name, and which extensions of GitHub Flavored Markdown 0.29 are read. Without any
-- of them a text is read as CommonMark 0.31.2 has it.
use Rattle.std.specs.Prelude.{Bool, false}
use Rattle.doc_rules.specs.Entities.{Table, built_in}

-- the entities, and whether there are tables (4.10), strikethrough (6.5), task list items (5.3) and bare links (6.9, without mail); and
-- whether a page tells its images
pub record Rules : Type 0 where
  pub names : Table
  pub tables : Bool
  pub strikethrough : Bool
  pub tasks : Bool
  pub bare_links : Bool
  pub images : Bool

-- these entities, and no extension
abbrev pub plain_rules : Table → Rules
plain_rules names =
    record { names = names; tables = false; strikethrough = false; tasks = false; bare_links = false; images = false }

-- the built-in entities, and no extension
abbrev pub built_in_rules : Rules
built_in_rules = plain_rules built_in
