-- Rules with the options that are asked for.
use Rattle.doc_rules.specs.Rules.{Rules}
use Rattle.doc_lines.specs.declared.options.Options.{Options}

-- the same entities, with the extensions of these options
abbrev pub with_options : Rules → Options → Rules
with_options rules options = record {
  names = rules.names;
  tables = options.tables;
  strikethrough = options.strikethrough;
  tasks = options.tasks;
  bare_links = options.bare_links;
  images = options.images;
}
