-- Configurations. The order of the refusals is this project's choice: no TOML, readers, settings, pages.
use Rattle.std.specs.Prelude.{ℕ, List, [], codes, Option, Some, None, Result, Ok, Err}
use Rattle.toml.specs.Data.{Items, Members, get_member}
use Rattle.toml.specs.Parse.{parse_document}
use Rattle.doc_store_readers.specs.declared.readers.ReadersError.{ReadersError}
use Rattle.doc_store_readers.specs.Readers.{ReaderTable, readers_of_document, tables_at}
use Rattle.doc_server_config.specs.declared.config.ConfigError.{ConfigError}
use Rattle.doc_server_config.specs.declared.config.ConfigError.TheVariants.{BadToml, BadReaders, BadSetting}
use Rattle.doc_server_config.specs.declared.config.SiteConfig.{SiteConfig}
use Rattle.doc_server_config.specs.declared.page_row.PageRow.{PageRow}
use Rattle.doc_server_config.specs.declared.settings.Settings.{Settings}
use Rattle.doc_server_config.specs.PageRows.{pages_from}
use Rattle.doc_server_config.specs.Settings.{settings_in}

-- the configuration of these parts, without pages for people, which are `listen`'s to add
abbrev pub config_with : Settings → ReaderTable → List PageRow → SiteConfig
config_with settings readers pages =
    record {
      keep_alive = settings.keep_alive;
      cache = settings.cache;
      entities = settings.entities;
      markdown = settings.markdown;
      readers = readers;
      pages = pages;
      browse = None;
    }

-- a configuration whose pages may be refused
abbrev pub with_pages : Settings → ReaderTable → Result (List PageRow) ConfigError → Result SiteConfig ConfigError
with_pages settings readers (Err e) = Err e
with_pages settings readers (Ok pages) = Ok (config_with settings readers pages)

-- a configuration whose settings may be refused, and what should be the tables of its pages
abbrev pub with_settings : ReaderTable → Option Settings → Option Items → Result SiteConfig ConfigError
with_settings readers None tables = Err BadSetting
with_settings readers (Some settings) None = Err BadSetting
with_settings readers (Some settings) (Some tables) = with_pages settings readers (pages_from [] 1 tables)

-- a configuration whose readers may be refused
abbrev pub with_readers : Members → Result ReaderTable ReadersError → Result SiteConfig ConfigError
with_readers document (Err e) = Err (BadReaders e)
with_readers document (Ok readers) = with_settings readers (settings_in document) (tables_at (get_member (codes "page") document))

-- the configuration of a document, or the first refusal
abbrev pub config_of_document : Members → Result SiteConfig ConfigError
config_of_document document = with_readers document (readers_of_document document)

-- the configuration of what should be a document
abbrev pub config_in : Option Members → Result SiteConfig ConfigError
config_in None = Err BadToml
config_in (Some document) = config_of_document document

-- the configuration that a text is
abbrev pub config_of : List ℕ → Result SiteConfig ConfigError
config_of text = config_in (parse_document text)
