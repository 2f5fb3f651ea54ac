-- The steps of reading a configuration.
use Rattle.std.specs.Prelude.{codes, Result}
use Rattle.toml.specs.Data.{Members, get_member}
use Rattle.doc_store_readers.specs.Readers.{ReaderTable, tables_at}
use Rattle.doc_server_config.specs.declared.config.ConfigError.{ConfigError}
use Rattle.doc_server_config.specs.declared.config.SiteConfig.{SiteConfig}
use Rattle.doc_server_config.specs.Configurations.{with_settings}
use Rattle.doc_server_config.specs.Settings.{settings_in}

-- the configuration of a document beside these readers, which its own were read as
abbrev pub config_beside : ReaderTable → Members → Result SiteConfig ConfigError
config_beside readers document = with_settings readers (settings_in document) (tables_at (get_member (codes "page") document))
