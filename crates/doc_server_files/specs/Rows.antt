-- The pages of a configured site: those of its rows, and behind them those of its folders. All of this is this project's choice.
use Rattle.std.specs.Prelude.{◌≡◌, ◌++◌, List, None, Ok}
use Rattle.toml.specs.Data.{Members}
use Rattle.doc_server_config.specs.declared.config.SiteConfig.{SiteConfig}
use Rattle.doc_server_config.specs.declared.page_row.PageRow.{PageRow}
use Rattle.doc_server_config.specs.declared.page_row.Source.TheVariants as sources
use Rattle.doc_server_config.specs.declared.folder_pages.FolderPage.{FolderPage}
use Rattle.doc_server_config.specs.Configurations.{config_of_document}
use Rattle.doc_server_config.specs.Overlaps.{first_overlap, paths_of}

-- a page of a folder, as one of the configuration
abbrev pub row_of : FolderPage → PageRow
row_of page = record { path = page.path; groups = page.groups; source = sources.Text page.text }

-- Some pages, and behind them others, of folders: no two of all these have one path of which one is a folder's.
pub record HasOthers (rows pages : List PageRow) : Type 0 where
  pub others : List PageRow
  pub all : pages ≡ rows ++ others
  pub apart : first_overlap (paths_of rows) (paths_of others) ≡ None

-- The pages of a configuration that is some document's.
pub record IsOwn (config : SiteConfig) : Type 0 where
  pub document : Members
  pub own : SiteConfig
  pub is_own : config_of_document document ≡ Ok own
  pub pages : config.pages ≡ own.pages

-- The pages of a configuration that is some document's, and behind them such others.
pub record HasOwnPaths (config : SiteConfig) : Type 0 where
  pub document : Members
  pub own : SiteConfig
  pub is_own : config_of_document document ≡ Ok own
  pub others : HasOthers own.pages config.pages
