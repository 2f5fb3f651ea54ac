-- The definitions on worked examples.
use Rattle.std.proofs.Common.{◌≡◌, [], ◌∷◌, true, false, codes, refl}
use Rattle.std.specs.Prelude.{Some, None, Ok, Err}
use Rattle.std.specs.Str.{chars}
use Rattle.toml.proofs.OnLiterals.{toml_on_literals}
use Rattle.doc_page_parts.specs.Paths.{is_path}
use Rattle.doc_page_parts.specs.Tokens.{is_token}
use Rattle.doc_store_readers.specs.declared.readers.ReadersError.TheVariants as readers
use Rattle.doc_store_readers.specs.Groups.{groups_of_names}
use Rattle.doc_store_readers.specs.Readers.{no_readers}
use Rattle.doc_front.specs.declared.rules.FrontMatter.TheVariants.{Keep, Skip, Title}
use Rattle.doc_front.specs.Front.{none}
use Rattle.doc_server_config.specs.declared.config.ConfigError.TheVariants.{BadToml, BadReaders, BadSetting, BadPage}
use Rattle.doc_server_config.specs.declared.page_row.Source.TheVariants.{Text, File}
use Rattle.doc_server_config.specs.Configurations.{config_of}
use Rattle.doc_server_config.specs.Markdown.{no_options, plain}

-- nothing is said: connections are kept, and so are 64 filled pages; there are no readers and no pages
empty_text : config_of (codes "")
    ≡ Ok (record { keep_alive = true; cache = 64; entities = None; markdown = plain; readers = no_readers; pages = []; browse = None })
unfolding toml_on_literals
empty_text = refl

all_settings : config_of (codes "keep_alive = false\ncache = 4096\nentities = \"e.txt\"\nother = 1\nreader = []\n")
    ≡ Ok (record {
      keep_alive = false;
      cache = 4096;
      entities = Some (codes "e.txt");
      markdown = plain;
      readers = no_readers;
      pages = [];
      browse = None;
    })
unfolding toml_on_literals
all_settings = refl

pages_in_order : config_of (codes "[[page]]\npath = \"b.md\"\ngroups = [\"ops\"]\ntext = \"x\"\n[[page]]\npath = \"a.md\"\nfile = \"f\"\n")
    ≡ Ok (record {
      keep_alive = true;
      cache = 64;
      entities = None;
      markdown = plain;
      readers = no_readers;
      pages = record { path = codes "b.md"; groups = codes "ops" ∷ []; source = Text (codes "x") }
          ∷ record { path = codes "a.md"; groups = []; source = File (codes "f") } ∷ [];
      browse = None;
    })
unfolding toml_on_literals is_path chars groups_of_names
pages_in_order = refl

fronts :
    (config_of (codes "[markdown]\nfront_matter = \"title\"\nskip_bom = true\n")
    ≡ Ok (record {
      keep_alive = true;
      cache = 64;
      entities = None;
      markdown = record { front = record { skip_bom = true; front_matter = Title }; options = no_options };
      readers = no_readers;
      pages = [];
      browse = None;
    }))
    × (config_of (codes "[markdown]\nfront_matter = \"skip\"\n")
    ≡ Ok (record {
      keep_alive = true;
      cache = 64;
      entities = None;
      markdown = record { front = record { skip_bom = false; front_matter = Skip }; options = no_options };
      readers = no_readers;
      pages = [];
      browse = None;
    }))
unfolding toml_on_literals
fronts = (refl, refl)

extensions :
    (config_of (codes "[markdown]\ntables = true\ntasks = true\nbare_links = false\n")
    ≡ Ok (record {
      keep_alive = true;
      cache = 64;
      entities = None;
      markdown = record { front = none; options = record { tables = true; strikethrough = false; tasks = true; bare_links = false; images = false } };
      readers = no_readers;
      pages = [];
      browse = None;
    }))
    × (config_of (codes "[markdown]\nstrikethrough = true\nbare_links = true\nskip_bom = true\n")
    ≡ Ok (record {
      keep_alive = true;
      cache = 64;
      entities = None;
      markdown = record {
        front = record { skip_bom = true; front_matter = Keep };
        options = record { tables = false; strikethrough = true; tasks = false; bare_links = true; images = false };
      };
      readers = no_readers;
      pages = [];
      browse = None;
    }))
unfolding toml_on_literals
extensions = (refl, refl)

told_images : config_of (codes "[markdown]\ncheck_images = true\ntasks = true\n")
    ≡ Ok (record {
      keep_alive = true;
      cache = 64;
      entities = None;
      markdown = record { front = none; options = record { tables = false; strikethrough = false; tasks = true; bare_links = false; images = true } };
      readers = no_readers;
      pages = [];
      browse = None;
    })
unfolding toml_on_literals
told_images = refl

-- no table, another key, and other values
bad_fronts :
    (config_of (codes "markdown = 1") ≡ Err BadSetting)
    × (config_of (codes "[markdown]\ntitle = true\n") ≡ Err BadSetting)
    × (config_of (codes "[markdown]\nfront_matter = \"keep\"\n") ≡ Err BadSetting)
    × (config_of (codes "[markdown]\nfront_matter = true\n") ≡ Err BadSetting)
    × (config_of (codes "[markdown]\nskip_bom = \"true\"\n") ≡ Err BadSetting)
unfolding toml_on_literals
bad_fronts = (refl, refl, refl, refl, refl)

bad_extensions :
    (config_of (codes "[markdown]\ntables = 1\n") ≡ Err BadSetting)
    × (config_of (codes "[markdown]\nstrikethrough = \"true\"\n") ≡ Err BadSetting)
    × (config_of (codes "[markdown]\ntasks = []\n") ≡ Err BadSetting)
    × (config_of (codes "[markdown]\nbare_links = 0\n") ≡ Err BadSetting)
    × (config_of (codes "[markdown]\nTables = true\n") ≡ Err BadSetting)
    × (config_of (codes "[markdown]\ncheck_images = \"true\"\n") ≡ Err BadSetting)
    × (config_of (codes "[markdown]\nimages = true\n") ≡ Err BadSetting)
unfolding toml_on_literals
bad_extensions = (refl, refl, refl, refl, refl, refl, refl)

no_toml : config_of (codes "cache = ") ≡ Err BadToml
unfolding toml_on_literals
no_toml = refl

-- a capacity is an integer from 1 to 4,096
no_room : config_of (codes "cache = 0") ≡ Err BadSetting
unfolding toml_on_literals
no_room = refl

less_than_none : config_of (codes "cache = -1") ≡ Err BadSetting
unfolding toml_on_literals
less_than_none = refl

too_much_room : config_of (codes "cache = 4097") ≡ Err BadSetting
unfolding toml_on_literals
too_much_room = refl

a_boolean_is_no_capacity : config_of (codes "cache = true") ≡ Err BadSetting
unfolding toml_on_literals
a_boolean_is_no_capacity = refl

no_array_of_pages : config_of (codes "page = 1") ≡ Err BadSetting
unfolding toml_on_literals
no_array_of_pages = refl

no_array_of_readers : config_of (codes "reader = 1") ≡ Err (BadReaders readers.BadToml)
unfolding toml_on_literals
no_array_of_readers = refl

-- both sources, or none
two_sources : config_of (codes "[[page]]\npath = \"a.md\"\ntext = \"\"\n[[page]]\npath = \"b.md\"\ntext = \"\"\nfile = \"f\"\n")
    ≡ Err (BadPage 2)
unfolding toml_on_literals is_path chars groups_of_names
two_sources = refl

no_source : config_of (codes "[[page]]\npath = \"a.md\"\n") ≡ Err (BadPage 1)
unfolding toml_on_literals is_path chars groups_of_names
no_source = refl

no_path : config_of (codes "[[page]]\npath = \"../a.md\"\ntext = \"\"\n") ≡ Err (BadPage 1)
unfolding toml_on_literals is_path chars groups_of_names
no_path = refl

-- readers are refused before settings, and settings before pages
readers_come_first : config_of (codes "page = 1\ncache = 0\n[[reader]]\ntoken = \"\"\n") ≡ Err (BadReaders (readers.BadRow 1))
unfolding toml_on_literals is_token
readers_come_first = refl

settings_come_before_pages : config_of (codes "cache = 0\n[[page]]\n") ≡ Err BadSetting
unfolding toml_on_literals
settings_come_before_pages = refl
