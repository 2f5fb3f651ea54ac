-- The definitions on worked examples.
use Rattle.std.proofs.Common.{◌≡◌, ℕ, List, [], ◌∷◌, true, codes, refl}
use Rattle.std.specs.Prelude.{Some, None, option_map}
use Rattle.std.specs.Str.{chars}
use Rattle.strsim.specs.Edits.{cost_at, next_row, rows}
use Rattle.toml.specs.Parse.{parse_document}
use Rattle.toml.proofs.OnLiterals.{toml_on_literals}
use Rattle.doc_page_parts.specs.Paths.{is_path}
use Rattle.doc_store_readers.specs.Groups.{groups_of_names}
use Rattle.doc_server_lint_faults.specs.declared.finding.Finding.{Finding}
use Rattle.doc_server_lint_faults.specs.declared.place.Place.{Place}
use Rattle.doc_server_lint_faults.specs.declared.place.Place.TheVariants as place
use Rattle.doc_server_lint_faults.specs.declared.what.Kind.TheVariants as kind
use Rattle.doc_server_lint_faults.specs.declared.what.What.{What}
use Rattle.doc_server_lint_faults.specs.declared.what.What.TheVariants as what
use Rattle.doc_server_lint_faults.specs.Rules.{names_of, reader_keys}
use Rattle.doc_server_lint_faults.specs.TableFaults.{faults_of_folders, faults_of_pages, rows_at}
use Rattle.doc_server_lint_faults.specs.Unknown.{meant}

abbrev fault : Place → List ℕ → What → Finding
fault place key what = record { place = place; key = Some key; what = what; is_fault = true }

-- ---- pages and folders

bad_pages : option_map (λ document. faults_of_pages 1 (rows_at (codes "page") document))
    (parse_document (codes "[[page]]\ntext = \"\"\n[[page]]\npath = \"/\"\n[[page]]\npath = \"a\"\ntext = \"\"\nfile = \"a\"\n"))
    ≡ Some (fault (place.Page 1) (codes "path") what.Missing ∷ fault (place.Page 2) (codes "path") what.NoPath
    ∷ record { place = place.Page 2; key = None; what = what.NoSource; is_fault = true }
    ∷ record { place = place.Page 3; key = None; what = what.TwoSources; is_fault = true } ∷ [])
unfolding toml_on_literals is_path chars
bad_pages = refl

bad_groups : option_map (λ document. faults_of_pages 1 (rows_at (codes "page") document))
    (parse_document (codes "[[page]]\npath = \"a\"\ntext = \"\"\ngroups = [\"ok\", \"A\"]\n"))
    ≡ Some (fault (place.Page 1) (codes "groups") (what.NoGroup (codes "A")) ∷ [])
unfolding toml_on_literals is_path chars groups_of_names
bad_groups = refl

bad_folder : option_map (λ document. faults_of_folders 1 (rows_at (codes "folder") document))
    (parse_document (codes "[[folder]]\npath = \"d\"\nonbad = 1\nnames = \"nfd\"\nreadme = 1\n"))
    ≡ Some (fault (place.Folder 1) (codes "onbad") (what.Unknown (Some (codes "on_bad"))) ∷ fault (place.Folder 1) (codes "names") what.Bad
    ∷ fault (place.Folder 1) (codes "readme") (what.MustBe kind.Boolean) ∷ [])
unfolding toml_on_literals chars rows next_row cost_at
bad_folder = refl

-- ---- keys that may be meant

onwer : meant (names_of reader_keys) (codes "onwer") ≡ Some (codes "owner")
unfolding chars rows next_row cost_at
onwer = refl

far_away : meant (names_of reader_keys) (codes "colour") ≡ None
unfolding chars rows next_row cost_at
far_away = refl
