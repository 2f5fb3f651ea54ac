-- The definitions on worked examples.
use lib.Utf8.{encode}
use Rattle.std.proofs.Common.{◌≡◌, ℕ, List, [], ◌∷◌, true, false, codes, refl}
use Rattle.std.specs.Prelude.{Option, Some, None, map, option_map}
use Rattle.std.specs.Fmt.{digits}
use Rattle.std.specs.Str.{chars}
use Rattle.strsim.specs.Edits.{cost_at, next_row, rows}
use Rattle.toml.specs.Data.{Members, table}
use Rattle.toml.specs.Parse.{parse_document}
use Rattle.toml.proofs.OnLiterals.{toml_on_literals}
use Rattle.doc_server_config.specs.BadFiles.{shown_name}
use Rattle.doc_server_names.specs.Names.{is_name}
use Rattle.doc_server_lint_faults.specs.declared.finding.Finding.{Finding}
use Rattle.doc_server_lint_faults.specs.declared.place.Place.{Place}
use Rattle.doc_server_lint_faults.specs.declared.place.Place.TheVariants as place
use Rattle.doc_server_lint_faults.specs.declared.what.Kind.TheVariants as kind
use Rattle.doc_server_lint_faults.specs.declared.what.What.{What}
use Rattle.doc_server_lint_faults.specs.declared.what.What.TheVariants as what
use Rattle.doc_server_lint.specs.Faults.{faults_of_name, faults_of_tables}
use Rattle.doc_server_lint.specs.Lines.{finding_line}
use Rattle.doc_server_lint.specs.Reports.{name_at}

abbrev fault : Place → List ℕ → What → Finding
fault place key what = record { place = place; key = Some key; what = what; is_fault = true }

-- ---- tables

no_number : option_map faults_of_tables (parse_document (codes "[listen]\nconnections = 0\nidle_seconds = 30\n"))
    ≡ Some (fault place.Listen (codes "connections") (what.MustBe (kind.Integer 65535)) ∷ [])
unfolding toml_on_literals
no_number = refl

unknown_key : option_map faults_of_tables (parse_document (codes "[markdown]\ntable = true\nskip_bom = 1\n"))
    ≡ Some (fault place.Markdown (codes "table") (what.Unknown (Some (codes "tables")))
    ∷ fault place.Markdown (codes "skip_bom") (what.MustBe kind.Boolean) ∷ [])
unfolding toml_on_literals chars rows next_row cost_at
unknown_key = refl

bad_login : option_map faults_of_tables (parse_document (codes "[browse]\nlogin = \"digest\"\n"))
    ≡ Some (fault place.Browse (codes "login") what.Bad ∷ [])
unfolding toml_on_literals
bad_login = refl

-- ---- names of readers

abbrev faults_in : Members → List Finding
faults_in row = faults_of_name 2 (table row)

bad_names :
    (option_map faults_in (parse_document (codes "name = \"Ann\"\n")) ≡ Some (fault (place.Reader 2) (codes "name") what.NoName ∷ []))
    × (option_map faults_in (parse_document (codes "name = 5\n"))
    ≡ Some (fault (place.Reader 2) (codes "name") (what.MustBe kind.Text) ∷ []))
    × (option_map faults_in (parse_document (codes "name = \"ann\"\n")) ≡ Some [])
    × (option_map faults_in (parse_document (codes "owner = 5\n")) ≡ Some [])
unfolding toml_on_literals is_name
bad_names = (refl, refl, refl, refl)

abbrev names_in : Members → List (Option (List ℕ))
names_in document = map (λ row. name_at document (place.Reader row)) (1 ∷ 2 ∷ 3 ∷ 4 ∷ [])

shown_names : option_map names_in
    (parse_document (codes "[[reader]]\nname = \"Ann\"\n[[reader]]\nname = \"ann\"\n[[reader]]\n"))
    ≡ Some (None ∷ Some (codes "ann") ∷ None ∷ None ∷ [])
unfolding toml_on_literals is_name
shown_names = refl

-- ---- lines

warning_line : finding_line (codes "site.toml") (Some 7) None
    (record { place = place.Reader 2; key = Some (codes "onwer"); what = what.Unknown (Some (codes "owner")); is_fault = false })
    ≡ codes "site.toml:7: reader 2: warning: unknown key `onwer`: is `owner` meant?\n"
unfolding shown_name chars encode digits
warning_line = refl

page_line : finding_line (codes "site.toml") None (Some (codes "a.md")) (fault (place.Page 12) (codes "text") what.LongText)
    ≡ codes "site.toml: page 12 (a.md): `text` has more than 1048576 bytes\n"
unfolding shown_name chars encode digits
page_line = refl

reader_line : finding_line (codes "site.toml") (Some 12) (Some (codes "ann")) (fault (place.Reader 3) (codes "owner") (what.MustBe kind.Boolean))
    ≡ codes "site.toml:12: reader 3 (ann): `owner` must be a boolean\n"
unfolding shown_name chars encode digits
reader_line = refl

name_line : finding_line (codes "site.toml") (Some 8) None (fault (place.Reader 2) (codes "name") what.NoName)
    ≡ codes "site.toml:8: reader 2: `name` must be 1 to 32 of a-z, 0-9, `-`, `_`, `.` and `@`\n"
unfolding shown_name chars encode digits
name_line = refl

document_line : finding_line (codes "site.toml") None None (fault place.Document (codes "cache") (what.MustBe (kind.Integer 4096)))
    ≡ codes "site.toml: `cache` must be an integer from 1 to 4096\n"
unfolding shown_name chars encode digits
document_line = refl
