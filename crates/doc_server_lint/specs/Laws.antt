-- Laws of what a document tells.
use Rattle.std.specs.Prelude.{◌≡◌, ℕ, List, Bool, true, false, not, ◌&&◌, bytes_eq, codes, is_ok, Option, Some, None, option_map, Err}
use Rattle.std.specs.List.{find, list_all, list_any}
use Rattle.toml.specs.Data.{Members}
use Rattle.doc_store_readers.specs.declared.readers.ReadersError.TheVariants.{BadRow, Twice}
use Rattle.doc_server_config.specs.declared.config.ConfigError.TheVariants.{BadPage, BadReaders}
use Rattle.doc_server_config.specs.declared.folder.FolderFault.{FolderFault}
use Rattle.doc_server_config.specs.declared.listening.ListeningError.TheVariants.{BadFolder, BadName}
use Rattle.doc_server_config.specs.Browsing.{browse_of_document}
use Rattle.doc_server_config.specs.Configurations.{config_of_document}
use Rattle.doc_server_config.specs.Listenings.{listening_of_document}
use Rattle.doc_server_lint_faults.specs.declared.finding.Finding.{Finding}
use Rattle.doc_server_lint_faults.specs.declared.place.Place.{Place}
use Rattle.doc_server_lint_faults.specs.declared.place.Place.TheVariants.{Reader, Page, Folder}
use Rattle.doc_server_lint_faults.specs.declared.what.What.{What}
use Rattle.doc_server_lint_faults.specs.declared.what.What.TheVariants.{LongText, TokenOf}
use Rattle.doc_server_lint.specs.Findings.{findings_of}

-- whether all that `listen` reads of a document is taken, the names of its readers too
abbrev pub is_taken : Members → Bool
is_taken document =
    is_ok (config_of_document document) && (is_ok (listening_of_document document) && is_ok (browse_of_document document))

-- faults of the site that a configuration makes, and not of the configuration
abbrev pub is_of_site : What → Bool
is_of_site LongText = true
is_of_site other = false

-- whether a configuration is refused for a finding
abbrev pub is_refusal : Finding → Bool
is_refusal finding = finding.is_fault && not (is_of_site finding.what)

-- whether it is refused for none
abbrev pub is_clear : List Finding → Bool
is_clear found = list_all (λ finding. not (is_refusal finding)) found

-- a document of which no fault is told is taken
abbrev pub NoFaultIsTaken : Type 0
NoFaultIsTaken = (document : Members) → list_any (λ finding. finding.is_fault) (findings_of document) ≡ false → is_taken document ≡ true

-- a document is taken where it is refused for no finding, and only there
abbrev pub TakenIsClear : Type 0
TakenIsClear = (document : Members) → is_clear (findings_of document) ≡ is_taken document

-- ---- rows

-- the place of the first finding for which it is refused, of those that pass a test
abbrev pub first_refusal : (Finding → Bool) → List Finding → Option Place
first_refusal test found = option_map (λ finding. finding.place) (find (λ finding. is_refusal finding && test finding) found)

abbrev pub is_of_reader : Place → Bool
is_of_reader (Reader n) = true
is_of_reader other = false

abbrev pub is_of_page : Place → Bool
is_of_page (Page n) = true
is_of_page other = false

abbrev pub is_of_folder : Place → Bool
is_of_folder (Folder n) = true
is_of_folder other = false

-- the page for which a document is refused is the first of which a fault is told
abbrev pub BadPageIsTold : Type 0
BadPageIsTold = (document : Members) (n : ℕ) → config_of_document document ≡ Err (BadPage n)
    → first_refusal (λ finding. is_of_page finding.place) (findings_of document) ≡ Some (Page n)

-- and so is the folder
abbrev pub BadFolderIsTold : Type 0
BadFolderIsTold = (document : Members) (n : ℕ) (fault : FolderFault) → listening_of_document document ≡ Err (BadFolder n fault)
    → first_refusal (λ finding. is_of_folder finding.place) (findings_of document) ≡ Some (Folder n)

-- whether it is told of a name, which `listen` alone refuses, and behind all else of readers
abbrev pub is_of_name : Option (List ℕ) → Bool
is_of_name None = false
is_of_name (Some key) = bytes_eq key (codes "name")

-- where each row has a good token, the reader with the token of an earlier one is the first of which a fault is told, but of its name
abbrev pub TwiceIsTold : Type 0
TwiceIsTold = (document : Members) (n : ℕ) → config_of_document document ≡ Err (BadReaders (Twice n))
    → first_refusal (λ finding. is_of_reader finding.place && not (is_of_name finding.key)) (findings_of document) ≡ Some (Reader n)

-- whether what is told is that an earlier reader has the token
abbrev pub is_again : What → Bool
is_again (TokenOf n) = true
is_again other = false

-- the reader whose row is bad is the first of which anything else is told, but of its name: rows are looked at before their tokens are
-- compared
abbrev pub BadRowIsTold : Type 0
BadRowIsTold = (document : Members) (n : ℕ) → config_of_document document ≡ Err (BadReaders (BadRow n))
    → first_refusal (λ finding. is_of_reader finding.place && (not (is_of_name finding.key) && not (is_again finding.what)))
    (findings_of document)
    ≡ Some (Reader n)

-- the reader that is refused for its name is the first of whose name a fault is told
abbrev pub BadNameIsTold : Type 0
BadNameIsTold = (document : Members) (n : ℕ) → listening_of_document document ≡ Err (BadName n)
    → first_refusal (λ finding. is_of_reader finding.place && is_of_name finding.key) (findings_of document) ≡ Some (Reader n)
