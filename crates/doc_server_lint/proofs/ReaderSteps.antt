-- What is told of a reader, as it is added.
use Rattle.std.proofs.Common.{◌≡◌, ℕ, List, ◌++◌, true, ap, ◌∙◌}
use Rattle.std.specs.Prelude.{OnOk, Option, Some, option_map, Result, Ok, Err}
use Rattle.doc_store_readers.specs.declared.keys.Key.{Key}
use Rattle.doc_server_lint_faults.specs.declared.finding.Finding.{Finding}
use Rattle.doc_server_lint.specs.declared.known_readers.KnownReaders.{KnownReaders}
use Rattle.doc_server_lint_faults.specs.declared.place.Place.TheVariants as place
use Rattle.doc_server_lint_faults.specs.declared.what.What.{What}
use Rattle.doc_server_lint_faults.specs.declared.what.What.TheVariants.{TokenOf}
use Rattle.doc_server_lint.specs.Faults.{faults_of_key_again, known_as, naming_key}
use Rattle.doc_server_lint_faults.specs.TableFaults.{finding_of}

pub on_ok : {A E P : Type 0} (r : Result A E) → P → OnOk r P
on_ok (Ok x) p = p
on_ok (Err e) p = tt

-- where an earlier reader has the key
pub told_again : (known : KnownReaders) (n : ℕ) (found new : List Finding) (key : Option Key) (named : Key) (earlier : Option ℕ)
    (what : Option What) → Some named ≡ key → earlier ≡ known_as known named → what ≡ option_map TokenOf earlier
    → new ≡ found ++ finding_of true (place.Reader n) (Some (naming_key (Some named))) what
    → new ≡ found ++ faults_of_key_again known n key
told_again known n found new key named earlier what is same told adds =
    adds
    ∙ ap (λ (w : Option What). found ++ finding_of true (place.Reader n) (Some (naming_key (Some named))) w)
    (told ∙ ap (option_map TokenOf) same)
    ∙ ap (λ (k : Option Key). found ++ faults_of_key_again known n k) is
