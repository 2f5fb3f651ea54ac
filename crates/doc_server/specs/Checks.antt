-- What the command `check` writes. All of this is this project's choice.
use Rattle.std.specs.Prelude.{◌≡◌, ℕ, List, [], ◌∷◌, Option, Result, Ok, Err}
use Rattle.std.specs.Option.{ok_or}
use Rattle.std.specs.Io.KnownBytes.{Appends, Keeps}
use Rattle.doc_hub.specs.Replies.{Renders}
use Rattle.doc_hub.specs.Worlds.{World, report_in}
use Rattle.doc_server_config.specs.declared.config.SiteConfig.{SiteConfig}
use Rattle.doc_server_streams.specs.Streams.{AppendsPrefix}
use Rattle.doc_server_streams.specs.declared.fault.Fault.{Fault}
use Rattle.doc_server_streams.specs.declared.fault.Fault.TheVariants as faults
use Rattle.doc_server.specs.Sites.{site_world}

-- the report of a token's reader in a world that may be none, or what stops the program
abbrev pub report_of : Renders → Result World Fault → List ℕ → Result (List ℕ) Fault
report_of render (Err fault) token = Err fault
report_of render (Ok w) token = ok_or (report_in render w token) faults.UnknownToken

-- the report of a token's reader in a configured site
abbrev pub site_report : Renders → SiteConfig → List (List ℕ) → List ℕ → Result (List ℕ) Fault
site_report render config texts token = report_of render (site_world config texts) token

-- the status that the command ends with: 0 where no link is broken
abbrev pub report_status : List ℕ → ℕ
report_status [] = 0
report_status (b ∷ rest) = 1

-- the output grows by the report, and the status is the report's
abbrev pub Checks : Renders → SiteConfig → List (List ℕ) → List ℕ → Option (List ℕ) → Option (List ℕ) → ℕ → Type 0
Checks render config texts token old new status =
    (report : List ℕ) × (site_report render config texts token ≡ Ok report) × (status ≡ report_status report) × Appends old new report

-- What stops the command, and what the output holds then. The output can't be written: it grows by a prefix of the report. Memory runs
-- out, there is no such site, or no reader has the token: nothing is written.
abbrev pub StopsCheck : Renders → SiteConfig → List (List ℕ) → List ℕ → Option (List ℕ) → Option (List ℕ) → Fault → Type 0
StopsCheck render config texts token old new faults.CannotWrite =
    (report : List ℕ) × (site_report render config texts token ≡ Ok report) × AppendsPrefix old new report
StopsCheck render config texts token old new faults.Memory = Keeps old new
StopsCheck render config texts token old new fault = (site_report render config texts token ≡ Err fault) × Keeps old new
