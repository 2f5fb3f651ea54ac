-- What the command `replay` writes: the outcomes of a run of the hub on a configured site. All of this is this project's choice.
use Rattle.std.specs.Prelude.{◌≡◌, ◌⊎◌, ℕ, List, [], ◌∷◌, ◌++◌, flat_map, codes, string_bytes, Option, Ok, Err}
use Rattle.std.specs.Io.KnownBytes.{Keeps}
use Rattle.doc_hub.specs.Replies.{Renders}
use Rattle.doc_hub.specs.Runs.{RunsAll}
use Rattle.doc_hub.specs.Worlds.{World}
use Rattle.doc_hub_events.specs.declared.event.Event.{Event}
use Rattle.doc_hub_events.specs.declared.outcome.Outcome.{Outcome}
use Rattle.doc_server_config.specs.declared.config.SiteConfig.{SiteConfig}
use Rattle.doc_server_script.specs.Outcomes.{outcome_line}
use Rattle.doc_server_streams.specs.Streams.{AppendsPrefix}
use Rattle.doc_server_streams.specs.Inputs.{OfText}
use Rattle.doc_server_streams.specs.declared.fault.Fault.{Fault}
use Rattle.doc_server_streams.specs.declared.fault.Fault.TheVariants as faults
use Rattle.doc_server_script.specs.Scripts.{events_of}
use Rattle.doc_server.specs.Sites.{site_world}

-- a line for each outcome, with its LF
abbrev pub outcome_lines : List Outcome → List ℕ
outcome_lines outcomes = flat_map (λ outcome. outcome_line outcome ++ 10 ∷ []) outcomes

-- All events of the script happen in a run from this world, and something holds of the lines of their outcomes.
abbrev pub RunTells : Renders → World → List ℕ → (List ℕ → Type 0) → Type 0
RunTells render w script Grows =
    (events : List Event) × (outcomes : List Outcome) × (v : World) × (events_of script ≡ Ok events) × RunsAll render events w v outcomes
    × Grows (outcome_lines outcomes)

-- there is a configured site, and something holds of its world
abbrev pub OfSite : SiteConfig → List (List ℕ) → (World → Type 0) → Type 0
OfSite config texts Holds = (w : World) × (site_world config texts ≡ Ok w) × Holds w

-- All events of the script, which the input had left, happen in a run from the world of the configured site.
abbrev pub Replays : Renders → SiteConfig → List (List ℕ) → Option (List ℕ) → (List ℕ → Type 0) → Type 0
Replays render config texts input Grows = OfSite config texts (λ w. OfText input (λ script. RunTells render w script Grows))

-- What stops the command, and what the output holds then. Standard input can't be read, or isn't UTF-8, or has a bad line, or there is
-- no such site: nothing is written. The output can't be written, or memory runs out: it grows by a prefix of the outcomes' lines.
abbrev pub StopsReplay : Renders → SiteConfig → List (List ℕ) → Option (List ℕ) → Option (List ℕ) → Option (List ℕ) → Fault → Type 0
StopsReplay render config texts input old new (faults.CannotRead called) =
    OfSite config texts (λ w. (string_bytes called ≡ codes "-") × Keeps old new)
StopsReplay render config texts input old new (faults.BadScriptLine line) =
    OfSite config texts (λ w. OfText input (λ script. (events_of script ≡ Err (faults.BadScriptLine line)) × Keeps old new))
StopsReplay render config texts input old new faults.CannotWrite = Replays render config texts input (AppendsPrefix old new)
StopsReplay render config texts input old new faults.Memory = Keeps old new ⊎ Replays render config texts input (AppendsPrefix old new)
StopsReplay render config texts input old new fault = (site_world config texts ≡ Err fault) × Keeps old new
