-- What serving does to a hub, whose runs are those of `doc_server_turns`.
use Rattle.std.specs.Prelude.{◌≡◌, ⊤, ℕ, List, [], All, Contains, Option, Some}
use Rattle.doc_hub.specs.Replies.{Renders}
use Rattle.doc_hub_events.specs.declared.event.Event.{Event}
use Rattle.doc_hub_events.specs.declared.event.Event.TheVariants as events
use Rattle.doc_hub_events.specs.declared.event.ReaderEdit.TheVariants as reader_edits
use Rattle.doc_hub.specs.Worlds.{World}
use Rattle.doc_server_network.specs.Reloads.{IsOnTheWay}
use Rattle.doc_server_serving.specs.declared.given.Configuration.{Configuration}
use Rattle.doc_server_serving.specs.declared.given.Given.{Given}
use Rattle.doc_server_serving.specs.declared.given.Given.TheVariants as givens
use Rattle.doc_server_turns.specs.QuietRuns.{IsOfPeers, LeadsBy}
use Rattle.doc_store.specs.declared.site_edit.SiteEdit.{SiteEdit}

-- the readers of a configuration, all at once, or its media; or an edit on the way to what a start over its pages would serve
abbrev pub IsOfConfiguration : Configuration → Event → Type 0
IsOfConfiguration given (events.Reader (reader_edits.All readers)) = readers ≡ given.readers
IsOfConfiguration given (events.SetMedia media) = media ≡ given.media
IsOfConfiguration given (events.Site edit) = IsOnTheWay given.pages edit
IsOfConfiguration given event = ⊥

-- an edit of the site
abbrev pub IsEdit : Event → Type 0
IsEdit (events.Site edit) = ⊤
IsEdit event = ⊥

-- an event of what is given: records are followed by edits
abbrev pub IsOfGiven : Given → Event → Type 0
IsOfGiven (givens.Configuration given) event = IsOfConfiguration given event
IsOfGiven (givens.Records texts) event = IsEdit event

-- an event of peers, or of what somebody who was asked has answered
abbrev pub IsOfServer : (Option Given → Type 0) → Event → Type 0
IsOfServer answered (events.Reader edit) =
    (given : Given) × answered (Some given) × IsOfGiven given (events.Reader edit)
IsOfServer answered (events.Site edit) = (given : Given) × answered (Some given) × IsOfGiven given (events.Site edit)
IsOfServer answered (events.SetMedia media) = (given : Given) × answered (Some given) × IsOfGiven given (events.SetMedia media)
IsOfServer answered event = IsOfPeers event

-- an event of peers, or one of some edits of the site
abbrev pub IsOfLead : List SiteEdit → Event → Type 0
IsOfLead edits (events.Site edit) = Contains edits edit
IsOfLead edits event = IsOfPeers event

-- an event of peers, or the readers or the media of a configuration, or an edit on the way to it
abbrev pub IsOfReload : Configuration → Event → Type 0
IsOfReload given (events.Reader edit) = IsOfConfiguration given (events.Reader edit)
IsOfReload given (events.Site edit) = IsOfConfiguration given (events.Site edit)
IsOfReload given (events.SetMedia media) = IsOfConfiguration given (events.SetMedia media)
IsOfReload given event = IsOfPeers event

abbrev pub LeadsWith : (Option Given → Type 0) → Renders → World → World → Type 0
LeadsWith answered render w v = LeadsBy (IsOfServer answered) render w v

-- each answer before was given behind it
abbrev pub StayAnswered : (Option Given → Type 0) → (Option Given → Type 0) → Type 0
StayAnswered old new = (answer : Option Given) → old answer → new answer
