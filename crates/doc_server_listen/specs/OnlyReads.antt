-- Steps that only read.
use Rattle.std.specs.Prelude.{◌≡◌, ℕ, List, true, ⊤, IfSome, Result}
use Rattle.std.specs.FinMap as map
use Rattle.doc_http.specs.Requests.{IsNext}
use Rattle.doc_http.specs.declared.request.Next.{Next}
use Rattle.doc_http.specs.declared.request.Next.TheVariants as nexts
use Rattle.doc_hub.specs.Replies.{Renders, method_of, reads}
use Rattle.doc_hub_events.specs.Events.{step_on}
use Rattle.doc_hub_events.specs.declared.event.ConnId.{ConnId}
use Rattle.doc_hub_events.specs.declared.event.Step.{Step}
use Rattle.doc_hub_events.specs.declared.refusal.StepError.{StepError}
use Rattle.doc_hub.specs.Runs.{Happens}
use Rattle.doc_hub.specs.Worlds.{World}
use Rattle.doc_server_listen.specs.Sites.{IsSameSite}

-- a request only reads by its method: GET and HEAD, which are safe (RFC 9110, section 9.2.1); what is no request reads nothing
abbrev pub ReadsOnly : Next → Type 0
ReadsOnly (nexts.Request used request) = reads (method_of request.method) ≡ true
ReadsOnly next = ⊤

-- unread bytes begin with a request that only reads, or with none
abbrev pub OnlyReads : List ℕ → Type 0
OnlyReads unread = (next : Next) → IsNext unread next → ReadsOnly next

-- the next step on a connection is of a request that only reads, or of none
abbrev pub StepOnlyReads : World → ℕ → Type 0
StepOnlyReads w id = IfSome (map.get w.connections id) (λ c. OnlyReads c.unread)

-- such a step leaves the site as it was, whatever comes of it
abbrev pub StepsThatReadLeaveTheSite : Type 0
StepsThatReadLeaveTheSite =
    (render : Renders) (w v : World) (id : ConnId) (result : Result Step StepError) → Happens render w (step_on id) v result
    → StepOnlyReads w id.0 → IsSameSite w v
