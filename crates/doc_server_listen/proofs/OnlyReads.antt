-- Steps that only read tell no edit, and leave the site as it was.
use Rattle.std.proofs.Common.{◌≡◌, ℕ, List, Bool, true, false, refl, ap, ◌∙◌, subst}
use Rattle.std.specs.Prelude.{MatchBool, Option, Some, None, IfSome, Result, Ok, Err}
use Rattle.std.specs.FinMap as map
use Rattle.doc_store.specs.Store.{StoreState}
use Rattle.doc_http.specs.Requests.{IsNext}
use Rattle.doc_http.specs.declared.request.Next.{Next}
use Rattle.doc_http.specs.declared.request.Next.TheVariants as nexts
use Rattle.doc_http.proofs.LawLemmas.{read_in_one_way}
use Rattle.doc_hub.specs.Edits.{store_after}
use Rattle.doc_hub.specs.Replies.{Renders}
use Rattle.doc_hub.specs.Edit.{Edit}
use Rattle.doc_hub_events.specs.declared.event.Step.{Step}
use Rattle.doc_hub_events.specs.declared.event.Step.TheVariants as steps
use Rattle.doc_hub_events.specs.declared.refusal.StepError.{StepError}
use Rattle.doc_hub_events.specs.declared.refusal.StepError.TheVariants as step_errors
use Rattle.doc_hub.specs.StepEdits.{StepTells, TellsAt, edit_of_step}
use Rattle.doc_hub.specs.Worlds.{World, Answers, Stays, StepsAt, stepped_by, store_of}
use Rattle.doc_hub.specs.declared.connection.Connection.{Connection}
use Rattle.doc_server_listen.specs.OnlyReads.{OnlyReads, ReadsOnly, StepOnlyReads, StepsThatReadLeaveTheSite}
use Rattle.doc_server_listen.specs.Sites.{IsSameSite}
use Rattle.doc_server_listen.proofs.Counting.{by_equation}
use Rattle.doc_server_listen.proofs.Reading.{reading_edits_nothing}

-- what bytes begin with is one thing
pub begins_so : (bytes : List ℕ) (found : Next) → IsNext bytes found → ReadsOnly found → OnlyReads bytes
begins_so bytes found begins only next is = subst ReadsOnly (read_in_one_way bytes found next begins is) only

-- ---- the edit that a step tells

module _ (render : Renders) (w : World) where
  next_rests : (next : Next) → ReadsOnly next → edit_of_step render w next ≡ None
  next_rests nexts.More only = refl
  next_rests (nexts.Fault code bare) only = refl
  next_rests (nexts.Request used request) only = reading_edits_nothing render w request only

  open_rests : (c : Connection) (told : Option Edit) (closed : Bool) → OnlyReads c.unread
      → MatchBool closed (told ≡ None) ((next : Next) × IsNext c.unread next × (told ≡ edit_of_step render w next)) → told ≡ None
  open_rests c told true only none = none
  open_rests c told false only (next, begins, tells) = tells ∙ next_rests next (only next begins)

  rests_at : (told : Option Edit) (k : Option Connection) → TellsAt render w k told → IfSome k (λ c. OnlyReads c.unread) → told ≡ None
  rests_at told None none only = none
  rests_at told (Some c) tells only = open_rests c told c.closed only tells

-- a step that only reads tells no edit
pub reading_tells_none : (render : Renders) (w : World) (id : ℕ) (told : Option Edit) → StepTells render w id told → StepOnlyReads w id
    → told ≡ None
reading_tells_none render w id told tells only = rests_at render w told (map.get w.connections id) tells only

-- ---- the site

module _ (render : Renders) (w v : World) (n : ℕ) where
  as_before : v ≡ w → IsSameSite w v
  as_before is = record {
    site = ap (λ (x : World). x.site) is;
    media = ap (λ (x : World). x.media) is;
    puts = ap (λ (x : World). x.puts) is;
    readers = ap (λ (x : World). x.readers) is;
  }

  next_leaves : (c : Connection) (next : Next) → ReadsOnly next → IsSameSite w (stepped_by render w n c next).0
  next_leaves c nexts.More only = record { site = refl; media = refl; puts = refl; readers = refl }
  next_leaves c (nexts.Fault code bare) only = record { site = refl; media = refl; puts = refl; readers = refl }
  next_leaves c (nexts.Request used request) only =
      let store = ap (store_after (store_of w) request.body) (reading_edits_nothing render w request only) in record {
        site = ap (λ (s : StoreState). s.site) store;
        media = refl;
        puts = ap (λ (s : StoreState). s.puts) store;
        readers = refl;
      }

  answers_leave : (c : Connection) (r : Result Step StepError) → OnlyReads c.unread → Answers render w n v r c → IsSameSite w v
  answers_leave c (Ok said) only (next, begins, is) =
      by_equation (IsSameSite w) (stepped_by render w n c next) v (Ok said) (next_leaves c next (only next begins)) is
  answers_leave c (Err step_errors.NoConnection) only (next, begins, is) =
      by_equation (IsSameSite w) (stepped_by render w n c next) v (Err step_errors.NoConnection) (next_leaves c next (only next begins)) is
  answers_leave c (Err step_errors.Memory) only h = as_before h.0

  open_leaves : (c : Connection) (r : Result Step StepError) (closed : Bool) → OnlyReads c.unread
      → MatchBool closed (Stays w (Ok steps.Closed) v r) (Answers render w n v r c) → IsSameSite w v
  open_leaves c r true only h = as_before h.0
  open_leaves c r false only h = answers_leave c r only h

  step_leaves : (k : Option Connection) (r : Result Step StepError) → IfSome k (λ c. OnlyReads c.unread) → StepsAt render w n v r k
      → IsSameSite w v
  step_leaves None r only h = as_before h.0
  step_leaves (Some c) r only h = open_leaves c r c.closed only h

pub steps_that_read_leave_the_site : StepsThatReadLeaveTheSite
steps_that_read_leave_the_site render w v id result h only =
    step_leaves render w v id.0 (map.get w.connections id.0) result only h
