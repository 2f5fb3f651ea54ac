-- What a reload leaves of replies.
use Rattle.std.proofs.Common.{◌≡◌, Bool, refl, ap, sym, subst, ◌∙◌}
use Rattle.std.proofs.lemmas.List.Elements.{All-head, All-tail}
use Rattle.std.specs.Prelude.{Result, Ok, Err}
use Rattle.doc_page_parts.specs.Refusals.{Gives}
use Rattle.doc_media.specs.Media.{Media}
use Rattle.doc_store.specs.Store.{StoreState}
use Rattle.doc_store.specs.declared.moving.MoveError.TheVariants as move_errors
use Rattle.doc_store.specs.declared.site_edit.SiteEdit.{SiteEdit}
use Rattle.doc_store.specs.declared.site_edit.SiteEdit.TheVariants as site_edits
use Rattle.doc_store.specs.declared.store.EditError.TheVariants as edit_errors
use Rattle.doc_http.specs.declared.request.Request.{Request}
use Rattle.doc_http.specs.declared.request.Next.TheVariants as nexts
use Rattle.doc_hub.specs.Replies.{Renders}
use Rattle.doc_hub_events.specs.Events.{Said, SaidSite}
use Rattle.doc_hub_events.specs.declared.event.Event.{Event}
use Rattle.doc_hub_events.specs.declared.event.Event.TheVariants as events
use Rattle.doc_hub.specs.Runs.{Happened, Happens, HappensSite, nothing, first}
use Rattle.doc_hub.specs.StepLaws.{Agree, AnswersAlike, StepsAlike}
use Rattle.doc_hub.specs.Worlds.{World, store_of, with_media, with_store, world_moved, world_put}
use Rattle.doc_server_reload.specs.ReplyLaws.{HiddenReloadsChangeNoReply, IsSiteEdit, SeesTheSame, SeesTheSameMedia}
use Rattle.doc_server_reload.specs.ReplyLaws.{SiteEditsLeaveTheRest, TakesTheSame}

-- ---- replies

-- a world with another store and other media agrees with it for a request of whoever may see the same
agrees : (w : World) (store : StoreState) (media : Media) (request : Request) → SeesTheSame w store request
    → SeesTheSameMedia w media request → TakesTheSame w store request → Agree w (with_media (with_store w store) media) request
agrees w store media request sees beside takes =
    record { settings = refl; asking = refl; sites = sees; beside = beside; puts = takes }

pub hidden_reloads_change_no_reply : AnswersAlike → StepsAlike → HiddenReloadsChangeNoReply
hidden_reloads_change_no_reply answers steps = record {
  answers = λ render w store media request sees beside takes.
      answers render w (with_media (with_store w store) media) request (agrees w store media request sees beside takes);
  steps = λ render w w' v' store media c used request said told sees beside takes begins here there.
      steps render w (with_media (with_store w store) media) w' v' c c (nexts.Request used request) said told begins
      (record { unread = begins.unread; stands = begins.stands; begins = begins.begins }) (agrees w store media request sees beside takes)
      here there;
}

-- ---- edits of the site

abbrev HasStoreOf : World → World → Type 0
HasStoreOf w v = v ≡ with_store w (store_of v)

by_gives : {X E : Type 0} (memory : E) (w v : World) (given : World × Result X E) (r : Result X E) → HasStoreOf w given.0
    → Gives memory given w v r → HasStoreOf w v
by_gives {X = X} {E = E} memory w v given (Ok x) has gives = subst (λ (q : World × Result X E). HasStoreOf w q.0) gives has
by_gives memory w v given (Err e) has gives = subst (HasStoreOf w) (sym gives.1) refl

pub one_leaves : (w v : World) (edit : SiteEdit) (said : SaidSite edit) → HappensSite w edit v said → HasStoreOf w v
one_leaves w v (site_edits.Put path groups text) said h = by_gives edit_errors.Memory w v (world_put w path groups text) said refl h
one_leaves w v (site_edits.Remove path) said h = subst (λ (q : World × Bool). HasStoreOf w q.0) h refl
one_leaves w v (site_edits.Move from to) said h = by_gives move_errors.Memory w v (world_moved w from to) said refl h

event_leaves : (render : Renders) (w v : World) (event : Event) (edit : SiteEdit) (said : Said event) → event ≡ events.Site edit
    → Happens render w event v said → HasStoreOf w v
event_leaves render w v event edit said is h =
    subst (λ e. (s : Said e) → Happens render w e v s → HasStoreOf w v) (sym is) (one_leaves w v edit) said h

-- all but the store is as before each of the edits, and so before them all
pub site_edits_leave_the_rest : SiteEditsLeaveTheRest
site_edits_leave_the_rest render w v run (nothing x) are = refl
site_edits_leave_the_rest render w v run (first x y z event outcome rest leaves runs) are =
    let here : Happened = record { world = x; event = event; outcome = outcome } in
    let one = All-head IsSiteEdit here rest are in
    let this = event_leaves render x y event one.0 leaves.0 one.1 leaves.1 in
    site_edits_leave_the_rest render y z rest runs (All-tail IsSiteEdit here rest are)
    ∙ ap (λ mid. with_store mid (store_of z)) this
