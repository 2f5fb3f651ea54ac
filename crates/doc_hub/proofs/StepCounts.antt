-- How often a step renders, by what it met.
use Rattle.std.proofs.Common.{◌≡◌, ℕ, List, Bool, false, refl, ap, sym, ◌∙◌, subst}
use Rattle.std.specs.Prelude.{MatchBool, Option, Some, None, Ok, option_map}
use Rattle.std.specs.FinMap as map
use Rattle.doc_store.specs.declared.site_edit.SiteEdit.{SiteEdit}
use Rattle.doc_store_readers.specs.Pages.{Page}
use Rattle.doc_store_readers.specs.Sites.{Site, view_of}
use Rattle.doc_media.specs.Media.{beside_of}
use Rattle.doc_http.specs.Requests.{IsNext}
use Rattle.doc_http.specs.declared.request.Request.{Request}
use Rattle.doc_http.specs.declared.request.Next.{Next}
use Rattle.doc_http.specs.declared.request.Next.TheVariants as nexts
use Rattle.doc_hub_replies.specs.Counts.{RendersPuts, moves_of, previews_of}
use Rattle.doc_hub_replies.specs.Replies.{Renders}
use Rattle.doc_hub_replies.specs.Answer.{Answer}
use Rattle.doc_hub_replies.specs.Edit.{Edit}
use Rattle.doc_hub_replies.specs.Edit.TheVariants as edits
use Rattle.doc_hub_replies.specs.Answers.{shows_preview}
use Rattle.doc_hub.specs.Counts.{Counted, StepPreviews, moves_in_edit, previews_by}
use Rattle.doc_hub.specs.EditLaws.{StepMakes, edit_by, site_edit, with_groups}
use Rattle.doc_hub_events.specs.Events.{step_on, stepping}
use Rattle.doc_hub.specs.Worlds.{World, answer_in, asking_of, reader_of}
use Rattle.doc_hub.specs.declared.connection.Connection.{Connection}
use Rattle.doc_hub_events.specs.declared.event.ConnId.{ConnId}
use Rattle.doc_hub_events.specs.declared.event.Step.{Step}
use Rattle.doc_hub.proofs.CountSteps.{quiet}

-- ---- moves

regroupings_move_nothing : (path : List ℕ) (groups : List (List ℕ)) (found : Option Page)
    → 0 ≡ moves_in_edit (option_map (with_groups path groups) found)
regroupings_move_nothing path groups None = refl
regroupings_move_nothing path groups (Some page) = refl

-- the edit of a request is as many moves as that of the site
same_moves : (site : Site) (text : List ℕ) (edit : Option Edit) → moves_of edit ≡ moves_in_edit (site_edit site text edit)
same_moves site text None = refl
same_moves site text (Some (edits.Put path groups)) = refl
same_moves site text (Some (edits.Regroup path groups)) = regroupings_move_nothing path groups (map.get site.pages path)
same_moves site text (Some (edits.Move from to)) = refl
same_moves site text (Some (edits.Remove path)) = refl

-- ---- an open connection, by what its unread bytes begin with

module _ (render : Renders) (rendered rendered' : ℕ) (w v : World) (id : ConnId) (c : Connection)
    (found : Some c ≡ map.get w.connections id.0) where
  module _ (is_open : c.closed ≡ false) (next : Next) (begins : IsNext c.unread next) where
    open_makes : (edit : Option SiteEdit) → edit ≡ edit_by render w next → StepMakes render w (map.get w.connections id.0) edit
    open_makes edit is =
        let Of : Bool → Type 0 = λ closed. MatchBool closed (edit ≡ None) ((next : Next) × IsNext c.unread next
        × (edit ≡ edit_by render w next)) in
        subst (λ k. StepMakes render w k edit) found (subst Of (sym is_open) (next, begins, is))

    open_shows : (previews : ℕ) → previews ≡ previews_by w next → StepPreviews w (map.get w.connections id.0) previews
    open_shows previews is =
        let Of : Bool → Type 0 = λ closed. MatchBool closed (previews ≡ 0) ((next : Next) × IsNext c.unread next
        × (previews ≡ previews_by w next)) in
        subst (λ k. StepPreviews w k previews) found (subst Of (sym is_open) (next, begins, is))

    -- no request: nothing yet, or a fault
    pub no_request_counts : (said : Step) → None ≡ edit_by render w next → 0 ≡ previews_by w next → rendered' ≡ rendered
        → v.puts ≡ w.puts
        → Counted render rendered w rendered' v (step_on id) (stepping (Ok said))
    no_request_counts said none nothing same stay =
        quiet render rendered rendered' w v (step_on id) (stepping (Ok said)) (open_makes None none) (open_shows 0 nothing) same stay

    -- a step that counts so many moves and previews
    open_counts : (said : Step) (moves previews : ℕ) → moves ≡ moves_in_edit (edit_by render w next) → previews ≡ previews_by w next
        → RendersPuts rendered w.puts rendered' v.puts moves previews
        → Counted render rendered w rendered' v (step_on id) (stepping (Ok said))
    open_counts said moves previews moved shown renders ran = (
      moves,
      previews,
      record {
        edit = edit_by render w next;
        made = open_makes (edit_by render w next) refl;
        moved = moved;
        shown = open_shows previews shown;
      },
      renders,
    )

  -- a request, by its answer
  pub request_counts : c.closed ≡ false → (used : ℕ) (request : Request) → IsNext c.unread (nexts.Request used request) → (answer : Answer)
      → answer ≡ answer_in render w request → (said : Step)
      → RendersPuts rendered w.puts rendered' v.puts (moves_of answer.edit) (previews_of (shows_preview w.settings.browse
      (view_of w.site (reader_of w request)) (beside_of w.media (reader_of w request)) (asking_of w request) request))
      → Counted render rendered w rendered' v (step_on id) (stepping (Ok said))
  request_counts is_open used request begins answer is said renders =
      open_counts is_open (nexts.Request used request) begins said (moves_of answer.edit)
      (previews_of (shows_preview w.settings.browse (view_of w.site (reader_of w request)) (beside_of w.media (reader_of w request))
      (asking_of w request) request))
      (same_moves w.site request.body answer.edit ∙ ap (λ (a : Answer). moves_in_edit (site_edit w.site request.body a.edit)) is) refl
      renders
