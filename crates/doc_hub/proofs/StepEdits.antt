-- The edit that a step tells is the one that it makes.
use Rattle.std.proofs.Common.{◌≡◌, ℕ, List, Bool, true, false, cond, refl, ap, sym, ◌∙◌, subst}
use Rattle.std.specs.Prelude.{MatchBool, Option, Some, None, Result, Ok}
use Rattle.std.specs.FinMap as map
use Rattle.doc_store_readers.proofs.KeySteps.{get_set, same_itself}
use Rattle.doc_store_readers.specs.Pages.{Page}
use Rattle.doc_store_readers.specs.Sites.{Site, view_of}
use Rattle.doc_media.specs.Media.{beside_of}
use Rattle.doc_store.specs.Store.{effect_of, set_page}
use Rattle.doc_http.specs.Requests.{IsNext}
use Rattle.doc_http.specs.declared.request.Request.{Request}
use Rattle.doc_http.specs.declared.request.Next.{Next}
use Rattle.doc_http.specs.declared.request.Next.TheVariants as nexts
use Rattle.doc_http.proofs.LawLemmas.{read_in_one_way}
use Rattle.doc_hub_replies.specs.Edits.{CanBeMade, CanRegroup, puts_taken, regrouped, store_after}
use Rattle.doc_hub_replies.proofs.TakingLaws.{no_edit_is_made}
use Rattle.doc_hub_replies.specs.Replies.{Renders}
use Rattle.doc_hub.specs.StepEdits.{Changes, NoStepEdits, StepTells, StepsChange, TellsAt, WasRegrouped, edit_of_step}
use Rattle.doc_hub.specs.Worlds.{World, Answers, Stays, StepsAt, answer_in, asking_of, reader_of, stepped_by, store_of}
use Rattle.doc_hub.specs.declared.connection.Connection.{Connection}
use Rattle.doc_hub_events.specs.declared.event.Step.{Step}
use Rattle.doc_hub_events.specs.declared.event.Step.TheVariants as steps
use Rattle.doc_hub_events.specs.declared.refusal.StepError.{StepError}
use Rattle.doc_hub_replies.specs.Answer.{Answer}
use Rattle.doc_hub_replies.specs.Edit.{Edit}
use Rattle.doc_hub_replies.specs.Edit.TheVariants as edits
use Rattle.doc_hub.proofs.AnswersFree.{answer_stays_free}
use Rattle.doc_hub.proofs.Apart.{StaysFree}
use Rattle.doc_hub.proofs.AnswerEdits.{answer_can_be_made}
use Rattle.doc_hub.proofs.SiteLaws.{made_site, refused_step}

module _ (render : Renders) (w v : World) where
  -- a page that was put stands
  stands_there : (path : List ℕ) (page : Page) → v.site ≡ effect_of w.site (set_page path page) → map.get v.site.pages path ≡ Some page
  stands_there path page site =
      ap (λ (s : Site). map.get s.pages path) site ∙ get_set w.site.pages path page path
      ∙ ap (λ t. cond t (Some page) (map.get w.site.pages path)) (same_itself path)

  regroup_changes : (path : List ℕ) (groups : List (List ℕ)) (found : Option Page) → map.get w.site.pages path ≡ found
      → CanRegroup (store_of w) path found → v.site ≡ (regrouped (store_of w) path groups found).site
      → WasRegrouped w v path groups
  regroup_changes path groups None stood can site = absurd can
  regroup_changes path groups (Some page) stood can site = record {
    page = page;
    stood = stood;
    stands = stands_there path (record page { groups = groups }) site;
    fits = can;
    site = site;
  }

  -- the store's edit, which can be made
  edit_changes : (text : List ℕ) (edit : Option Edit) → CanBeMade (store_of w) text edit → StaysFree w.media edit
      → v.site ≡ (store_after (store_of w) text edit).site
      → Changes w edit v
  edit_changes text None can apart site = site
  edit_changes text (Some (edits.Put path groups)) can apart site = let page : Page = record { groups = groups; text = text } in record {
    page = page;
    for_groups = refl;
    stands = stands_there path page site;
    fits = can.1;
    apart = apart;
    site = site;
  }
  edit_changes text (Some (edits.Regroup path groups)) can apart site =
      regroup_changes path groups (map.get w.site.pages path) refl can site
  edit_changes text (Some (edits.Move from to)) can apart site =
      record { stood = can.stands; free = can.free; apart = apart; site = site }
  edit_changes text (Some (edits.Remove path)) can apart site =
      record { stood = can; site = site ∙ made_site (store_of w) text (Some (edits.Remove path)) can }

  next_changes : (n : ℕ) (c : Connection) (next : Next) → v.site ≡ (stepped_by render w n c next).0.site
      → Changes w (edit_of_step render w next) v
  next_changes n c nexts.More site = site
  next_changes n c (nexts.Fault code bare) site = site
  next_changes n c (nexts.Request used request) site =
      edit_changes request.body (answer_in render w request).edit
      (answer_can_be_made w.takes_puts render w.settings w.media (store_of w) (asking_of w request) request)
      (answer_stays_free render w request) site

  open_changes : (n : ℕ) (c : Connection) (said : Step) (edit : Option Edit) (closed : Bool)
      → MatchBool closed (Stays w (Ok steps.Closed) v (Ok said)) (Answers render w n v (Ok said) c)
      → MatchBool closed (edit ≡ None) ((next : Next) × IsNext c.unread next × (edit ≡ edit_of_step render w next)) → Changes w edit v
  open_changes n c said edit true h told = subst (λ e. Changes w e v) (sym told) (ap (λ (x : World). x.site) h.0)
  open_changes n c said edit false (next, begins, is) (other, also, told) =
      subst (λ e. Changes w e v) (ap (edit_of_step render w) (read_in_one_way c.unread next other begins also) ∙ sym told)
      (next_changes n c next (sym (ap (λ (q : World × Result Step StepError). q.0.site) is)))

  at_changes : (n : ℕ) (said : Step) (edit : Option Edit) (k : Option Connection) → StepsAt render w n v (Ok said) k
      → TellsAt render w k edit → Changes w edit v
  at_changes n said edit None h told = subst (λ e. Changes w e v) (sym told) (ap (λ (x : World). x.site) h.0)
  at_changes n said edit (Some c) h told = open_changes n c said edit c.closed h told

-- the edit of the answer to a request is that of the step
pub step_tells : (first render : Renders) (u w : World) → first ≡ render → u ≡ w → (id : ℕ) (c : Connection)
    → Some c ≡ map.get u.connections id → c.closed ≡ false → (used : ℕ) (request : Request) → IsNext c.unread (nexts.Request used request)
    → (answer : Answer) → answer ≡ answer_in first u request → (edit : Option Edit) → edit ≡ answer.edit → StepTells render w id edit
step_tells first render u w same also id c found is_open used request begins answer answer_is edit edit_is =
    let next : Next = nexts.Request used request in
    let Of : Bool → Type 0 = λ closed. MatchBool closed (edit ≡ None) ((next : Next) × IsNext c.unread next
    × (edit ≡ edit_of_step first u next)) in
    let here = subst (λ k. TellsAt first u k edit) found
    (subst Of (sym is_open) (next, begins, edit_is ∙ ap (λ (a : Answer). a.edit) answer_is)) in
    subst (λ r. StepTells r w id edit) same (subst (λ x. StepTells first x id edit) also here)

pub steps_change : StepsChange
steps_change = record {
  answered = λ render w v id said edit h told. at_changes render w v id.0 said edit (map.get w.connections id.0) h told;
  refused = λ render w v id e h. refused_step render w v id.0 e (map.get w.connections id.0) h;
}

-- ---- where no edits are taken

module _ (render : Renders) (w : World) (off : w.settings.takes_edits ≡ false) where
  next_edits_nothing : (next : Next) → edit_of_step render w next ≡ None
  next_edits_nothing nexts.More = refl
  next_edits_nothing (nexts.Fault code bare) = refl
  next_edits_nothing (nexts.Request used request) =
      no_edit_is_made w.settings render (view_of w.site (reader_of w request)) (beside_of w.media (reader_of w request)) (asking_of w request)
      (puts_taken w.takes_puts w.puts) request off

  open_edits_nothing : (c : Connection) (edit : Option Edit) (closed : Bool)
      → MatchBool closed (edit ≡ None) ((next : Next) × IsNext c.unread next × (edit ≡ edit_of_step render w next)) → edit ≡ None
  open_edits_nothing c edit true told = told
  open_edits_nothing c edit false (next, begins, is) = is ∙ next_edits_nothing next

  at_edits_nothing : (k : Option Connection) (edit : Option Edit) → TellsAt render w k edit → edit ≡ None
  at_edits_nothing None edit told = told
  at_edits_nothing (Some c) edit told = open_edits_nothing c edit c.closed told

pub no_step_edits : NoStepEdits
no_step_edits render w id edit off told = at_edits_nothing render w off (map.get w.connections id) edit told
