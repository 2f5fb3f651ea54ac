-- The edit that a step tells in a world of calls is as calls take it.
use Rattle.std.proofs.Common.{◌≡◌, ℕ, List, Bool, true, false, cond, refl, sym, subst}
use Rattle.std.specs.Prelude.{MatchBool, Option, Some, None}
use Rattle.std.specs.FinMap as map
use Rattle.doc_store_readers.proofs.ViewLaw.{page_at-view_of}
use Rattle.doc_store_readers.specs.Pages.{Page}
use Rattle.doc_store_readers.specs.Sites.{Site, View, may_see_at, page_at, view_of}
use Rattle.doc_store_readers.specs.declared.reader.Reader.{Reader}
use Rattle.doc_http.specs.Requests.{IsNext}
use Rattle.doc_http.specs.declared.request.Next.{Next}
use Rattle.doc_http.specs.declared.request.Next.TheVariants as nexts
use Rattle.doc_hub.specs.Edits.{puts_taken}
use Rattle.doc_hub.specs.Replies.{Renders}
use Rattle.doc_hub.specs.Edit.{Edit}
use Rattle.doc_hub.specs.Answers.{is_for_people}
use Rattle.doc_media.specs.Media.{Beside, beside_of}
use Rattle.doc_hub.proofs.AnswerEdits.{answer_holds}
use Rattle.doc_hub.specs.StepEdits.{TellsAt, edit_of_step}
use Rattle.doc_hub.specs.Worlds.{World, asking_of, reader_of}
use Rattle.doc_hub.specs.declared.connection.Connection.{Connection}
use Rattle.doc_server_kept.specs.KeptTurns.{IsOfCalls}
use Rattle.doc_server_kept.proofs.EditsRequested.{IsForGroups, edits_are}
use Rattle.doc_server_kept.proofs.PagesRequested.{response_is}
use Rattle.doc_server_kept.proofs.SitesOfCalls.{OfCalls}

-- a page that a view shows stands, so it is for groups
shown_groups : (site : Site) (reader : Option Reader) → IsOfCalls site → (path : List ℕ)
    → IsForGroups (page_at (view_of site reader).pages path)
shown_groups site reader is path =
    subst IsForGroups (sym (page_at-view_of site reader path))
    (by (may_see_at reader (map.get site.pages path)) (map.get site.pages path) refl)
  where
    by : (seen : Bool) (found : Option Page) → map.get site.pages path ≡ found → IsForGroups (cond seen found None)
    by true None stands = tt
    by true (Some page) stands = (is.pages path page stands).0
    by false found stands = tt

module _ (render : Renders) (w : World) (is : IsOfCalls w.site) where
  next_of_calls : (next : Next) → OfCalls (edit_of_step render w next)
  next_of_calls nexts.More = tt
  next_of_calls (nexts.Fault code bare) = tt
  next_of_calls (nexts.Request used request) =
      let reader : Option Reader = reader_of w request in
      let view : View = view_of w.site reader in
      let left : Bool = puts_taken w.takes_puts w.puts in
      let media : Beside = beside_of w.media reader in
      answer_holds OfCalls tt render view media (asking_of w request) left request (response_is render view media reader left request)
      (λ browse. edits_are view (shown_groups w.site reader is) left request render browse media (is_for_people request) (asking_of w request))
      w.settings

  open_of_calls : (c : Connection) (told : Option Edit) (closed : Bool)
      → MatchBool closed (told ≡ None) ((next : Next) × IsNext c.unread next × (told ≡ edit_of_step render w next)) → OfCalls told
  open_of_calls c told true none = subst OfCalls (sym none) tt
  open_of_calls c told false (next, begins, tells) = subst OfCalls (sym tells) (next_of_calls next)

  pub told_is : (told : Option Edit) (k : Option Connection) → TellsAt render w k told → OfCalls told
  told_is told None none = subst OfCalls (sym none) tt
  told_is told (Some c) tells = open_of_calls c told c.closed tells
