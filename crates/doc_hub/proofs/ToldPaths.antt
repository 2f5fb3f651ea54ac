-- The edit that a step tells is at paths of pages.
use Rattle.std.proofs.Common.{◌≡◌, Bool, true, false, sym, subst}
use Rattle.std.specs.Prelude.{MatchBool, Option, Some, None}
use Rattle.doc_store_readers.specs.Sites.{view_of}
use Rattle.doc_http.specs.Requests.{IsNext}
use Rattle.doc_http.specs.declared.request.Next.{Next}
use Rattle.doc_http.specs.declared.request.Next.TheVariants as nexts
use Rattle.doc_hub_replies.specs.Edits.{puts_taken}
use Rattle.doc_hub_replies.specs.Replies.{Renders}
use Rattle.doc_hub_replies.specs.Edit.{Edit}
use Rattle.doc_hub_replies.specs.Answers.{is_for_people}
use Rattle.doc_media.specs.Media.{beside_of}
use Rattle.doc_hub.specs.StepEdits.{TellsAt, edit_of_step}
use Rattle.doc_hub.specs.Worlds.{World, asking_of, reader_of}
use Rattle.doc_hub.specs.declared.connection.Connection.{Connection}
use Rattle.doc_hub.proofs.AnswerEdits.{answer_holds}
use Rattle.doc_hub.proofs.EditingPaths.{edits_at_paths}
use Rattle.doc_hub.proofs.ResponsePaths.{AtPaths, response_at_paths}

module _ (render : Renders) (w : World) where
  next_at_paths : (next : Next) → AtPaths (edit_of_step render w next)
  next_at_paths nexts.More = tt
  next_at_paths (nexts.Fault code bare) = tt
  next_at_paths (nexts.Request used request) =
      answer_holds AtPaths tt render (view_of w.site (reader_of w request)) (beside_of w.media (reader_of w request)) (asking_of w request)
      (puts_taken w.takes_puts w.puts) request
      (response_at_paths render (view_of w.site (reader_of w request)) (beside_of w.media (reader_of w request)) (reader_of w request)
      (puts_taken w.takes_puts w.puts) request)
      (λ browse. edits_at_paths (view_of w.site (reader_of w request)) (puts_taken w.takes_puts w.puts) request
      (beside_of w.media (reader_of w request)) render browse (is_for_people request)
      (asking_of w request)) w.settings

  open_at_paths : (c : Connection) (told : Option Edit) (closed : Bool)
      → MatchBool closed (told ≡ None) ((next : Next) × IsNext c.unread next × (told ≡ edit_of_step render w next)) → AtPaths told
  open_at_paths c told true none = subst AtPaths (sym none) tt
  open_at_paths c told false (next, begins, tells) = subst AtPaths (sym tells) (next_at_paths next)

  pub told_at_paths : (told : Option Edit) (k : Option Connection) → TellsAt render w k told → AtPaths told
  told_at_paths told None none = subst AtPaths (sym none) tt
  told_at_paths told (Some c) tells = open_at_paths c told c.closed tells
