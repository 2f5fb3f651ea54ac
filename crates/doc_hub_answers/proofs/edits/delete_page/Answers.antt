use Rattle.std.proofs.Common.{Some, true, false, ap, sym, refl, ◌∙◌}
use Rattle.std.specs.FinMap as map
use Rattle.doc_store.specs.Store.{StoreState}
use Rattle.doc_store_readers.specs.Sites.{view_of}
use Rattle.doc_hub_answers.specs.Replies.{delete_at, refused}
use Rattle.doc_hub_answers.specs.declared.edit.Edit.TheVariants as edits
use Rattle.doc_hub_answers.proofs.AnswerSteps.{sent_alone, sent_edited}
use Rattle.doc_hub_answers.proofs.PutSteps.{deleted}
use Rattle.doc_hub_answers.proofs.edits.delete_page.Goals as goal

pub returns-then-not-stands-clause-answer : goal.returns-then-not-stands-clause-answer
returns-then-not-stands-clause-answer g c reader owns =
    let view = view_of c.args.shelf.now.1.site (Some reader) in
    sent_alone c.args.exchange.now c.args.shelf.now.1 c.args.shelf.now.1 c.args.exchange.now.request.now.body (refused 404) _
    c.status-then-not-stands.result c.status-then-not-stands.ensures
    (deleted c.args.shelf.now.1 reader c.in-Some.path owns false
    (sym c.if-not-stands.true ∙ c.stands.ensures ∙ ap (λ (s : StoreState). map.contains_key s.site.pages c.in-Some.path)
    c.store.ensures)
    ∙ ap (delete_at view) (sym c.in-Some.is ∙ c.in_ok-path.ensures)) refl refl

pub returns-clause-answer : goal.returns-clause-answer
returns-clause-answer g c reader owns =
    let view = view_of c.args.shelf.now.1.site (Some reader) in
    sent_edited c.args.exchange.now c.args.shelf.now.1 c.remove.new.self.1 c.args.exchange.now.request.now.body c.in_ok-done.done
    c.after.result 204 (edits.Remove c.in-Some.path) _ c.in_ok-done.ensures c.after.ensures
    (deleted c.args.shelf.now.1 reader c.in-Some.path owns true
    (sym c.if-not-stands.false ∙ c.stands.ensures ∙ ap (λ (s : StoreState). map.contains_key s.site.pages c.in-Some.path)
    c.store.ensures)
    ∙ ap (delete_at view) (sym c.in-Some.is ∙ c.in_ok-path.ensures)) c.remove.ensures.store
