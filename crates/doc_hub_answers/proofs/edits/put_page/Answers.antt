use Rattle.std.proofs.Common.{Some, sym, refl, ◌∙◌, subst, codes}
use Rattle.std.specs.Str.{IsUtf8}
use Rattle.doc_store_readers.specs.Groups.{groups_of}
use Rattle.doc_store_readers.specs.Sites.{view_of}
use Rattle.doc_http_targets.specs.Queries.{parameter}
use Rattle.doc_http_targets.specs.WrittenPaths.{path_written}
use Rattle.doc_hub_answers.specs.AnswerSteps.{Answered, AnsweredSo, sent_in}
use Rattle.doc_hub_answers.specs.Edits.{puts_taken}
use Rattle.doc_hub_answers.specs.Replies.{put_page, refused}
use Rattle.doc_hub_answers.proofs.AnswerSteps.{sent_alone}
use Rattle.doc_hub_answers.proofs.PutSteps.{ok_from, put_is_no_text, put_is_text}
use Rattle.doc_hub_answers.proofs.edits.put_page.Goals as goal

pub returns-in_default-from_utf8-clause-answer : goal.returns-in_default-from_utf8-clause-answer
returns-in_default-from_utf8-clause-answer g c reader owns =
    let old = c.args.shelf.now.1 in
    let request = c.args.exchange.now.request.now in
    let named = groups_of (parameter request.target (codes "groups")) in
    sent_alone c.args.exchange.now old old request.body (refused 400) _ c.status-in_default-from_utf8.result
    c.status-in_default-from_utf8.ensures
    (put_is_no_text (view_of old.site (Some reader)) (puts_taken c.args.exchange.now.takes_puts old.puts) (path_written c.args.rest.now) c.in-Some.path named
    c.in-Some-2.groups request.body (sym c.in_ok-path.ensures ∙ c.in-Some.is)
    (ok_from named c.in-Some-2.groups (sym c.in-Some-2.is ∙ c.in_ok-groups.ensures))
    (λ utf8. c.in_default-from_utf8.ensures.cases.0 (subst IsUtf8 (sym c.get.ensures) utf8))) refl refl

pub returns-clause-answer : goal.returns-clause-answer
returns-clause-answer g c reader owns =
    let old = c.args.shelf.now.1 in
    let exchange = c.args.exchange.now in
    let view = view_of old.site (Some reader) in
    let left = puts_taken c.args.exchange.now.takes_puts old.puts in
    let named = groups_of (parameter exchange.request.now.target (codes "groups")) in
    subst (λ response. Answered exchange old response c.put_text.new.shelf.1 c.put_text.result)
    (put_is_text view left (path_written c.args.rest.now) c.in-Some.path named c.in-Some-2.groups exchange.request.now.body
    (sym c.in_ok-path.ensures ∙ c.in-Some.is) (ok_from named c.in-Some-2.groups (sym c.in-Some-2.is ∙ c.in_ok-groups.ensures))
    (subst IsUtf8 c.get.ensures c.in-Ok.ensures.cases.1))
    (subst (λ text. AnsweredSo text old (sent_in exchange (put_page view left c.in-Some.path c.in-Some-2.groups text))
    c.put_text.new.shelf.1
    c.put_text.result) (c.in-Ok.ensures.cases.0 ∙ c.get.ensures) (c.put_text.ensures.answer reader owns))
