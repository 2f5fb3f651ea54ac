use Rattle.std.proofs.Common.{ap, ◌∙◌}
use Rattle.doc_http_replies.specs.Manners.{dress_of}
use Rattle.doc_shelf_documents.proofs.DocumentSteps.{making_is}
use Rattle.doc_shelf_documents.proofs.documents.make.Goals as goal
use Rattle.doc_shelf_documents.specs.Documents.{document_reply}

pub returns : goal.returns
returns g c =
    let manner = c.args.writing.manner in
    making_is (dress_of manner) manner.head_only manner.close c.args.kept.now (g.L.Linker.shown c.args.linker.now) c.args.path.now
    c.args.stamp c.in-Some.page.now c.in_ok-document.document c.in_ok-reply.reply c.in-Some.ensures c.in_ok-document.ensures
    (c.in_ok-reply.ensures
    ∙ ap (document_reply (dress_of manner) manner.head_only manner.close) (c.as_bytes-content.ensures.value ∙ c.get-2.ensures))
