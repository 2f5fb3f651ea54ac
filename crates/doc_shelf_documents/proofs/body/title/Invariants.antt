use Rattle.std.proofs.Common.{◌≡◌, drop}
use Rattle.doc_shelf_pages.specs.Templates.{title_of}
use Rattle.doc_shelf_documents.proofs.body.title.Given as goal

abbrev pub invariant-loop-heading : goal.invariant-loop-heading
invariant-loop-heading l = title_of l.path l.headings ≡ title_of l.path (drop l.heading-index l.headings)
