use Rattle.std.proofs.Common.{ap, ◌++◌, ◌∙◌}
use Rattle.std.specs.Prelude.{map as mapped}
use Rattle.std.proofs.lemmas.Result.{on_ok_weaker}
use Rattle.doc_people.specs.Views.{rendered_at}
use Rattle.doc_shelf_pages.specs.ViewLaws.{seen_in}
use Rattle.doc_shelf_hits.proofs.CandidateSteps.{known_from_is}
use Rattle.doc_shelf_hits.specs.Candidates.{known_of}
use Rattle.doc_shelf_hits.proofs.candidates.push_seen.Goals as goal

pub returns : goal.returns
returns c render k =
    on_ok_weaker c.push_known.result (λ is. is
    ∙ ap (λ more. mapped known_of c.args.all.now.items ++ more)
    (known_from_is c.args.terms.now c.args.path _ (rendered_at render (seen_in c.args.store.now c.args.reader.now) c.args.path)
    (c.searched_at-page.ensures render k)))
    c.push_known.ensures
