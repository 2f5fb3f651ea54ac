use Rattle.std.proofs.Common.{◌≡◌, ◌++◌, ap, ◌∙◌}
use Rattle.std.specs.Prelude.{map as mapped}
use Rattle.std.proofs.lemmas.Result.{on_ok_weaker}
use Rattle.doc_people.specs.Views.{rendered_at}
use Rattle.doc_shelf_pages.proofs.NamedSteps.{where_none}
use Rattle.doc_shelf_pages.specs.ViewLaws.{seen_in}
use Rattle.doc_shelf_hits.proofs.CandidateSteps.{none_known, where_some}
use Rattle.doc_shelf_hits.specs.Candidates.{known_at, known_of}
use Rattle.doc_shelf_hits.proofs.candidates.push_named.Goals as goal

pub returns : goal.returns
returns c render k =
    on_ok_weaker c.push_seen.result (λ is. is
    ∙ ap (λ path. mapped known_of c.args.all.now.items
    ++ known_at c.args.terms.now path (rendered_at render (seen_in c.args.store.now c.args.reader.now) path))
    (where_some (λ path. path ≡ c.args.text.now) c.in_ok-path.field-0 c.in-Some.path c.in-Some.is c.in_ok-path.ensures.is))
    (c.push_seen.ensures render k)

pub returns-in_default : goal.returns-in_default
returns-in_default c render k =
    none_known render c.args.store.now c.args.reader.now c.args.terms.now c.args.text.now (mapped known_of c.args.all.now.items)
    (where_none c.in_ok-path.field-0 c.in_default.is c.in_ok-path.ensures.none)
