use Rattle.std.proofs.Common.{ap, arith, string_bytes, ◌++◌, ◌<◌, ◌∙◌}
use Rattle.std.proofs.lemmas.Result.{on_ok_weaker}
use Rattle.doc_people.specs.Hits.{hits}
use Rattle.doc_people.specs.Views.{rendered_pages}
use Rattle.doc_people_search.proofs.HitSteps.{none_is, some_are}
use Rattle.doc_people_search.proofs.hits.push_hits_part.Goals as goal

pub returns-then-found-eq0 : goal.returns-then-found-eq0
returns-then-found-eq0 g c =
    on_ok_weaker c.push_none_found.result (λ is. is ∙ ap (λ w. string_bytes c.args.out.now ++ w)
    (none_is (g.V.Viewed.render c.args.view.now) (g.V.Viewed.view c.args.view.now) c.args.terms.now
    (hits (rendered_pages (g.V.Viewed.render c.args.view.now) (g.V.Viewed.view c.args.view.now)) c.args.terms.now)
    c.in_ok-found.found.count c.in_ok-found.ensures.count c.if-found-eq0.true)) c.push_none_found.ensures

pub returns : goal.returns
returns g c =
    let some : 0 < c.in_ok-found.found.count = omega arith in
    on_ok_weaker c.push_found_list.result (λ is. is ∙ ap (λ w. string_bytes c.args.out.now ++ w)
    (some_are (g.V.Viewed.render c.args.view.now) (g.V.Viewed.view c.args.view.now) c.args.terms.now
    (hits (rendered_pages (g.V.Viewed.render c.args.view.now) (g.V.Viewed.view c.args.view.now)) c.args.terms.now)
    _ c.in_ok-found.found.count c.in_ok-found.ensures.count some (c.get.ensures ∙ c.in_ok-found.ensures.best))) c.push_found_list.ensures
