use Rattle.std.proofs.Common.{ap, append-nil, rules, string_bytes, sym, ◌++◌, ◌≡◌, ◌∙◌}
use Rattle.std.specs.Prelude.{Some, None, option_copied, option_map}
use Rattle.std.proofs.lemmas.Result.{on_ok_weaker}
use Rattle.doc_people.specs.Folders.{title}
use Rattle.doc_people.specs.Views.{rendered_at}
use Rattle.doc_people_search.proofs.HitSteps.{no_texts, seen}
use Rattle.doc_people_search.proofs.hits.push_snippet_at.Goals as goal

pub returns-in_default : goal.returns-in_default
returns-in_default g c =
    let none : option_copied c.in_ok-texts.texts ≡ None = search rules in
    sym (append-nil (string_bytes c.args.out.now)) ∙ ap (λ w. string_bytes c.args.out.now ++ w)
    (no_texts c.args.terms.now c.args.path.now
    (rendered_at (g.V.Viewed.render c.args.view.now) (g.V.Viewed.view c.args.view.now) c.args.path.now)
    (option_copied c.in_ok-texts.texts) c.in_ok-texts.ensures none)

pub returns : goal.returns
returns g c =
    let some : Some c.in-Some.texts.now
    ≡ option_map (λ page. page.texts) (rendered_at (g.V.Viewed.render c.args.view.now) (g.V.Viewed.view c.args.view.now) c.args.path.now)
    = search rules in
    let named : c.in_ok-title.title.now ≡ title (g.V.Viewed.render c.args.view.now) (g.V.Viewed.view c.args.view.now) c.args.path.now
    = search rules in
    on_ok_weaker c.push_snippet.result (λ is. is ∙ ap (λ w. string_bytes c.args.out.now ++ w)
    (seen c.args.terms.now c.args.path.now c.in_ok-title.title.now
    (rendered_at (g.V.Viewed.render c.args.view.now) (g.V.Viewed.view c.args.view.now) c.args.path.now)
    c.in-Some.texts.now some named)) c.push_snippet.ensures
