use Rattle.std.proofs.Common.{◌∙◌, sym, ap, option_and_then, option_map}
use Rattle.doc_http_targets.specs.Targets.{path_part, route_at, route_shown}
use Rattle.doc_http_targets.proofs.OriginParts.{route_of-part}
use Rattle.doc_http_targets.proofs.routes.Routes.route.Goals as goal

pub returns-in_err-form : goal.returns-in_err-form
returns-in_err-form c =
    let none = ap (option_and_then (λ form. route_at (path_part form))) c.in_err-form.ensures in
    ap (option_map route_shown) c.from_residual.ensures ∙ none ∙ sym (route_of-part c.args.target.now)

pub returns : goal.returns
returns c =
    c.at.ensures
    ∙ ap route_at c.path_part.ensures
    ∙ ap (option_and_then (λ form. route_at (path_part form))) c.in_ok-form.ensures
    ∙ sym (route_of-part c.args.target.now)
