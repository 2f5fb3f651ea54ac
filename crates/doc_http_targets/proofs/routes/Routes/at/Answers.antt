use Rattle.std.proofs.Common.{◌∙◌, sym, ap, option_map}
use Rattle.doc_http_targets.specs.Targets.{route_shown}
use Rattle.doc_http_targets.proofs.Routing.{routed, unrouted}
use Rattle.doc_http_targets.proofs.routes.Routes.at.Goals as goal

pub returns-in_err-place : goal.returns-in_err-place
returns-in_err-place c =
    ap (option_map route_shown) c.from_residual.ensures ∙ sym (unrouted c.args.path.now (sym c.place.ensures ∙ c.in_err-place.was))

pub returns : goal.returns
returns c = c.leads_to.ensures ∙ routed c.args.path.now c.in_ok-place.field-0 (sym c.place.ensures ∙ c.in_ok-place.was)
