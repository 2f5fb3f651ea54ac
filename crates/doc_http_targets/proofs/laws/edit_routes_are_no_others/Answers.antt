use Rattle.doc_http_targets.proofs.RouteLaws.{edit_routes_are_no_others}
use Rattle.doc_http_targets.proofs.laws.edit_routes_are_no_others.Goals as goal

pub returns : goal.returns
returns c = edit_routes_are_no_others
