use Rattle.doc_rules.specs.Autolinks.{uri}
use Rattle.doc_lines.proofs.Rests.{uri_rest}
use Rattle.doc_inlines_marks.proofs.Addresses.{closed}
use Rattle.doc_inlines_marks.proofs.address.uri_address.Goals as goal

pub front-requires : goal.front-requires
front-requires c = uri_rest _ _ c.in_ok-behind.ensures

pub returns : goal.returns
returns c = closed uri _ _ _ _ c.in_ok-behind.ensures c.front.ensures.joins c.in_ok-after.ensures
