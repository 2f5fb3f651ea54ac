use Rattle.doc_refs_parts.proofs.Rests.{enclosed_rest}
use Rattle.doc_refs_parts.proofs.scan.title.title.Goals as goal

pub front-requires : goal.front-requires
front-requires c = enclosed_rest _ _ c.in_ok-rest.ensures
