use Rattle.doc_http_targets.proofs.Routing.{refused-fitting}
use Rattle.doc_http_targets.proofs.routes.add.Goals as goal

pub unreachable-requires : goal.unreachable-requires
unreachable-requires c =
    c.in_default.not-OutOfMemory (refused-fitting _ _ _ _ c.in-Err.error c.requires c.in-Err.ensures)
