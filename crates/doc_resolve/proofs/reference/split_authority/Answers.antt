use Rattle.std.proofs.Common.{subst, sym}
use Rattle.std.specs.Str.{IsCharBoundary}
use Rattle.doc_resolve.proofs.ReferenceSteps.{boundary_at_end}
use Rattle.doc_resolve.proofs.reference.split_authority.Goals as goal

pub range-requires-clause-end_boundary : goal.range-requires-clause-end_boundary
range-requires-clause-end_boundary c =
    subst (IsCharBoundary c.in-Some.rest.now) (sym c.authority_len-end.ensures) (boundary_at_end c.in-Some.rest.now)

pub range_from-requires : goal.range_from-requires
range_from-requires c =
    λ _. subst (IsCharBoundary c.in-Some.rest.now) (sym c.authority_len-end.ensures) (boundary_at_end c.in-Some.rest.now)
