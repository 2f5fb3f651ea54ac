use Rattle.std.proofs.Common.{chars, ◌-◌}
use Rattle.doc_rules.specs.Destinations.{is_bare}
use Rattle.doc_refs_parts.proofs.ParenthesisSteps.{goes_over, ends_here}
use Rattle.doc_refs_parts.proofs.scan.destination.next_place.Goals as goal

pub returns-in-Some : goal.returns-in-Some
returns-in-Some c = (
  goes_over c.args.place.levels (32 - c.args.place.levels) (chars c.args.place.outermost.now) (chars c.args.place.rest.now)
      (chars c.in-Some.rest.now) (c.in-Some.ensures.value is_bare (λ d b h. h)),
  c.requires,
  c.in-Some.ensures.shorter,
)

pub returns-in-None : goal.returns-in-None
returns-in-None c =
    ends_here c.args.place.levels (32 - c.args.place.levels) (chars c.args.place.outermost.now) (chars c.args.place.rest.now)
    (c.in_default.ensures.value is_bare (λ d b h. h)) c.in_default-is.ensures c.in-None.ensures
