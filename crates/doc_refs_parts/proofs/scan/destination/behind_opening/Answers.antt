use Rattle.std.proofs.Common.{◌<◌, sym, chars, arith}
use Rattle.doc_rules.proofs.GrammarLaws.{is_takes}
use Rattle.doc_refs_parts.proofs.ParenthesisSteps.{opens, ends_at_opening}
use Rattle.doc_refs_parts.proofs.scan.destination.behind_opening.Goals as goal

pub returns-then-place-ge-LEVELS : goal.returns-then-place-ge-LEVELS
returns-then-place-ge-LEVELS c =
    ends_at_opening c.args.place.levels (chars c.args.place.outermost.now) (chars c.args.place.rest.now) (chars c.args.rest.now)
    (omega (arith, c.if-place-ge-LEVELS.true)) c.requires.opening

pub returns : goal.returns
returns c =
    let few : c.args.place.levels < 32 = omega (arith, c.if-place-ge-LEVELS.false) in (
      opens c.args.place.levels (chars c.end_of_run.result.now) (chars c.args.place.outermost.now) (chars c.args.place.rest.now)
          (chars c.args.rest.now) few c.requires.opening c.end_of_run.ensures,
      omega arith,
      is_takes 40 _ _ (sym c.requires.opening),
    )
