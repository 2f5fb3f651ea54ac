use Rattle.std.proofs.Common.{◌<◌, ◌-◌, sym, chars, arith}
use Rattle.doc_rules.proofs.GrammarLaws.{is_takes}
use Rattle.doc_refs_parts.proofs.ParenthesisSteps.{closes, ends_at_closing}
use Rattle.doc_refs_parts.proofs.scan.destination.behind_closing.Goals as goal

pub returns-then-place-eq0 : goal.returns-then-place-eq0
returns-then-place-eq0 c =
    ends_at_closing c.args.place.levels (32 - c.args.place.levels) (chars c.args.place.outermost.now) (chars c.args.place.rest.now)
    (chars c.args.rest.now) c.if-place-eq0.true c.requires.closing

pub returns : goal.returns
returns c =
    let some : 0 < c.args.place.levels = omega (arith, c.if-place-eq0.false) in (
      closes c.args.place.levels (chars c.args.place.outermost.now) (chars c.args.place.rest.now) (chars c.args.rest.now) c.requires.levels
          some c.requires.closing,
      omega (arith, c.requires.levels),
      is_takes 41 _ _ (sym c.requires.closing),
    )
