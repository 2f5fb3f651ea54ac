use Rattle.std.proofs.Common.{rules, ◌≡◌, true, false, sym, ◌∙◌, None, arith}
use Rattle.doc_blocks_starts.specs.ItemSteps.{marker_taken}
use Rattle.doc_blocks_starts.proofs.ContainerSteps.{one_cell, no_delimiter_at_end, delimiter_at}
use Rattle.doc_blocks_starts.proofs.item.marker.take_delimiter.Goals as goal

pub returns-in_err-c-clause-marker : goal.returns-in_err-c-clause-marker
returns-in_err-c-clause-marker c =
    let none : marker_taken c.from_residual.result c.next.new.self ≡ None = search rules in
    none ∙ no_delimiter_at_end c.args.digits.number c.args.line.now c.requires.plain c.in_err-c.ensures.character

pub returns-then-not-is_delimiter-clause-marker : goal.returns-then-not-is_delimiter-clause-marker
returns-then-not-is_delimiter-clause-marker c =
    delimiter_at c.args.digits.number c.args.line.now c.next.new.self c.in_ok-c.c false c.requires.plain c.in_ok-c.ensures.character
    c.in_ok-c.ensures.place (sym c.is_delimiter.ensures ∙ c.if-not-is_delimiter.true)

pub returns-clause-marker : goal.returns-clause-marker
returns-clause-marker c =
    delimiter_at c.args.digits.number c.args.line.now c.next.new.self c.in_ok-c.c true c.requires.plain c.in_ok-c.ensures.character
    c.in_ok-c.ensures.place (sym c.is_delimiter.ensures ∙ c.if-not-is_delimiter.false)

pub returns-clause-length : goal.returns-clause-length
returns-clause-length c = omega (
  arith,
  one_cell c.args.line.now c.next.new.self c.in_ok-c.c c.requires.plain c.in_ok-c.ensures.character
      c.in_ok-c.ensures.place,
)
