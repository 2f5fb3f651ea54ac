use Rattle.std.proofs.Common.{rules, ◌≡◌, true, false, sym, ◌∙◌, None, arith}
use Rattle.doc_blocks_starts.specs.ItemSteps.{marker_taken}
use Rattle.doc_blocks_starts.proofs.ContainerSteps.{one_cell, no_bullet_at_end, bullet_at}
use Rattle.doc_blocks_starts.proofs.item.marker.take_bullet.Goals as goal

pub returns-in_err-c-clause-marker : goal.returns-in_err-c-clause-marker
returns-in_err-c-clause-marker c =
    let none : marker_taken c.from_residual.result c.next.new.self ≡ None = search rules in
    none ∙ no_bullet_at_end c.args.line.now c.requires c.in_err-c.ensures.character

pub returns-then-not-is_bullet-clause-marker : goal.returns-then-not-is_bullet-clause-marker
returns-then-not-is_bullet-clause-marker c =
    bullet_at c.args.line.now c.next.new.self c.in_ok-c.c false c.requires c.in_ok-c.ensures.character c.in_ok-c.ensures.place
    (sym c.is_bullet.ensures ∙ c.if-not-is_bullet.true)

pub returns-clause-marker : goal.returns-clause-marker
returns-clause-marker c =
    bullet_at c.args.line.now c.next.new.self c.in_ok-c.c true c.requires c.in_ok-c.ensures.character c.in_ok-c.ensures.place
    (sym c.is_bullet.ensures ∙ c.if-not-is_bullet.false)

pub returns-clause-length : goal.returns-clause-length
returns-clause-length c = omega (
  arith,
  one_cell c.args.line.now c.next.new.self c.in_ok-c.c c.requires c.in_ok-c.ensures.character
      c.in_ok-c.ensures.place,
)
