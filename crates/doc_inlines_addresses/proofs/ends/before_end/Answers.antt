use Rattle.std.proofs.Common.{◌&&◌, ap, sym, ◌∙◌}
use Rattle.std.proofs.lemmas.Bool.{eq-eqb, ne_eqb}
use Rattle.doc_inlines_addresses.proofs.EndLaws.{empty_ends, mark_goes, semicolon_goes, surplus_goes, nothing_goes}
use Rattle.doc_inlines_addresses.proofs.ends.before_end.Goals as goal
use Rattle.doc_inlines_addresses.proofs.ends.before_end.Goals.{else-c-eq41-via-then-c-eq41+else-surplus, else-c-eq41-via-else-c-eq41}

pub returns-in_err-before : goal.returns-in_err-before
returns-in_err-before c = rw c.from_residual.ensures (empty_ends _ c.in_err-before.ensures)

pub returns-then-is_mark : goal.returns-then-is_mark
returns-then-is_mark c = mark_goes _ _ c.in_ok-before.c c.in_ok-before.ensures (sym c.is_mark.ensures ∙ c.if-is_mark.true)

pub returns-then-c-eq59 : goal.returns-then-c-eq59
returns-then-c-eq59 c =
    semicolon_goes _ _ _ c.in_ok-before.c c.in_ok-before.ensures (sym c.is_mark.ensures ∙ c.if-is_mark.false) c.if-c-eq59.true
    c.before_reference.ensures

pub returns-then-surplus : goal.returns-then-surplus
returns-then-surplus c =
    surplus_goes _ _ c.in_ok-before.c c.args.surplus c.in_ok-before.ensures (sym c.is_mark.ensures ∙ c.if-is_mark.false) c.if-c-eq59.false
    c.requires (ap (λ b. b && c.args.surplus) (eq-eqb c.in_ok-before.c 41 c.if-c-eq41.true) ∙ c.if-surplus.true)

pub returns : goal.returns
returns c =
    nothing_goes _ _ c.in_ok-before.c c.args.surplus c.in_ok-before.ensures (sym c.is_mark.ensures ∙ c.if-is_mark.false) c.if-c-eq59.false
    c.requires (elim c.else-c-eq41.branch [
      | else-c-eq41-via-then-c-eq41+else-surplus w ↦ ap (λ b. b && c.args.surplus) (eq-eqb c.in_ok-before.c 41 w.if-c-eq41.true) ∙ w.if-surplus.false
      | else-c-eq41-via-else-c-eq41 w ↦ ap (λ b. b && c.args.surplus) (ne_eqb c.in_ok-before.c 41 w.if-c-eq41.false)
    ])
