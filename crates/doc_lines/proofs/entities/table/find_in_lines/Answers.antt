use Rattle.std.proofs.Common.{◌-◌, ◌<◌, List, ℕ, take, ap, sym, ◌∙◌, arith}
use Rattle.std.specs.Prelude.{option_map}
use Rattle.doc_rules.specs.Escapes.{find_entity}
use Rattle.doc_lines.specs.Entities.{characters}
use Rattle.doc_lines.specs.Tables.{entities_in}
use Rattle.doc_lines.proofs.TableLaws.{or_else, lines_step, none_left, none_in_none}
use Rattle.doc_lines.proofs.entities.table.find_in_lines.Goals as goal

pub loop-line-init : goal.loop-line-init
loop-line-init c = ap (λ (ls : List (List ℕ)). find_entity (entities_in (take c.args.number ls)) c.args.name.now)
    (sym (c.into_iter-line-iterator.ensures.into_iter_gives ∙ c.new-line-items.ensures))

pub returns-then-left-eq0 : goal.returns-then-left-eq0
returns-then-left-eq0 c = sym (c.loop-line.invariant ∙ none_left c.loop-line.line-iterator c.loop-line.left c.args.name.now
    c.if-left-eq0.true)

pub returns-in-Some-find_in_line : goal.returns-in-Some-find_in_line
returns-in-Some-find_in_line c =
    let more : 0 < c.loop-line.left = omega arith in
    let found = sym c.find_in_line.ensures ∙ ap (option_map characters) c.in-Some-find_in_line.is in
    sym (c.loop-line.invariant ∙ ap (λ (ls : List (List ℕ)). find_entity (entities_in (take c.loop-line.left ls)) c.args.name.now)
    c.in-Some.ensures.steps
    ∙ lines_step c.loop-line.left c.in-Some.line.now c.next.new.self c.args.name.now more
    ∙ ap (λ o. or_else o (find_entity (entities_in (take (c.loop-line.left - 1) c.next.new.self)) c.args.name.now)) found)

pub loop-line-preserved : goal.loop-line-preserved
loop-line-preserved c =
    let more : 0 < c.loop-line.left = omega arith in
    let missed = sym c.find_in_line.ensures ∙ ap (option_map characters) c.in_default.is in
    c.loop-line.invariant ∙ ap (λ (ls : List (List ℕ)). find_entity (entities_in (take c.loop-line.left ls)) c.args.name.now)
    c.in-Some.ensures.steps
    ∙ lines_step c.loop-line.left c.in-Some.line.now c.next.new.self c.args.name.now more
    ∙ ap (λ o. or_else o (find_entity (entities_in (take (c.loop-line.left - 1) c.next.new.self)) c.args.name.now)) missed

pub returns : goal.returns
returns c = sym (c.loop-line.invariant ∙ ap (λ (ls : List (List ℕ)). find_entity (entities_in (take c.loop-line.left ls)) c.args.name.now)
    c.in-None.ensures.steps.0 ∙ none_in_none c.loop-line.left c.args.name.now)
