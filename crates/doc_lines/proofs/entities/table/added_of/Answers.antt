use Rattle.std.proofs.Common.{◌≡◌, ◌+◌, ◌++◌, List, ℕ, [], ◌∷◌, true, false, length, refl, ap, sym, ◌∙◌, arith, append-nil}
use Rattle.doc_page_parts.specs.Lines.{lines}
use Rattle.doc_rules.specs.Entities.{Table, built_in}
use Rattle.doc_lines.specs.Entities.{entities_shown}
use Rattle.doc_lines.specs.Tables.{entities_in, entity_of, line_contradicts, twice_line, with_entities}
use Rattle.doc_lines.proofs.RowLaws.{lines_length}
use Rattle.doc_lines.proofs.TableLaws.{added_on, added_more, twice_here, twice_none, with_none, not_true, not_kept, start_added}
use Rattle.doc_lines.proofs.entities.table.added_of.Goals as goal

pub loop-line-init : goal.loop-line-init
loop-line-init c =
    let start : c.into_iter-line-iterator.result ≡ lines c.args.text.now = c.into_iter-line-iterator.ensures.into_iter_gives
    ∙ c.new-line-items.ensures in
    let empty : entities_shown c.new-added.result.entries ≡ [] = ap entities_shown c.new-added.ensures.empty in
    record {
      twice = ap (λ (T : Table). twice_line T 1 (lines c.args.text.now)) (sym (append-nil built_in))
          ∙ ap (λ (T : Table). twice_line (built_in ++ T) 1 (lines c.args.text.now)) (sym empty)
          ∙ ap (twice_line (built_in ++ entities_shown c.new-added.result.entries) 1) (sym start);
      added = ap (λ (T : Table). with_entities T (entities_in (lines c.args.text.now))) (sym empty)
          ∙ ap (λ (ls : List (List ℕ)). with_entities (entities_shown c.new-added.result.entries) (entities_in ls)) (sym start);
      ascii = start_added (entities_shown c.new-added.result.entries) empty;
      room = omega (arith, ap length start, lines_length c.args.text.now);
      whole = refl;
    }

pub returns-then-not-branch-clause-refused : goal.returns-then-not-branch-clause-refused
returns-then-not-branch-clause-refused c =
    let T : Table = built_in ++ entities_shown c.loop-line.added.entries in
    let here : line_contradicts T (entity_of c.in-Some.line.now) ≡ true = not_kept _ _ c.in_ok-add_line.ensures.consistent
    c.if-not-branch.true in
    c.loop-line.invariant.twice ∙ ap (twice_line T (c.loop-line.number + 1)) c.in-Some.ensures.steps
    ∙ twice_here T (c.loop-line.number + 1) c.in-Some.line.now c.next.new.self here

pub loop-line-preserved : goal.loop-line-preserved
loop-line-preserved c =
    let before : Table = entities_shown c.loop-line.added.entries in
    let after : Table = entities_shown c.add_line.new.added.entries in
    let on : line_contradicts (built_in ++ before) (entity_of c.in-Some.line.now)
    ≡ false = not_true _ _ c.in_ok-add_line.ensures.consistent c.if-not-branch.false in
    let left : length c.loop-line.line-iterator ≡ length c.next.new.self + 1 = ap length c.in-Some.ensures.steps ∙ omega arith in
    let added : after ≡ with_entities before (entities_in (c.in-Some.line.now ∷ [])) = c.in_ok-add_line.ensures.added c.if-not-branch.false
    in
    record {
      twice = c.loop-line.invariant.twice ∙ ap (twice_line (built_in ++ before) (c.loop-line.number + 1)) c.in-Some.ensures.steps
          ∙ added_on before after (c.loop-line.number + 1) c.in-Some.line.now c.next.new.self on added;
      added = c.loop-line.invariant.added ∙ ap (λ (ls : List (List ℕ)). with_entities before (entities_in ls)) c.in-Some.ensures.steps
          ∙ added_more before after c.in-Some.line.now c.next.new.self added;
      ascii = c.add_line.ensures.ascii c.loop-line.invariant.ascii;
      room = omega (arith, left, c.loop-line.invariant.room);
      whole = refl;
    }

pub returns-clause-consistent : goal.returns-clause-consistent
returns-clause-consistent c =
    let T : Table = built_in ++ entities_shown c.loop-line.added.entries in
    c.loop-line.invariant.twice ∙ ap (twice_line T (c.loop-line.number + 1)) c.in-None.ensures.steps.0
    ∙ twice_none T (c.loop-line.number + 1)

pub returns-clause-added : goal.returns-clause-added
returns-clause-added c =
    let before : Table = entities_shown c.loop-line.added.entries in
    sym (c.loop-line.invariant.added ∙ ap (λ (ls : List (List ℕ)). with_entities before (entities_in ls)) c.in-None.ensures.steps.0
    ∙ with_none before)
