use Rattle.std.proofs.Common.{rules, ◌≡◌, ◌∙◌, List, [], map, chars, ap, sym}
use Rattle.doc_lines.proofs.Ends.{empty_chars}
use Rattle.doc_refs_parts.proofs.SpaceLaws.{is_some}
use Rattle.doc_rules.specs.Characters.{Text}
use Rattle.doc_rules.specs.Columns.{cells_of}
use Rattle.doc_rules.specs.Lines.{lines_of, secure_char}
use Rattle.doc_blocks_starts.specs.Tags.{tags_of}
use Rattle.doc_blocks.specs.StateSteps.{State, shown, after_line, document_left}
use Rattle.doc_blocks.specs.BuilderSteps.{state_of}
use Rattle.doc_blocks.proofs.LeafLaws.{one_line, document_is}
use Rattle.doc_blocks.proofs.tagged.tags.Goals as goal
use Rattle.doc_page_parts.proofs.Numbers.{zero_test_true}

pub lines-init : goal.lines-init
lines-init c =
    let going_by = c.args.entities.now in
    record {
      is_text = search rules;
      sound = c.new-builder.ensures.ready.sound;
      left = ap (λ (s : State). document_left going_by (lines_of (chars c.args.text.now)) (shown s)) (sym c.new-builder.ensures.state);
    }

pub lines-preserved : goal.lines-preserved
lines-preserved c =
    let going_by = c.args.entities.now in
    let s = state_of c.lines.builder in
    let f = c.first_line-first.ensures.line in
    record {
      is_text = search rules;
      sound = c.in_ok-add_line.ensures.sound;
      left = c.lines.invariant.left
          ∙ (ap (λ (ls : List Text). document_left going_by ls (shown s)) f.first
          ∙ one_line going_by s (state_of c.add_line.new.builder) f.whole (lines_of (chars c.first_line-first.result.rest.now))
          (ap (λ (t : Text). after_line going_by s (cells_of (map secure_char t))) (sym f.content) ∙ c.in_ok-add_line.ensures.line));
    }

pub first_line-first-requires : goal.first_line-first-requires
first_line-first-requires c = is_some _ _ c.is_empty.ensures c.lines-test.true

pub returns-clause-tags : goal.returns-clause-tags
unfolding lines_of
returns-clause-tags c =
    let going_by = c.args.entities.now in
    let s = state_of c.lines.builder in
    let none : chars c.lines.rest.now ≡ [] = empty_chars _ (zero_test_true _ _ c.is_empty.ensures c.lines-test.false) in
    c.in_ok-tagged.ensures.tags
    ∙ ap tags_of (document_is going_by (chars c.args.text.now) (document_left going_by [] (shown s))
    (ap (λ (t : Text). document_left going_by (lines_of t) (shown s)) (sym none) ∙ sym c.lines.invariant.left)).0

pub returns-clause-refs : goal.returns-clause-refs
unfolding lines_of
returns-clause-refs c =
    let going_by = c.args.entities.now in
    let s = state_of c.lines.builder in
    let none : chars c.lines.rest.now ≡ [] = empty_chars _ (zero_test_true _ _ c.is_empty.ensures c.lines-test.false) in
    c.in_ok-tagged.ensures.refs
    ∙ (document_is going_by (chars c.args.text.now) (document_left going_by [] (shown s))
    (ap (λ (t : Text). document_left going_by (lines_of t) (shown s)) (sym none) ∙ sym c.lines.invariant.left)).1
