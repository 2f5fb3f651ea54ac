use Rattle.std.proofs.Common.{rules, ◌≡◌, ◌==◌, false, refl, chars, ap, sym, ◌∙◌}
use Rattle.std.proofs.lemmas.Result.{IfOk-weaker}
use Rattle.doc_rules.specs.Trees.{text_begins, atx_begins, fence_begins, html_begins, setext_begins, break_begins}
use Rattle.doc_lines.specs.Cursors.{left_of}
use Rattle.doc_blocks_leaves.specs.Starts.{situation_of, start_of, or_else}
use Rattle.doc_blocks_leaves.proofs.StartSteps.{at_number_sign, at_fence_sign, at_left_angle, at_equals_sign, at_hyphen, at_break_sign}
use Rattle.doc_blocks_leaves.proofs.StartSteps.{at_other, neither, at_end}
use Rattle.doc_blocks_leaves.proofs.Tests.{at_front}
use Rattle.doc_blocks_leaves.proofs.start.text_start.Goals as goal

pub returns-in_default : goal.returns-in_default
returns-in_default c =
    at_end c.args.entities.now (situation_of c.args.situation) (left_of c.args.line.now)
    ∙ sym (ap (text_begins c.args.entities.now (situation_of c.args.situation) (left_of c.args.line.now))
    c.in_default.ensures.characters)

pub returns-in-35 : goal.returns-in-35
returns-in-35 c =
    let going_by = c.args.entities.now in
    let situation = situation_of c.args.situation in
    let line = left_of c.args.line.now in
    c.heading_start.ensures ∙ at_front atx_begins (text_begins going_by situation line) _ _ _ 35 c.in-Some.ensures.characters c.in-35.is
    (at_number_sign going_by situation line _)

pub returns-in-96 : goal.returns-in-96
returns-in-96 c =
    let going_by = c.args.entities.now in
    let situation = situation_of c.args.situation in
    let line = left_of c.args.line.now in
    c.fence_start.ensures ∙ at_front (fence_begins line) (text_begins going_by situation line) _ _ _ c.in-Some.first
    c.in-Some.ensures.characters refl (at_fence_sign going_by situation line c.in-Some.first _ c.in-96.is)

pub returns-in-60 : goal.returns-in-60
returns-in-60 c =
    let going_by = c.args.entities.now in
    let situation = situation_of c.args.situation in
    let line = left_of c.args.line.now in
    c.html_block_start.ensures ∙ at_front (html_begins situation line) (text_begins going_by situation line) _ _ _ 60
    c.in-Some.ensures.characters c.in-60.is (at_left_angle going_by situation line _)

pub returns-in-61 : goal.returns-in-61
returns-in-61 c =
    let going_by = c.args.entities.now in
    let situation = situation_of c.args.situation in
    let line = left_of c.args.line.now in
    IfOk-weaker c.underline_start.result (λ start. start_of line start ≡ setext_begins going_by situation (chars c.args.text.now))
    (λ start. start_of line start ≡ text_begins going_by situation line (chars c.args.text.now)) (λ start e. e
    ∙ at_front (setext_begins going_by situation) (text_begins going_by situation line) _ _ _ 61 c.in-Some.ensures.characters c.in-61.is
    (at_equals_sign going_by situation line _)) c.underline_start.ensures

pub returns-in-45 : goal.returns-in-45
returns-in-45 c =
    let going_by = c.args.entities.now in
    let situation = situation_of c.args.situation in
    let line = left_of c.args.line.now in
    IfOk-weaker c.hyphens_start.result (λ start. start_of line start ≡ or_else (setext_begins going_by situation (chars c.args.text.now))
    (break_begins (chars c.args.text.now))) (λ start. start_of line start ≡ text_begins going_by situation line (chars c.args.text.now))
    (λ start e. e ∙ at_front (λ text. or_else (setext_begins going_by situation text) (break_begins text)) (text_begins going_by situation line)
    _ _ _ 45 c.in-Some.ensures.characters c.in-45.is (at_hyphen going_by situation line _))
    c.hyphens_start.ensures

pub returns-in-42 : goal.returns-in-42
returns-in-42 c =
    let going_by = c.args.entities.now in
    let situation = situation_of c.args.situation in
    let line = left_of c.args.line.now in
    c.break_start.ensures ∙ at_front break_begins (text_begins going_by situation line) _ _ _ c.in-Some.first c.in-Some.ensures.characters
    refl (at_break_sign going_by situation line c.in-Some.first _ c.in-42.is)

pub returns-in_default-first : goal.returns-in_default-first
returns-in_default-first c =
    let going_by = c.args.entities.now in
    let situation = situation_of c.args.situation in
    let line = left_of c.args.line.now in
    let a : (c.in-Some.first == 35) ≡ false = search rules in
    let b : (c.in-Some.first == 96) ≡ false = search rules in
    let d : (c.in-Some.first == 126) ≡ false = search rules in
    let e : (c.in-Some.first == 60) ≡ false = search rules in
    let f : (c.in-Some.first == 61) ≡ false = search rules in
    let g : (c.in-Some.first == 45) ≡ false = search rules in
    let h : (c.in-Some.first == 42) ≡ false = search rules in
    let i : (c.in-Some.first == 95) ≡ false = search rules in
    let s : (c.in-Some.first == 32) ≡ false = search rules in
    let t : (c.in-Some.first == 9) ≡ false = search rules in
    at_other going_by situation line c.in-Some.first _ a b d e f g h i (neither c.in-Some.first s t)
    ∙ sym (ap (text_begins going_by situation line) c.in-Some.ensures.characters)
