use Rattle.std.proofs.Common.{rules, ◌≡◌, ◌<◌, length, chars, Some, ◌∙◌}
use Rattle.doc_lines.proofs.Pushes.{nothing_before}
use Rattle.doc_rules.specs.Characters.{is_space_tab_or_ending}
use Rattle.doc_rules.specs.Parsers.{many}
use Rattle.doc_lines.proofs.Ends.{empty_chars}
use Rattle.doc_refs_parts.proofs.SpaceLaws.{front_is_stripped, nothing_left, is_some}
use Rattle.doc_refs.proofs.labels.spaced.Goals as goal
use Rattle.doc_page_parts.proofs.Texts.{chars_not_empty}
use Rattle.doc_page_parts.proofs.Numbers.{zero_test_true}

pub words-init : goal.words-init
words-init c =
    let start : Some (chars c.many-rest.result.now) ≡ many is_space_tab_or_ending (chars c.args.text.now) = c.many-rest.ensures.value
    is_space_tab_or_ending (search rules) in
    record { is_text = search rules; same = nothing_before _ _ c.in_ok-out.ensures.bytes ∙ front_is_stripped _ _ start }

pub words-smaller : goal.words-smaller
words-smaller c =
    let some : 0 < length c.words.rest.now = is_some _ _ c.is_empty.ensures c.words-test.true in
    c.in_ok-rest.ensures.shorter (chars_not_empty _ c.words.invariant.is_text some)

pub returns : goal.returns
returns c =
    let none : length c.words.rest.now ≡ 0 = zero_test_true _ _ c.is_empty.ensures c.words-test.false in
    nothing_left _ _ _ (empty_chars _ none) c.words.invariant.same
