use Rattle.std.proofs.Common.{rules, ◌≡◌, ◌<◌, length, chars, string_bytes, Some}
use Rattle.doc_rules.specs.Characters.{is_space_tab_or_ending}
use Rattle.doc_rules.specs.Parsers.{many}
use Rattle.doc_lines.proofs.Ends.{empty_chars}
use Rattle.doc_refs_parts.proofs.SpaceLaws.{is_word_char, last_word, word_and_space, word_takes, is_some}
use Rattle.doc_refs.proofs.labels.push_word.Goals as goal
use Rattle.doc_page_parts.proofs.Texts.{chars_not_empty}
use Rattle.doc_page_parts.proofs.Numbers.{zero_test_true}

pub returns-then-is_empty-clause-value : goal.returns-then-is_empty-clause-value
returns-then-is_empty-clause-value c =
    let word : Some (chars c.many-gap.result.now) ≡ many is_word_char (chars c.args.text.now) = c.many-gap.ensures.value is_word_char
    (search rules) in
    let gap : Some (chars c.many-rest.result.now) ≡ many is_space_tab_or_ending (chars c.many-gap.result.now) = c.many-rest.ensures.value
    is_space_tab_or_ending (search rules) in
    let none : length c.many-rest.result.now ≡ 0 = zero_test_true _ _ c.is_empty.ensures c.if-is_empty.true in
    last_word _ _ _ (chars c.front.result.now) _ _ word gap c.front.ensures.joins (search rules) (empty_chars _ none)

pub returns-then-is_empty-clause-shorter : goal.returns-then-is_empty-clause-shorter
returns-then-is_empty-clause-shorter c =
    let word : Some (chars c.many-gap.result.now) ≡ many is_word_char (chars c.args.text.now) = c.many-gap.ensures.value is_word_char
    (search rules) in
    let gap : Some (chars c.many-rest.result.now) ≡ many is_space_tab_or_ending (chars c.many-gap.result.now) = c.many-rest.ensures.value
    is_space_tab_or_ending (search rules) in
    word_takes _ _ _ word gap

pub returns-clause-value : goal.returns-clause-value
returns-clause-value c =
    let word : Some (chars c.many-gap.result.now) ≡ many is_word_char (chars c.args.text.now) = c.many-gap.ensures.value is_word_char
    (search rules) in
    let gap : Some (chars c.many-rest.result.now) ≡ many is_space_tab_or_ending (chars c.many-gap.result.now) = c.many-rest.ensures.value
    is_space_tab_or_ending (search rules) in
    let some : 0 < length c.many-rest.result.now = is_some _ _ c.is_empty.ensures c.if-is_empty.false in
    word_and_space _ _ _ (chars c.front.result.now) _ (chars (string_bytes c.push_text.new.out)) _ word gap c.front.ensures.joins
    (search rules) (search rules) (chars_not_empty _ c.many-rest.utf8 some)

pub returns-clause-shorter : goal.returns-clause-shorter
returns-clause-shorter c =
    let word : Some (chars c.many-gap.result.now) ≡ many is_word_char (chars c.args.text.now) = c.many-gap.ensures.value is_word_char
    (search rules) in
    let gap : Some (chars c.many-rest.result.now) ≡ many is_space_tab_or_ending (chars c.many-gap.result.now) = c.many-rest.ensures.value
    is_space_tab_or_ending (search rules) in
    word_takes _ _ _ word gap
