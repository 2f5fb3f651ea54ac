-- Names to unfold where an example computes.
use Rattle.doc_rules.proofs.Computing.{page_words}
use Rattle.doc_front.specs.Titles.{some_text, before_last, quoted, double_quoted, single_quoted, is_bare, value_of, simple_value}
use Rattle.doc_front.specs.Front.{without_bom, is_fence, is_key_line, shows_front, is_shown, opened, closed, front_in, title_on, title_in}
use Rattle.doc_front.specs.Front.{is_first_heading, is_underline, is_underlined, has_heading, escaped_char, headed}
use Rattle.doc_front.specs.Front.{titled, skipped, with_title}

-- titles, and the front of a text
unfoldable pub front_words : Unit {0}
unfolding page_words some_text before_last quoted double_quoted single_quoted is_bare value_of simple_value without_bom is_fence
    is_key_line shows_front is_shown opened closed front_in title_on title_in is_first_heading is_underline is_underlined has_heading
    escaped_char headed titled skipped with_title
front_words = tt
