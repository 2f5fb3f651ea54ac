-- Names to unfold where an example computes.
use Rattle.ucd_category.proofs.Computing.{ucd_category}
use Rattle.ucd_case.proofs.Computing.{ucd_case}
use Rattle.caseless.specs.Caseless.{default_case_fold}
use Rattle.std.specs.Char.{encode_utf8}
use Rattle.std.specs.Fmt.{digits}
use Rattle.doc_rules.specs.Characters.{is_space_separator, is_white, is_punctuation, last_or, strip_front, strip_end}
use Rattle.doc_rules.specs.Lines.{ends_line, onto_first, lines_of, without_ending, secure_char}
use Rattle.doc_rules.specs.Columns.{columns_from, cell_of, text_of, skip, indent, after_indent}
use Rattle.doc_rules.specs.Parsers.{word, word_in_any_case, many, at_most, through, run_length, some_spacing}
use Rattle.doc_rules.specs.Entities.{built_in}
use Rattle.doc_rules.specs.Escapes.{decimal_reference, hexadecimal_reference, named_reference, number, code_point, find_entity, by_name}
use Rattle.doc_rules.specs.Escapes.{character_reference, backslash_escape, escape_or_reference, meaning, unescape_behind, unescape}
use Rattle.doc_rules.specs.Tags.{tag_name, attribute_name, attribute_value, attribute, open_tag, closing_tag, comment, instruction}
use Rattle.doc_rules.specs.Tags.{declaration, cdata, raw_html}
use Rattle.doc_rules.specs.Autolinks.{is_scheme_char, scheme, uri, is_local_char, is_domain_char, is_domain_part, domain_part, mail}
use Rattle.doc_rules.specs.BareLinks.{is_host_char, host_run, dotted, is_host, holds_host, reference_before, end_goes, without_end}
use Rattle.doc_rules.specs.BareLinks.{address_run, address_of, web_scheme, is_www, is_web, bare_address}
use Rattle.doc_rules.specs.Destinations.{many_or_escaped, angled, balanced, bare, destination, has_blank_line, title, destination_value}
use Rattle.doc_rules.specs.Destinations.{title_value}
use Rattle.doc_rules.specs.Labels.{is_label, label, collapse, normal_label}
use Rattle.doc_rules.specs.Definitions.{end_of_line, rest_of_line, with_title, without_title, after_destination, after_label}
use Rattle.doc_rules.specs.Definitions.{definition_source, definitions_within, definitions_of, find_reference}
use Rattle.doc_rules.specs.Inlines.{run_text, bracket_text, as_text}
use Rattle.doc_rules.specs.Emphasis.{run_between, matches, opener_of, wrapped, wrap_first, wrap_at_most, weight, emphasis_of}
use Rattle.doc_rules.specs.CodeSpans.{before_backticks, code_text, spaced, code_span}
use Rattle.doc_rules.specs.Links.{closed, title_tail, destination_tail, inline_tail, reference_target, behind_empty_label, reference_tail}
use Rattle.doc_rules.specs.Links.{link_tail, last_bracket, without_links, linked, unlinked, close_bracket}
use Rattle.doc_rules.specs.Reading.{backslash, ampersand, delimiters, bang, autolink, left_angle, break_behind, gap, kinds, kind_in}
use Rattle.doc_rules.specs.Reading.{tildes, has_live_bracket, bare_link, item_of_kind, read_item, read, inlines_of}
use Rattle.doc_rules.specs.LeafStarts.{marker_text, is_break_of, is_thematic_break, without_closing, heading_text, atx_heading, is_all_of}
use Rattle.doc_rules.specs.LeafStarts.{underline_level, fence_of, opening_fence, is_closing_text, closes_fence}
use Rattle.doc_rules.specs.HtmlStarts.{raw_text_names, element_names, is_among, is_named, is_raw_text_start, is_element_start, is_tag_line}
use Rattle.doc_rules.specs.HtmlStarts.{html_start, may_interrupt_paragraph, ends_before_blank, ends_html}
use Rattle.doc_rules.specs.ContainerStarts.{behind_quote_marker, quote_start, is_same_kind, digits_of, bullet_marker, ordered_marker}
use Rattle.doc_rules.specs.ContainerStarts.{list_marker, marker_end, item_at, item_of, item_start, begins_a_list, item_may_interrupt}
use Rattle.doc_rules.specs.Tables.{parts_behind, parts, without_pipe, without_blank_end, unescape_pipes, cells_of_line, aligned, colon_end}
use Rattle.doc_rules.specs.Tables.{dashes, some_dashes, alignment_of, alignments_of, has_columns, table_with, table_in, text_lines}
use Rattle.doc_rules.specs.Tables.{has_table}
use Rattle.doc_rules.specs.Trees.{is_empty_tree, matched, open_paragraph, continued, has_no_paragraph, atx_begins, fence_begins}
use Rattle.doc_rules.specs.Trees.{html_begins, setext_begins, break_begins, text_begins, leaf_begins, underlined, with_start}
use Rattle.doc_rules.specs.Trees.{item_may_begin, add_text, add_leaf, add_item, add_leaf_or_item, add_blocks, add_to_leaf, lazy_situation}
use Rattle.doc_rules.specs.Trees.{paragraph_situation, add_row_or_paragraph, add_line, add_lines}
use Rattle.doc_rules.specs.Lists.{is_last_blank, ends_blank, has_gap, last_list, with_item, listed}
use Rattle.doc_rules.specs.Blocks.{ended, joined, without_last_blanks, with_text, with_leaf, list_start, container_of, blocks_of}
use Rattle.doc_rules.specs.Tasks.{mark_of, behind_mark, task_in}
use Rattle.doc_rules.specs.Blocks.{table_of, task_of, first_leaf, item_blocks, with_tasks, tasks_read, leaf_references, references_of}
use Rattle.doc_rules.specs.Blocks.{tree_document, document_of}
use Rattle.doc_rules.specs.Escaping.{escaped_char, html_escape, percent, url_char, url_escape}
use Rattle.doc_rules.specs.PlainTexts.{plain, plain_text, leaf_headings, headings_in, table_texts, leaf_texts, texts_in}
use Rattle.doc_page_parts.specs.Escaping.{escaped}
use Rattle.doc_rules.specs.Html.{characters, span_start, span_end, inline_html, images_after, html_among, inlines_html, write, is_fresh}
use Rattle.doc_rules.specs.Html.{new_line, paragraph_html, id_attribute, heading_html, first_word, language_class, code_html, leaf_html}
use Rattle.doc_rules.specs.Html.{is_tight_inside, list_tag, list_end, container_start, container_end, blocks_html, output_of, link_tag}
use Rattle.doc_rules.specs.Html.{align_attribute, cell_html, cells_html, row_html, rows_html, body_html, table_html, task_box}
use Rattle.doc_rules.specs.Html.{written_text, html_of, plain_linker, rendered_plain}
use Rattle.doc_rules.specs.Anchors.{anchor_char, or_section, anchor_name, free_number, free_anchor, anchors_behind}
use Rattle.doc_rules.specs.Pages.{onto_html, pieces_of, page_headings, document_anchors, document_page, page_of, piece_text, filled}
use Rattle.doc_rules.specs.Pages.{encoded_piece, encoded_heading, encoded, noted, images_in, images_told}

-- characters, lines, columns and parsers
unfoldable pub text_words : Unit {0}
unfolding ucd_category is_space_separator is_white is_punctuation last_or strip_front strip_end ends_line onto_first lines_of
    without_ending secure_char columns_from cell_of text_of skip indent after_indent word word_in_any_case many at_most through run_length
    some_spacing
text_words = tt

-- and escapes and references
unfoldable pub escape_words : Unit {0}
unfolding text_words built_in decimal_reference hexadecimal_reference named_reference number code_point find_entity by_name
    character_reference backslash_escape escape_or_reference meaning unescape_behind unescape
escape_words = tt

-- and tags, autolinks, destinations, titles, labels and definitions
unfoldable pub reference_words : Unit {0}
unfolding escape_words default_case_fold ucd_case tag_name attribute_name attribute_value attribute open_tag closing_tag comment
    instruction declaration cdata raw_html is_scheme_char scheme uri is_local_char is_domain_char is_domain_part domain_part mail
    many_or_escaped angled balanced bare destination has_blank_line title destination_value title_value is_label label collapse
    normal_label end_of_line rest_of_line with_title without_title after_destination after_label definition_source definitions_within
    definitions_of find_reference
reference_words = tt

-- and inlines
unfoldable pub inline_words : Unit {0}
unfolding reference_words run_text bracket_text as_text run_between matches opener_of wrapped wrap_first wrap_at_most weight emphasis_of
    before_backticks code_text spaced code_span closed title_tail destination_tail inline_tail reference_target behind_empty_label
    reference_tail link_tail last_bracket without_links linked unlinked close_bracket backslash ampersand delimiters bang autolink
    left_angle break_behind gap kinds kind_in item_of_kind read_item read inlines_of
    tildes has_live_bracket bare_link is_host_char host_run dotted is_host holds_host reference_before end_goes without_end
    address_run address_of web_scheme is_www is_web bare_address
inline_words = tt

-- and blocks
unfoldable pub block_words : Unit {0}
unfolding inline_words marker_text is_break_of is_thematic_break without_closing heading_text atx_heading is_all_of underline_level
    fence_of opening_fence is_closing_text closes_fence raw_text_names element_names is_among is_named is_raw_text_start is_element_start
    is_tag_line html_start may_interrupt_paragraph ends_before_blank ends_html behind_quote_marker quote_start is_same_kind digits_of
    bullet_marker ordered_marker list_marker marker_end item_at item_of item_start begins_a_list item_may_interrupt is_empty_tree matched
    open_paragraph continued has_no_paragraph atx_begins fence_begins html_begins setext_begins break_begins text_begins leaf_begins
    underlined with_start item_may_begin add_text add_leaf add_item add_leaf_or_item add_blocks add_to_leaf lazy_situation add_line
    add_lines is_last_blank ends_blank has_gap last_list with_item listed ended joined without_last_blanks with_text with_leaf list_start
    container_of blocks_of leaf_references references_of tree_document document_of parts_behind parts without_pipe without_blank_end
    unescape_pipes cells_of_line aligned colon_end dashes some_dashes alignment_of alignments_of has_columns table_with table_in text_lines
    has_table paragraph_situation add_row_or_paragraph table_of mark_of behind_mark task_in task_of first_leaf item_blocks with_tasks
    tasks_read
block_words = tt

-- and HTML
unfoldable pub html_words : Unit {0}
unfolding block_words encode_utf8 digits escaped_char html_escape percent url_char url_escape plain plain_text leaf_headings headings_in
    table_texts leaf_texts texts_in characters escaped span_start span_end inline_html images_after html_among inlines_html write is_fresh
    new_line paragraph_html id_attribute heading_html first_word language_class code_html leaf_html is_tight_inside list_tag list_end
    container_start container_end blocks_html output_of link_tag written_text html_of plain_linker rendered_plain
    align_attribute cell_html cells_html row_html rows_html body_html table_html task_box
html_words = tt

-- and pages
unfoldable pub page_words : Unit {0}
unfolding html_words anchor_char or_section anchor_name free_number free_anchor anchors_behind onto_html pieces_of page_headings
    noted images_in images_told
    document_anchors document_page page_of piece_text filled encoded_piece encoded_heading encoded
page_words = tt
