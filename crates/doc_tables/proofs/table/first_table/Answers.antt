use Rattle.std.proofs.Common.{rules, ◌≡◌, true, false, ◌∙◌, chars, sym, refl}
use Rattle.doc_rules.specs.Parsers.{is}
use Rattle.doc_tables.proofs.LineLaws.{first_line_is, rest_of_cut}
use Rattle.doc_tables.proofs.TextLaws.{at_first, rest_before, at_next, found_here, not_found, next_is_shorter}
use Rattle.doc_tables.proofs.table.first_table.Goals as goal

pub lines-init : goal.lines-init
lines-init c = record { before_is_text = search rules; line_is_text = search rules; come = at_first _ }

pub front-header-requires : goal.front-header-requires
front-header-requires c = rest_of_cut _ _ c.line_end-end.ensures

pub front-delimiters-requires : goal.front-delimiters-requires
front-delimiters-requires c = rest_of_cut _ _ c.line_end-row_end.ensures

pub front-requires : goal.front-requires
front-requires c = rest_before _ _ _ c.lines.invariant.come

pub returns-in_default : goal.returns-in_default
returns-in_default c =
    let cut = c.line_end-end.ensures in
    let end = chars c.line_end-end.result.now in
    not_found _ _ _ end cut.front c.lines.invariant.come c.in_default.ensures
    (first_line_is _ cut.front end (is 10 end) cut cut.split refl)

pub returns-then-begins_table : goal.returns-then-begins_table
returns-then-begins_table c =
    let passed : c.begins_table.result ≡ true = search rules in
    let found = found_here _ _ _ _ (chars c.line_end-end.result.now) _ _ _ _ c.lines.invariant.come c.in-Some.ensures
    (first_line_is _ _ _ _ c.line_end-end.ensures c.front-header.ensures.joins refl)
    (first_line_is _ _ _ _ c.line_end-row_end.ensures c.front-delimiters.ensures.joins c.is-then-begins_table.ensures)
    (sym passed ∙ c.begins_table.ensures) c.front.ensures.joins in
    record { lines = found.lines; found_is = found.found_is; before_is = found.before_is }

pub lines-preserved : goal.lines-preserved
lines-preserved c =
    let failed : c.begins_table.result ≡ false = search rules in
    record {
      before_is_text = search rules;
      line_is_text = search rules;
      come = at_next _ _ _ _ _ _ _ _ c.lines.invariant.come c.front-header.ensures.joins c.in-Some.ensures
          (first_line_is _ _ _ _ c.line_end-end.ensures c.front-header.ensures.joins refl)
          (first_line_is _ _ _ _ c.line_end-row_end.ensures c.front-delimiters.ensures.joins refl)
          (sym failed ∙ c.begins_table.ensures);
    }

pub lines-smaller : goal.lines-smaller
lines-smaller c =
    next_is_shorter (chars c.lines.line.now) (chars c.front-header.result.now) (chars c.line_end-end.result.now) (chars c.in-Some.next.now)
    c.front-header.ensures.joins c.in-Some.ensures
