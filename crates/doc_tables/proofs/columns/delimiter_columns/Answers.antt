use Rattle.std.proofs.Common.{rules, ◌≡◌, ◌<◌, ◌∙◌, sym, length, chars}
use Rattle.doc_tables.proofs.AlignmentLaws.{same_alignment}
use Rattle.doc_tables.proofs.ColumnLaws.{no_more, not_one, one_more, none_at_all, all_made}
use Rattle.doc_tables.proofs.columns.delimiter_columns.Goals as goal

pub returns-then-len-eq-MOST : goal.returns-then-len-eq-MOST
returns-then-len-eq-MOST c =
    let full : length c.cells.columns.items ≡ 100 = search rules in
    no_more _ _ _ _ _ c.cells.invariant.same c.in-Some.ensures.value full

pub returns-in_default-alignment_of : goal.returns-in_default-alignment_of
returns-in_default-alignment_of c =
    not_one _ _ _ _ _ c.cells.invariant.same c.in-Some.ensures.value
    (c.in_default-alignment_of.ensures ∙ sym (same_alignment (chars c.in-Some.cell.source.now)))

pub cells-preserved : goal.cells-preserved
cells-preserved c =
    record {
      same = one_more _ _ _ _ _ _ _ c.cells.invariant.same c.in-Some.ensures.value
          (c.in-Some-alignment_of.ensures ∙ sym (same_alignment (chars c.in-Some.cell.source.now))) c.in_ok-push.ensures.items;
      most = search rules;
    }

pub returns-then-is_empty : goal.returns-then-is_empty
returns-then-is_empty c =
    let none : length c.cells.columns.items ≡ 0 = search rules in
    none_at_all _ _ _ c.cells.invariant.same c.in_default.ensures.value none

pub returns : goal.returns
returns c =
    let some : 0 < length c.cells.columns.items = search rules in
    all_made _ _ _ c.cells.invariant.same c.in_default.ensures.value some c.cells.invariant.most
