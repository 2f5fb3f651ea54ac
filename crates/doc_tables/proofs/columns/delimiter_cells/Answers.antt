use Rattle.std.proofs.Common.{rules, ◌≡◌, ◌<◌, ◌∙◌, sym, false, chars}
use Rattle.doc_tables.specs.ColumnSteps.{may_delimit}
use Rattle.doc_tables.proofs.AlignmentLaws.{same_alignment}
use Rattle.doc_tables.proofs.ColumnLaws.{none_counted, one_counted, full_count, no_count, none_to_count, all_counted}
use Rattle.doc_tables.proofs.DelimiterLaws.{delimits_none}
use Rattle.doc_tables.proofs.columns.delimiter_cells.Goals as goal

pub returns-then-not-may_delimit : goal.returns-then-not-may_delimit
returns-then-not-may_delimit c =
    let failed : may_delimit (chars c.args.line.now) ≡ false = search rules in
    delimits_none _ failed

pub cells-init : goal.cells-init
cells-init c = record { counted = none_counted _ _ c.of-cells.ensures; most = search rules }

pub returns-then-count-eq-MOST : goal.returns-then-count-eq-MOST
returns-then-count-eq-MOST c =
    let full : c.cells.count ≡ 100 = search rules in
    full_count _ _ _ _ _ c.cells.invariant.counted c.in-Some.ensures.value full

pub returns-in_default-alignment_of : goal.returns-in_default-alignment_of
returns-in_default-alignment_of c =
    no_count _ _ _ _ _ c.cells.invariant.counted c.in-Some.ensures.value
    (c.in_default-alignment_of.ensures ∙ sym (same_alignment (chars c.in-Some.cell.source.now)))

pub cells-preserved : goal.cells-preserved
cells-preserved c = record {
  counted = one_counted _ _ _ _ _ _ _ c.cells.invariant.counted c.in-Some.ensures.value
      (c.in-Some-alignment_of.ensures ∙ sym (same_alignment (chars c.in-Some.cell.source.now))) (search rules);
  most = search rules;
}

pub returns-then-count-eq0 : goal.returns-then-count-eq0
returns-then-count-eq0 c =
    let none : c.cells.count ≡ 0 = search rules in
    none_to_count _ _ _ c.cells.invariant.counted c.in_default.ensures.value none

pub returns : goal.returns
returns c =
    let some : 0 < c.cells.count = search rules in
    all_counted _ _ _ c.cells.invariant.counted c.in_default.ensures.value some c.cells.invariant.most
