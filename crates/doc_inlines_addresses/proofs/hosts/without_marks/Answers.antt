use Rattle.std.proofs.Common.{rules, sym, ◌∙◌}
use Rattle.doc_inlines_addresses.proofs.HostLaws.{mark_goes, mark_stays, marks_ended}
use Rattle.doc_inlines_addresses.proofs.hosts.without_marks.Goals as goal

pub returns-then-not-is_mark : goal.returns-then-not-is_mark
returns-then-not-is_mark c =
    mark_stays _ _ _ c.in-Some.c c.marks.invariant.same c.in-Some.ensures (sym c.is_mark.ensures ∙ c.if-not-is_mark.true)

pub marks-preserved : goal.marks-preserved
marks-preserved c = record {
  is_text = search rules;
  same = mark_goes _ _ _ c.in-Some.c c.marks.invariant.same c.in-Some.ensures (sym c.is_mark.ensures ∙ c.if-not-is_mark.false);
}

pub returns : goal.returns
returns c = marks_ended _ _ c.marks.invariant.same c.in_default.ensures
