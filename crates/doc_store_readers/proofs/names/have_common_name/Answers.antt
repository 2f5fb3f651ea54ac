use Rattle.std.proofs.Common.{sym, ◌∙◌}
use Rattle.doc_store_readers.proofs.MeetSteps.{both_meet, meet_no_names, rest_is_sorted, they_pass, we_pass}
use Rattle.doc_store_readers.proofs.names.have_common_name.Goals as goal

pub returns-in_default-split_first : goal.returns-in_default-split_first
returns-in_default-split_first c =
    meet_no_names c.loop-our.ours.now c.loop-our.theirs.now c.in_default-split_first.ensures.cases ∙ sym c.loop-our.invariant.same

pub loop-our-preserved-in-Less : goal.loop-our-preserved-in-Less
loop-our-preserved-in-Less c = record {
  ours = rest_is_sorted c.loop-our.ours.now c.in-Some.our_rest.now c.in-Some.our.now c.in-Some.ensures.cases.0 c.loop-our.invariant.ours;
  theirs = c.loop-our.invariant.theirs;
  same = c.loop-our.invariant.same
      ∙ we_pass c.loop-our.ours.now c.loop-our.theirs.now c.in-Some.our_rest.now c.in-Some-split_first.their_rest.now c.in-Some.our.now
      c.in-Some-split_first.their.now
      c.in-Some.ensures.cases.0 c.in-Some-split_first.ensures.cases.0 c.loop-our.invariant.theirs (sym c.in-Less.ensures);
}

pub returns-in-Equal : goal.returns-in-Equal
returns-in-Equal c =
    sym (c.loop-our.invariant.same
    ∙ both_meet c.loop-our.ours.now c.loop-our.theirs.now c.in-Some.our_rest.now c.in-Some-split_first.their_rest.now c.in-Some.our.now
    c.in-Some-split_first.their.now
    c.in-Some.ensures.cases.0 c.in-Some-split_first.ensures.cases.0 (sym c.in-Equal.ensures))

pub loop-our-preserved : goal.loop-our-preserved
loop-our-preserved c = record {
  ours = c.loop-our.invariant.ours;
  theirs = rest_is_sorted c.loop-our.theirs.now c.in-Some-split_first.their_rest.now c.in-Some-split_first.their.now
      c.in-Some-split_first.ensures.cases.0 c.loop-our.invariant.theirs;
  same = c.loop-our.invariant.same
      ∙ they_pass c.loop-our.ours.now c.loop-our.theirs.now c.in-Some.our_rest.now c.in-Some-split_first.their_rest.now c.in-Some.our.now
      c.in-Some-split_first.their.now
      c.in-Some.ensures.cases.0 c.in-Some-split_first.ensures.cases.0 c.loop-our.invariant.ours (sym c.in-Greater.ensures);
}
