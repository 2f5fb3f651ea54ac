use Rattle.std.proofs.Common.{subst, sym, chars}
use Rattle.doc_rules.proofs.ParserLaws.{is_rest_again}
use Rattle.doc_inlines_emphasis.specs.Views.{items_of}
use Rattle.doc_inlines.specs.ReaderSteps.{AllBehind}
use Rattle.doc_inlines.proofs.ReaderLaws.{flushed_made, flushed_none, flushed_slices, none_slices, flushed_cut, none_uncut, all_of_itself}
use Rattle.doc_inlines.proofs.ReaderLaws.{is_nothing}
use Rattle.doc_inlines.proofs.reader.Reader.flush.Goals as goal

pub returns-clause-made : goal.returns-clause-made
returns-clause-made c = flushed_made _ _ _ _ _ c.front-pending.ensures.value c.in_ok-put.ensures.made

pub returns-clause-sound : goal.returns-clause-sound
returns-clause-sound c = record {
  draft = c.in_ok-put.ensures.sound;
  plain = is_rest_again _ _ _ c.requires.rest c.requires.plain;
  rest = all_of_itself (chars c.args.self.now.rest.now);
  slices = flushed_slices _ _ _ _ _ _ c.requires.plain c.requires.rest c.front-pending.ensures.value c.in_ok-put.ensures.items
      c.requires.slices;
  cut = flushed_cut _ _ _ _ _ c.front-pending.ensures.value c.in_ok-put.ensures.items c.requires.pending c.requires.cut;
  pending = none_uncut (chars c.args.self.now.rest.now);
  behind = subst (λ those. AllBehind (chars c.args.self.now.rest.now) those) (sym c.in_ok-put.ensures.brackets) c.requires.behind;
  backticks = c.requires.backticks;
  missing = c.requires.missing;
}

pub returns-then-is_empty-clause-made : goal.returns-then-is_empty-clause-made
returns-then-is_empty-clause-made c = flushed_none _ _ _ _ c.front-pending.ensures.value
    (is_nothing _ _ c.if-is_empty.true c.is_empty.ensures)

pub returns-then-is_empty-clause-sound : goal.returns-then-is_empty-clause-sound
returns-then-is_empty-clause-sound c = record {
  draft = c.requires.draft;
  plain = is_rest_again _ _ _ c.requires.rest c.requires.plain;
  rest = all_of_itself (chars c.args.self.now.rest.now);
  slices = none_slices _ _ _ _ (items_of c.args.self.now.draft.marks) c.requires.plain c.requires.rest c.front-pending.ensures.value
      (is_nothing _ _ c.if-is_empty.true c.is_empty.ensures) c.requires.slices;
  cut = c.requires.cut;
  pending = none_uncut (chars c.args.self.now.rest.now);
  behind = c.requires.behind;
  backticks = c.requires.backticks;
  missing = c.requires.missing;
}
