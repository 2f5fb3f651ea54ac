use Rattle.std.proofs.Common.{subst, sym, chars, ◌∙◌}
use Rattle.doc_inlines_marks.specs.Slices.{AreSlices, AreCut}
use Rattle.doc_rules.specs.Parsers.{before}
use Rattle.doc_inlines.specs.ReaderSteps.{AllBehind}
use Rattle.doc_inlines.proofs.ReaderLaws.{nothing_pending, none_uncut, all_of_itself}
use Rattle.doc_inlines.proofs.reader.Reader.begin.Goals as goal

pub returns-clause-made : goal.returns-clause-made
returns-clause-made c = nothing_pending _ (chars c.args.text.now) ∙ c.clear.ensures.made

pub returns-clause-sound : goal.returns-clause-sound
returns-clause-sound c = record {
  draft = c.clear.ensures.sound;
  plain = all_of_itself (chars c.args.text.now);
  rest = all_of_itself (chars c.args.text.now);
  slices = subst (λ those. AreSlices (before (chars c.args.text.now) (chars c.args.text.now)) those) (sym c.clear.ensures.items) tt;
  cut = subst AreCut (sym c.clear.ensures.items) tt;
  pending = none_uncut (chars c.args.text.now);
  behind = subst (λ those. AllBehind (chars c.args.text.now) those) (sym c.clear.ensures.brackets) tt;
  backticks = c.forget.ensures (chars c.args.text.now);
  missing = c.new-self.ensures (chars c.args.text.now);
}
