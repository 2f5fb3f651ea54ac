use Rattle.doc_rules.proofs.ParserLaws.{is_rest_again}
use Rattle.doc_inlines.proofs.ReaderLaws.{passed_made, passed_pending, behind_next}
use Rattle.doc_inlines.proofs.reader.Reader.pass.Goals as goal

pub returns-clause-made : goal.returns-clause-made
returns-clause-made c = passed_made _ _ _ _ c.requires.sound.rest c.requires.rest

pub returns-clause-sound : goal.returns-clause-sound
returns-clause-sound c = record {
  draft = c.requires.sound.draft;
  plain = c.requires.sound.plain;
  rest = is_rest_again _ _ _ c.requires.rest c.requires.sound.rest;
  slices = c.requires.sound.slices;
  cut = c.requires.sound.cut;
  pending = passed_pending _ _ _ c.requires.sound.rest c.requires.rest c.requires.sound.pending c.requires.uncut;
  behind = behind_next _ _ _ c.requires.rest c.requires.sound.behind;
  backticks = c.requires.sound.backticks;
  missing = c.requires.sound.missing;
}
