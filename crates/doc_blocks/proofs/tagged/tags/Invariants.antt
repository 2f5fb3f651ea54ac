use Rattle.std.proofs.Common.{◌≡◌, [], chars, length}
use denote.Text.{Utf8}
use denote.Shadow.{shadow}
use Rattle.doc_rules.specs.Lines.{lines_of}
use Rattle.doc_refs_parts.specs.Targets.{targets_of}
use Rattle.doc_blocks_leaves.specs.Paths.{empty_path}
use Rattle.doc_blocks.specs.StateSteps.{shown, document_left}
use Rattle.doc_blocks.specs.BuilderSteps.{state_of}
use Rattle.doc_blocks.specs.LevelSteps.{IsSound}
use Rattle.doc_blocks.proofs.tagged.tags.Given as goal

abbrev pub invariant-lines : goal.invariant-lines
invariant-lines l = record {
  is_text : shadow (Utf8 l.rest);
  sound : IsSound l.builder.levels;
  left : document_left l.entities (lines_of (chars l.text)) (empty_path, targets_of [])
      ≡ document_left l.entities (lines_of (chars l.rest)) (shown (state_of l.builder));
}

abbrev pub decreases-lines : goal.decreases-lines
decreases-lines l = length (chars l.rest)
