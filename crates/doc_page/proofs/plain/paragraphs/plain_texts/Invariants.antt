use Rattle.std.proofs.Common.{◌≡◌, ◌++◌, map, false, All}
use Rattle.doc_page_parts.specs.Lines.{without_ending, stripped}
use Rattle.doc_page_parts.specs.Pages.{is_empty}
use Rattle.doc_page.specs.Plain.{paragraphs, plain_texts}
use Rattle.doc_page.proofs.plain.paragraphs.plain_texts.Given as goal

-- the texts, and the paragraphs of the open run and the lines that are left, are all paragraphs
abbrev pub invariant-loop-line : goal.invariant-loop-line
invariant-loop-line l = record {
  full : All (λ x. is_empty x ≡ false) (map (λ x. x.now) l.run.items);
  told : l.texts.items ++ paragraphs (map (λ x. x.now) l.run.items ++ map (λ line. stripped (without_ending line)) l.line-iterator)
      ≡ plain_texts l.text;
}
