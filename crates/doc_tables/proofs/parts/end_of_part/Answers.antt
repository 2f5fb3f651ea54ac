use Rattle.std.proofs.Common.{rules, ◌≡◌, true, false, ◌∙◌, sym}
use Rattle.doc_lines.proofs.Steps.{one_further}
use Rattle.doc_tables.proofs.PartLaws.{ends_here, ends_later, ends_empty}
use Rattle.doc_tables.proofs.parts.end_of_part.Goals as goal

pub returns-then-ends_part-clause-value : goal.returns-then-ends_part-clause-value
returns-then-ends_part-clause-value c =
    let passed : c.ends_part.result ≡ true = search rules in
    sym (c.characters.invariant.same ∙ ends_here _ _ _ _ c.in-Some.ensures.characters (sym c.ends_part.ensures ∙ passed))

pub characters-preserved : goal.characters-preserved
characters-preserved c =
    let failed : c.ends_part.result ≡ false = search rules in
    record {
      is_text = search rules;
      same = c.characters.invariant.same ∙ ends_later _ _ _ _ c.in-Some.ensures.characters (sym c.ends_part.ensures ∙ failed);
      end = one_further c.in-Some.c _ _ _ c.in-Some.ensures.characters c.characters.invariant.end;
    }

pub returns-clause-value : goal.returns-clause-value
returns-clause-value c = sym (c.characters.invariant.same ∙ ends_empty _ _ c.in_default.ensures.characters)
