use Rattle.std.proofs.Common.{rules, ◌∙◌, ap, chars}
use Rattle.std.proofs.lemmas.Str.{chars-nil}
use Rattle.doc_tables.proofs.UnescapeLaws.{read_first, read_on, read_all, fewer_left}
use Rattle.doc_tables.proofs.unescaping.unescaped.Goals as goal

pub characters-init : goal.characters-init
characters-init c = record {
  is_text = search rules;
  same = read_first _ _ (ap chars c.in_ok-out.ensures.bytes ∙ chars-nil);
}

pub characters-preserved : goal.characters-preserved
characters-preserved c = record {
  is_text = search rules;
  same = read_on _ _ _ _ _ _ _ _ c.characters.invariant.same c.in-Some.ensures.characters c.first_read-read.ensures.value
      c.in_ok-push_char.ensures.ok;
}

pub characters-smaller : goal.characters-smaller
characters-smaller c = fewer_left _ _ _ _ c.in-Some.ensures.characters c.first_read-read.ensures.size

pub returns : goal.returns
returns c = ap chars c.new.ensures ∙ read_all _ _ _ c.characters.invariant.same c.in_default.ensures.characters
