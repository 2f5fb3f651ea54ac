use Rattle.std.proofs.Common.{rules, ◌∙◌, ◌++◌, ◌∷◌, [], ap, refl, chars}
use Rattle.std.proofs.lemmas.Str.{chars-nil}
use Rattle.doc_blocks.proofs.ContentLaws.{secured, secured_all}
use Rattle.doc_blocks.proofs.content.secure_text.Goals as goal

pub characters-init : goal.characters-init
characters-init c = (search rules, ([], (refl, ap chars c.new-secure.ensures.bytes ∙ chars-nil)))

pub characters-preserved : goal.characters-preserved
characters-preserved c =
    let i = c.characters.invariant in (
      search rules,
      (
        i.1.0 ++ c.in-Some.c ∷ [],
        secured i.1.0 (chars c.characters.rest.now) _ _ _ _ c.in-Some.c c.secure_char.result i.1.1.0 c.in-Some.ensures.characters i.1.1.1
            c.in_ok-push_char.ensures.ok c.secure_char.ensures,
      ),
    )

pub returns : goal.returns
returns c =
    let i = c.characters.invariant in
    secured_all i.1.0 (chars c.characters.rest.now) _ _ i.1.1.0 c.in_default.ensures.characters i.1.1.1
