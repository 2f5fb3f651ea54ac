use Rattle.std.proofs.Common.{rules, [], ◌∷◌, ◌++◌, refl, ap, sym, ◌∙◌, append_assoc, chars}
use Rattle.doc_lines.proofs.Pushes.{nothing_before}
use Rattle.doc_lines.proofs.UnescapeSteps.{goes_on, writes, ends}
use Rattle.doc_lines.proofs.escapes.unescape.Goals as goal

pub characters-init : goal.characters-init
characters-init c = (search rules, search rules, (record { front = []; split = refl }, nothing_before _ _ c.in_ok-out.ensures.bytes))

pub characters-preserved-in_default-escape_or_reference : goal.characters-preserved-in_default-escape_or_reference
characters-preserved-in_default-escape_or_reference c =
    let i = c.characters.invariant in (
      search rules,
      search rules,
      (
        record {
          front = i.2.0.front ++ c.in-Some.c ∷ [];
          split = i.2.0.split ∙ (ap (λ more. i.2.0.front ++ more) c.in-Some.ensures.characters
              ∙ sym (append_assoc i.2.0.front (c.in-Some.c ∷ []) (chars c.in-Some.behind.now)));
        },
        goes_on _ _ i.2.0.front _ _ _ c.in-Some.c c.in-Some.ensures.characters c.in_default-escape_or_reference.ensures.value i.2.1,
      ),
    )

pub characters-preserved : goal.characters-preserved
characters-preserved c =
    let i = c.characters.invariant in (
      search rules,
      search rules,
      (
        record { front = []; split = refl },
        writes _ _ i.2.0.front _ _ _ _ _ _ _ _ _ c.in-Some.c c.in-Some.ensures.characters i.2.0.split c.front.ensures.joins
            c.in_ok-push_text.ensures.ok c.in_ok-push_characters.ensures.ok c.in-Some-escape_or_reference.ensures.value
            c.in-Some-escape_or_reference.ensures.end i.2.1,
      ),
    )

pub returns : goal.returns
returns c =
    let i = c.characters.invariant in
    ap chars c.new.ensures ∙ ends _ _ i.2.0.front _ _ _ _ c.in_default.ensures.characters i.2.0.split c.in_ok-push_text-2.ensures.ok i.2.1
