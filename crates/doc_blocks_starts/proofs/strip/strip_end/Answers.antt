use Rattle.std.proofs.Common.{rules, ◌≡◌, true, false, ◌∙◌, ap, sym}
use Rattle.doc_rules.specs.Characters.{strip_end}
use Rattle.doc_blocks_starts.proofs.StripLaws.{end_stays, end_goes}
use Rattle.doc_blocks_starts.proofs.strip.strip_end.Goals as goal

pub returns-then-not-test : goal.returns-then-not-test
returns-then-not-test g c =
    let failed : c.test.result ≡ false = search rules in
    λ class d. sym (c.characters.invariant.1 class d ∙ (ap (strip_end class) c.in-Some.ensures
    ∙ (end_stays class _ c.in-Some.c (sym (d _ _ c.test.ensures) ∙ failed) ∙ sym c.in-Some.ensures)))

pub characters-preserved : goal.characters-preserved
characters-preserved g c =
    let passed : c.test.result ≡ true = search rules in (
      search rules,
      λ class d. c.characters.invariant.1 class d ∙ (ap (strip_end class) c.in-Some.ensures
          ∙ end_goes class _ c.in-Some.c (sym (d _ _ c.test.ensures) ∙ passed)),
    )

pub returns : goal.returns
unfolding strip_end
returns g c = λ class d. sym (c.characters.invariant.1 class d ∙ (ap (strip_end class) c.in_default.ensures ∙ sym c.in_default.ensures))
