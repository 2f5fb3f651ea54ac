use Rattle.std.proofs.Common.{rules, ◌≡◌, true, false, ap, ◌∙◌, chars}
use Rattle.doc_rules.specs.Anchors.{with_number}
use Rattle.doc_html_anchors.specs.Numbers.{names}
use Rattle.doc_html_anchors.proofs.NumberLaws.{one_below}
use Rattle.doc_html_anchors.proofs.EntryLaws.{looked_up}
use Rattle.doc_html_anchors.proofs.numbers.next_number.Goals as goal

pub returns-then-not-contains_key-clause-next : goal.returns-then-not-contains_key-clause-next
returns-then-not-contains_key-clause-next c =
    let absent : c.contains_key.result ≡ false = search rules in
    record {
      reached = c.numbers.auto.number;
      is_free = looked_up c.args.entries.now c.as_str.result.now (with_number (chars c.args.name.now) c.numbers.number)
          c.contains_key.result c.as_str.utf8 (ap chars c.as_str.ensures.value ∙ c.in_ok-anchor.ensures) c.contains_key.ensures ∙ absent;
      below = c.numbers.invariant;
    }

pub numbers-preserved : goal.numbers-preserved
numbers-preserved c =
    let there : c.contains_key.result ≡ true = search rules in
    one_below (names c.args.entries.now) (chars c.args.name.now) c.args.first c.numbers.number c.numbers.invariant
    (looked_up c.args.entries.now c.as_str.result.now (with_number (chars c.args.name.now) c.numbers.number) c.contains_key.result
    c.as_str.utf8 (ap chars c.as_str.ensures.value ∙ c.in_ok-anchor.ensures) c.contains_key.ensures ∙ there)
