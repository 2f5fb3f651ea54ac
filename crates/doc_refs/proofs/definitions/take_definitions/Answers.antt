use Rattle.std.proofs.Common.{rules, List, chars, string_bytes, refl, ap, sym, ◌∙◌}
use Rattle.doc_rules.specs.Characters.{Text}
use Rattle.doc_rules.specs.Definitions.{Definition}
use Rattle.doc_rules.proofs.ParserLaws.{is_all, is_rest_again}
use Rattle.doc_rules.proofs.GrammarLaws.{definition_takes, definition_ends}
use Rattle.doc_lines.proofs.Slices.{rest_is_no_longer, rest_is_behind, seam_is_boundary}
use Rattle.doc_refs_parts.specs.Targets.{target_shown}
use Rattle.doc_refs_parts.proofs.TakenLaws.{joined_to_none, none_more, one_more, taken_all, taken_more}
use Rattle.doc_refs.proofs.definitions.take_definitions.Goals as goal

pub definitions-init : goal.definitions-init
definitions-init c = record { is_text = search rules; end = is_all _; refs = joined_to_none _ _ c.new-refs.ensures; rest = refl }

pub definitions-smaller : goal.definitions-smaller
definitions-smaller c = definition_takes _ _ (sym c.in-Some.ensures)

pub definitions-preserved : goal.definitions-preserved
definitions-preserved c =
    let i = c.definitions.invariant in
    record {
      is_text = search rules;
      end = is_rest_again _ _ _ (definition_ends _ _ (sym c.in-Some.ensures)) i.end;
      refs = taken_more c.args.entities.now (chars c.definitions.rest.now) (chars (string_bytes c.into_inner.result))
          (target_shown c.in_ok-target.target) _ c.definitions.refs _ _ c.in-Some.ensures (ap chars c.into_inner.ensures
          ∙ c.in_ok-label.ensures) c.in_ok-target.ensures c.in_ok-add.ensures.ok i.refs;
      rest = sym (ap (λ (ds : List Definition × Text). ds.1)
          (one_more c.args.entities.now (chars c.definitions.rest.now) _ c.in-Some.ensures)) ∙ i.rest;
    }

pub overflow_sub-result : goal.overflow_sub-result
overflow_sub-result c = rest_is_no_longer c.args.text.now c.definitions.rest.now c.definitions.invariant.end c.utf8.text
    c.definitions.invariant.is_text

pub returns-clause-refs : goal.returns-clause-refs
returns-clause-refs c = taken_all c.args.entities.now (chars c.definitions.rest.now) _ _ c.in_default.ensures c.definitions.invariant.refs

pub returns-clause-rest : goal.returns-clause-rest
returns-clause-rest c =
    let i = c.definitions.invariant in
    ap chars (rest_is_behind c.args.text.now c.definitions.rest.now i.end c.utf8.text i.is_text)
    ∙ sym (ap (λ (ds : List Definition × Text). ds.1) (none_more c.args.entities.now (chars c.definitions.rest.now) c.in_default.ensures))
    ∙ i.rest

pub returns-clause-boundary : goal.returns-clause-boundary
returns-clause-boundary c = seam_is_boundary c.args.text.now c.definitions.rest.now c.definitions.invariant.end c.utf8.text
    c.definitions.invariant.is_text
