use Rattle.std.proofs.Common.{◌≡◌, Bool, true, false, None, ap, sym, ◌∙◌}
use Rattle.std.specs.Prelude.{bytes_eq}
use Rattle.doc_lines.specs.Entities.{characters, entity_shown}
use Rattle.doc_lines.proofs.TableLaws.{choice, in_line, found_in}
use Rattle.doc_lines.proofs.entities.table.find_in_line.Goals as goal

pub returns-in_default : goal.returns-in_default
returns-in_default c = sym (in_line c.args.line.now (entity_shown c.entity_of.result) c.args.name.now c.entity_of.ensures
    ∙ ap (λ o. found_in (entity_shown o) c.args.name.now) c.in_default.is)

pub returns-then-eq : goal.returns-then-eq
returns-then-eq c =
    let same : bytes_eq c.in-Some.other.now c.args.name.now ≡ true = sym c.eq.ensures ∙ c.if-eq.true in
    sym (in_line c.args.line.now (entity_shown c.entity_of.result) c.args.name.now c.entity_of.ensures
    ∙ ap (λ o. found_in (entity_shown o) c.args.name.now) c.in-Some.is
    ∙ ap (λ (b : Bool). choice b (characters c.in-Some.characters) None) same)

pub returns : goal.returns
returns c =
    let apart : bytes_eq c.in-Some.other.now c.args.name.now ≡ false = sym c.eq.ensures ∙ c.if-eq.false in
    sym (in_line c.args.line.now (entity_shown c.entity_of.result) c.args.name.now c.entity_of.ensures
    ∙ ap (λ o. found_in (entity_shown o) c.args.name.now) c.in-Some.is
    ∙ ap (λ (b : Bool). choice b (characters c.in-Some.characters) None) apart)
