use Rattle.std.proofs.Common.{◌++◌, ap, sym, ◌∙◌, append-nil}
use Rattle.doc_rules.specs.Entities.{Table, built_in}
use Rattle.doc_rules.specs.Escapes.{find_entity}
use Rattle.doc_rules.specs.Rules.{Rules}
use Rattle.doc_lines.specs.Entities.{added_entities}
use Rattle.doc_lines.proofs.BuiltInLaws.{find_is}
use Rattle.doc_lines.proofs.entities.Entities.find.Goals as goal

pub returns-in-None : goal.returns-in-None
returns-in-None c =
    c.find_built_in.ensures
    ∙ ap (λ (T : Table). find_entity T c.args.name.now) (sym (append-nil built_in))
    ∙ ap (λ o. find_entity (built_in ++ added_entities o) c.args.name.now) (sym c.in-None.is)
    ∙ find_is (added_entities c.self.inside.added) c.args.self.now.names c.args.name.now (ap (λ (rules : Rules). rules.names) c.self.view_is) c.self.invariant c.utf8.name

pub returns-in-Some : goal.returns-in-Some
returns-in-Some c =
    c.find_either.ensures
    ∙ ap (λ o. find_entity (built_in ++ added_entities o) c.args.name.now) (sym c.in-Some.is)
    ∙ find_is (added_entities c.self.inside.added) c.args.self.now.names c.args.name.now (ap (λ (rules : Rules). rules.names) c.self.view_is) c.self.invariant c.utf8.name
