use Rattle.std.proofs.Common.{◌≡◌, ◌++◌, Some, None, ap, sym, ◌∙◌}
use Rattle.std.specs.Prelude.{option_map}
use Rattle.std.specs.BTreeMap.{insert_entry}
use Rattle.std.specs.Cmp.Lexicographic.{slice_cmp}
use Rattle.std.specs.Ordering.{nat_cmp}
use Rattle.doc_rules.specs.Characters.{Text}
use Rattle.doc_rules.specs.Entities.{Entity, built_in}
use Rattle.doc_rules.specs.Escapes.{find_entity}
use Rattle.doc_lines.specs.Entities.{characters, entities_shown, entity_shown, has_ascii_names}
use Rattle.doc_lines.proofs.RowLaws.{entity_ascii}
use Rattle.doc_lines.proofs.TableLaws.{adds_none, adds_known, adds_new, insert_shown, ascii_inserted}
use Rattle.doc_lines.proofs.entities.table.add_line.Goals as goal

pub returns-in_default-clause-added : goal.returns-in_default-clause-added
returns-in_default-clause-added c = λ _. adds_none (entities_shown c.args.added.now.entries) c.args.line.now
    (entity_shown c.entity_of.result) c.entity_of.ensures (ap entity_shown c.in_default.is)

pub returns-in-Some-find_either-clause-added : goal.returns-in-Some-find_either-clause-added
returns-in-Some-find_either-clause-added c =
    let entity : Entity = (c.in-Some.name.now, characters c.in-Some.characters) in
    let known : find_entity (built_in ++ entities_shown c.args.added.now.entries) c.in-Some.name.now
    ≡ Some (characters c.in-Some-find_either.those) = sym c.find_either.ensures ∙ ap (option_map characters) c.in-Some-find_either.is in
    λ _. adds_known (entities_shown c.args.added.now.entries) c.args.line.now (entity_shown c.entity_of.result) entity
    (characters c.in-Some-find_either.those) c.entity_of.ensures (ap entity_shown c.in-Some.is) known

pub returns-clause-added : goal.returns-clause-added
returns-clause-added c =
    let entity : Entity = (c.in-Some.name.now, characters c.in-Some.characters) in
    let unknown : find_entity (built_in ++ entities_shown c.args.added.now.entries) c.in-Some.name.now ≡ None = sym c.find_either.ensures
    ∙ ap (option_map characters) c.in_default-find_either.is in
    let inserted : entities_shown c.insert.new.self.entries ≡ insert_entry (slice_cmp nat_cmp) (entities_shown c.args.added.now.entries)
    c.in-Some.name.now (characters c.in-Some.characters)
    = ap entities_shown c.in_ok-insert.ensures.entries ∙ insert_shown c.args.added.now.entries _ c.in-Some.characters
    ∙ ap (λ (k : Text). insert_entry (slice_cmp nat_cmp) (entities_shown c.args.added.now.entries) k (characters c.in-Some.characters))
    c.in_ok-from_str.ensures.ok in
    λ _. adds_new (entities_shown c.args.added.now.entries) (entities_shown c.insert.new.self.entries) c.args.line.now
    (entity_shown c.entity_of.result) entity c.entity_of.ensures (ap entity_shown c.in-Some.is) unknown inserted

pub returns-clause-ascii : goal.returns-clause-ascii
returns-clause-ascii c =
    let entity : Entity = (c.in-Some.name.now, characters c.in-Some.characters) in
    let inserted : entities_shown c.insert.new.self.entries ≡ insert_entry (slice_cmp nat_cmp) (entities_shown c.args.added.now.entries)
    c.in-Some.name.now (characters c.in-Some.characters)
    = ap entities_shown c.in_ok-insert.ensures.entries ∙ insert_shown c.args.added.now.entries _ c.in-Some.characters
    ∙ ap (λ (k : Text). insert_entry (slice_cmp nat_cmp) (entities_shown c.args.added.now.entries) k (characters c.in-Some.characters))
    c.in_ok-from_str.ensures.ok in
    λ ascii. ap has_ascii_names inserted ∙ ascii_inserted (entities_shown c.args.added.now.entries) c.in-Some.name.now
    (characters c.in-Some.characters) (entity_ascii c.args.line.now entity (sym c.entity_of.ensures ∙ ap entity_shown c.in-Some.is))
    ascii
