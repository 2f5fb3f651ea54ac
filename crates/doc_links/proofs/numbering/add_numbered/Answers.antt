use Rattle.doc_index.specs.Held.{held, known_as}
use Rattle.doc_index_tables.specs.Maps.{text_map}
use Rattle.doc_links.proofs.NumberingSteps.{fewer_held, more_held, removed_again}
use Rattle.doc_links.proofs.numbering.add_numbered.Goals as goal

pub returns-in_err-add-clause-numbered : goal.returns-in_err-add-clause-numbered
returns-in_err-add-clause-numbered c are =
    let old = c.args.numbering.now in
    more_held c.args.pages.now old.names old.numbers.items are c.add.new.self c.add.ensures.others

pub returns-in_default-clause-numbered : goal.returns-in_default-clause-numbered
returns-in_default-clause-numbered c are =
    let old = c.args.numbering.now in
    c.enter_page.ensures.numbered (more_held c.args.pages.now old.names old.numbers.items are c.add.new.self c.add.ensures.others)

pub returns-clause-err : goal.returns-clause-err
returns-clause-err c =
    removed_again (held c.args.pages.now) (held c.add.new.self) (held c.drop_page.new.self) (c.args.path.now, c.args.stamp)
    (known_as c.args.known (text_map c.args.keys.now)) c.requires.free c.in_ok-add.ensures.ok c.drop_page.ensures.rest

pub returns-clause-numbered : goal.returns-clause-numbered
returns-clause-numbered c are =
    let old = c.args.numbering.now in
    let new = c.enter_page.new.numbering in
    let mid = c.add.new.self in
    fewer_held mid new.names new.numbers.items
    (c.enter_page.ensures.numbered (more_held c.args.pages.now old.names old.numbers.items are mid c.add.ensures.others))
    c.drop_page.new.self c.args.path.now c.args.stamp c.enter_page.ensures.apart c.drop_page.ensures.rest c.drop_page.ensures.others
    c.in-Err.ensures.gone
