use Rattle.doc_store.proofs.StateSteps.{move_free, move_gives, move_named, move_stands, move_unled, store_moved}
use Rattle.doc_store.proofs.store.Store.move_page.Goals as goal

pub move_page-requires-clause-stands : goal.move_page-requires-clause-stands
move_page-requires-clause-stands c =
    let i = c.self.inside in
    move_stands i.pages i.aliases i.puts c.args.self.now c.args.from.now c.args.to.now c.may_move.result c.self.view_is
    c.may_move.ensures.answer c.in_ok-may_move.was

pub move_page-requires-clause-free : goal.move_page-requires-clause-free
move_page-requires-clause-free c =
    let i = c.self.inside in
    move_free i.pages i.aliases i.puts c.args.self.now c.args.from.now c.args.to.now c.may_move.result c.self.view_is
    c.may_move.ensures.answer c.in_ok-may_move.was

pub move_page-requires-clause-named : goal.move_page-requires-clause-named
move_page-requires-clause-named c =
    let i = c.self.inside in
    move_named i.pages i.aliases i.puts c.args.self.now c.args.from.now c.args.to.now c.may_move.result c.self.view_is
    c.may_move.ensures.answer c.in_ok-may_move.was c.self.invariant

pub move_page-requires-clause-unled : goal.move_page-requires-clause-unled
move_page-requires-clause-unled c =
    let i = c.self.inside in
    move_unled i.pages i.aliases i.puts c.args.self.now c.args.from.now c.args.to.now c.may_move.result c.self.view_is
    c.may_move.ensures.answer c.in_ok-may_move.was c.self.invariant

pub invariant_of-self-2 : goal.invariant_of-self-2
invariant_of-self-2 c =
    let i = c.self.inside in
    store_moved i.pages i.aliases i.puts c.args.self.now c.args.from.now c.args.to.now c.may_move.result c.self.view_is
    c.may_move.ensures.answer c.in_ok-may_move.was
    c.move_page.new.pages c.move_page.new.aliases c.in_ok-move_page.ensures.pages c.in_ok-move_page.ensures.aliases c.self.invariant

pub returns : goal.returns
returns c =
    let i = c.self.inside in
    move_gives i.pages i.aliases i.puts c.args.self.now c.args.from.now c.args.to.now c.may_move.result c.self.view_is
    c.may_move.ensures.answer c.in_ok-may_move.was
    c.move_page.new.pages c.move_page.new.aliases c.in_ok-move_page.ensures.pages c.in_ok-move_page.ensures.aliases
