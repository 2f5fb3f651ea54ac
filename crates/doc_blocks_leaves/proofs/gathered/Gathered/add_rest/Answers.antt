use Rattle.std.proofs.Common.{rules, ◌≡◌, ◌-◌, true, false, ◌++◌, chars, sym, ◌∙◌, arith}
use Rattle.std.proofs.lemmas.Result.{on_ok_weaker}
use Rattle.doc_blocks_leaves.proofs.GatheredSteps.{rest_added, rest_added_in_tab}
use Rattle.doc_blocks_leaves.proofs.gathered.Gathered.add_rest.Goals as goal

pub returns-then-not-is_in_tab-clause-all : goal.returns-then-not-is_in_tab-clause-all
returns-then-not-is_in_tab-clause-all c =
    let outside : c.is_in_tab.result ≡ false = search rules in
    on_ok_weaker {P = c.add.new.self.all ≡ c.args.self.now.all ++ chars c.rest.result.now} c.add.result
    (λ h. rest_added c.args.line.now c.args.self.now.all c.add.new.self.all (chars c.rest.result.now) (sym c.is_in_tab.ensures
    ∙ outside) c.rest.ensures h)
    c.add.ensures.all

pub returns-clause-all : goal.returns-clause-all
returns-clause-all c =
    let inside : c.is_in_tab.result ≡ true = search rules in
    let there = c.column.ensures in
    let here = c.column-2.ensures in
    let count : c.column.result - c.column-2.result ≡ c.next.new.self.column - c.args.line.now.column = omega arith in
    on_ok_weaker {P = c.add-2.new.self.all ≡ c.add_spaces.new.self.all ++ chars c.rest-2.result.now} c.add-2.result
    (λ h. rest_added_in_tab c.args.line.now c.copy-behind.result c.next.new.self (c.column.result - c.column-2.result) c.args.self.now.all
    c.add_spaces.new.self.all c.add-2.new.self.all (chars c.rest-2.result.now) (sym c.is_in_tab.ensures
    ∙ inside) c.copy-behind.ensures c.next.ensures.place count c.rest-2.ensures c.in_ok-add_spaces.ensures.all h)
    c.add-2.ensures.all
