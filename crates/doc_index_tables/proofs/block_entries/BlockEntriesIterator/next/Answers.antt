use Rattle.std.proofs.Common.{◌+◌, ℕ, List, drop, subst, sym}
use Rattle.std.specs.Iterator.{YieldsFirst}
use Rattle.doc_index_tables.specs.Blocks.{joined}
use Rattle.doc_index_tables.proofs.EntryWalk.{entry_next, entry_none, entry_turn, fewer_left}
use Rattle.doc_index_tables.proofs.block_entries.BlockEntriesIterator.next.Goals as goal

pub returns-then-self-len-clause-steps : goal.returns-then-self-len-clause-steps
returns-then-self-len-clause-steps c =
    entry_next c.self.inside.blocks.now c.self.inside.next c.len.result c.args.self.now c.self.view_is c.in_ok-block.block.now
    c.in_ok-block.others.now c.in_ok-block.ensures.cases.0 c.len.ensures c.at-entry.result c.if-self-len.true c.at-entry.ensures

pub returns-then-self-len-clause-goes : goal.returns-then-self-len-clause-goes
returns-then-self-len-clause-goes c =
    let less = fewer_left c.args.self.now (drop (c.self.inside.next + 1) (joined c.self.inside.blocks.now)) c.at-entry.result
    (entry_next c.self.inside.blocks.now c.self.inside.next c.len.result c.args.self.now c.self.view_is c.in_ok-block.block.now
    c.in_ok-block.others.now c.in_ok-block.ensures.cases.0 c.len.ensures c.at-entry.result c.if-self-len.true c.at-entry.ensures) in
    record { on = λ _. (tt, tt, less); keeps = tt; rests = λ _. tt }

pub returns-in_err-block-2-clause-steps : goal.returns-in_err-block-2-clause-steps
returns-in_err-block-2-clause-steps c =
    let none = entry_none c.self.inside.blocks.now c.self.inside.next c.len.result c.args.self.now c.self.view_is c.in_ok-block.block.now
    c.in_ok-block.others.now c.in_ok-block.ensures.cases.0 c.len.ensures c.in_err-block-2.ensures.cases c.if-self-len.false in
    subst (λ r. YieldsFirst {S = List (ℕ × ℕ)} {A = ℕ × ℕ} (λ s. s) c.args.self.now r c.args.self.now)
    (sym c.from_residual-in_err-block-2.ensures) (none, none)

pub returns-clause-steps : goal.returns-clause-steps
returns-clause-steps c =
    entry_turn c.self.inside.blocks.now c.self.inside.next c.len.result c.args.self.now c.self.view_is c.in_ok-block.block.now
    c.in_ok-block.others.now c.in_ok-block.ensures.cases.0 c.len.ensures c.self.invariant c.if-self-len.false c.in_ok-block-2.block.now
    c.in_ok-block-2.field-0-1.now c.in_ok-block-2.ensures.cases.0 c.at-entry-2.result c.at-entry-2.ensures

pub returns-clause-goes : goal.returns-clause-goes
returns-clause-goes c =
    let less = fewer_left c.args.self.now (drop 1 (joined c.in_ok-block.others.now)) c.at-entry-2.result
    (entry_turn c.self.inside.blocks.now c.self.inside.next c.len.result c.args.self.now c.self.view_is c.in_ok-block.block.now
    c.in_ok-block.others.now c.in_ok-block.ensures.cases.0 c.len.ensures c.self.invariant c.if-self-len.false c.in_ok-block-2.block.now
    c.in_ok-block-2.field-0-1.now c.in_ok-block-2.ensures.cases.0 c.at-entry-2.result c.at-entry-2.ensures) in
    record { on = λ _. (tt, tt, less); keeps = tt; rests = λ _. tt }
