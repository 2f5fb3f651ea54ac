use Rattle.doc_server_follow.proofs.TakenLemmas.{broken_stands, more_stands, not_any, short_stands, some_are}
use Rattle.doc_server_follow.proofs.sight.sight_behind_gate.Goals as goal

pub returns-then-not-is_empty : goal.returns-then-not-is_empty
returns-then-not-is_empty c =
    more_stands c.args.followed.now c.args.bytes.now c.in_ok-taken.taken _ c.digest.ensures c.in_ok-taken.ensures c.more_of.result
    (some_are _ _ _ c.get.ensures c.is_empty-is_empty.ensures c.if-not-is_empty.true) c.more_of.ensures

pub returns-then-taken : goal.returns-then-taken
returns-then-taken c =
    short_stands c.args.followed.now c.args.bytes.now c.in_ok-taken.taken _ c.digest.ensures c.in_ok-taken.ensures
    (not_any _ _ _ c.get.ensures c.is_empty-is_empty.ensures c.if-not-is_empty.false) c.requires c.if-taken.true

pub returns : goal.returns
returns c =
    broken_stands c.args.followed.now c.args.bytes.now c.in_ok-taken.taken _ c.digest.ensures c.in_ok-taken.ensures
    (not_any _ _ _ c.get.ensures c.is_empty-is_empty.ensures c.if-not-is_empty.false) c.requires c.if-taken.false
