use Rattle.doc_server_log.proofs.EscapingSteps.{cut_path, grows, none_yet, whole_path}
use Rattle.doc_server_log.proofs.json_line.push_escaped_path.Goals as goal

pub loop-byte-init : goal.loop-byte-init
loop-byte-init c = none_yet _ c.front-byte-items.result.now

pub loop-byte-preserved : goal.loop-byte-preserved
loop-byte-preserved c =
    grows _ _ _ c.front-byte-items.result.now c.loop-byte.byte-index c.loop-byte-test.true c.loop-byte.invariant
    c.in_ok-push_escaped_byte.ensures

pub returns-then-path-le-PATH_LIMIT : goal.returns-then-path-le-PATH_LIMIT
returns-then-path-le-PATH_LIMIT c =
    whole_path _ _ c.args.path.now c.front-byte-items.result.now c.loop-byte.byte-index c.front-byte-items.ensures c.loop-byte-test.false
    c.loop-byte.invariant c.if-path-le-PATH_LIMIT.true

pub returns : goal.returns
returns c =
    cut_path _ _ _ c.args.path.now c.front-byte-items.result.now c.loop-byte.byte-index c.front-byte-items.ensures c.loop-byte-test.false
    c.loop-byte.invariant c.if-path-le-PATH_LIMIT.false c.in_ok-push_str.ensures.bytes
