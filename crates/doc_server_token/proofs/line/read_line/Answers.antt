use Rattle.std.proofs.Common.{◌∷◌, [], ◌∙◌, ap, append-nil, arith, subst, take}
use Rattle.std.specs.Io.KnownBytes.{Consumes, IsAtEnd}
use Rattle.std.proofs.KnownBytes.{Consumes-trans}
use Rattle.doc_server_token.proofs.Reading.{at_end, at_feed, one_byte, too_long}
use Rattle.doc_server_token.proofs.line.read_line.Goals as goal

-- the end of the input
pub returns-in-Ok-eq0-clause-line : goal.returns-in-Ok-eq0-clause-line
returns-in-Ok-eq0-clause-line g c =
    let left = g.I.Input.unread c.args.input.now in
    let mid = g.I.Input.unread c.bytes.input in
    let new = g.I.Input.unread c.read.new.self in
    let none = c.in-Ok-eq0.field-0-test in
    let end : IsAtEnd new = c.in-Ok-eq0.ensures.bytes.1 none (omega (arith, c.read.auto.buf)) in
    let kept : Consumes mid new _ = subst (λ n. Consumes mid new (take n c.read.new.buf)) none c.in-Ok-eq0.ensures.bytes.0 in
    at_end left new c.bytes.line.items
    (subst (Consumes left new) (append-nil c.bytes.line.items)
    (Consumes-trans left mid new c.bytes.line.items _ c.bytes.invariant.read kept))
    end c.bytes.invariant.front

-- the end of the line
pub returns-in-Ok-clause-line : goal.returns-in-Ok-clause-line
returns-in-Ok-clause-line g c =
    let left = g.I.Input.unread c.args.input.now in
    let mid = g.I.Input.unread c.bytes.input in
    let new = g.I.Input.unread c.read.new.self in
    let byte = one_byte c.read.new.buf c.in-Ok.field-0 (omega (arith, c.read.auto.buf)) c.in-Ok.ensures.bound.0 c.in-Ok.field-0-test.1 in
    let feed = subst (Consumes mid new) (byte ∙ ap (λ b. b ∷ []) c.if-piece-eq10.true) c.in-Ok.ensures.bytes.0 in
    at_feed left mid new c.bytes.line.items c.bytes.invariant.read feed c.bytes.invariant.front

-- the line is too long
pub returns-clause-line : goal.returns-clause-line
returns-clause-line g c =
    too_long (g.I.Input.unread c.args.input.now) (g.I.Input.unread c.bytes.input) c.bytes.line.items 16384 c.bytes.invariant.read
    c.bytes.invariant.front (omega (arith, c.bytes-test.false, c.bytes.invariant.some, c.bytes.line.ok.0))
