use Rattle.std.proofs.Common.{ap, arith, inl, inr, refl, append-nil, subst, sym, take, ◌≡◌, ◌∙◌, ◌≤◌, vec_len}
use Rattle.std.specs.Prelude.{IfErr, IfOk, IfSome, OnOk}
use Rattle.std.specs.Io.KnownBytes.{Consumes, IsAtEnd}
use Rattle.std.proofs.KnownBytes.{Consumes-nil, Consumes-trans}
use Rattle.doc_server_streams.specs.Streams.{one_more}
use Rattle.doc_server_streams.specs.Faults.{IsTooLong, IsUnread, ReadsFailed, most_reads}
use Rattle.doc_server_streams.proofs.Reading.{grown, had_many, is_error, named_reads, named_unread, read_more, unadded, was_all}
use Rattle.doc_server_streams.proofs.whole_input.read_pieces.Goals as goal

pub reads-init : goal.reads-init
reads-init g c =
    let left = g.I.Input.unread c.args.input.now in
    record {
      read = subst (Consumes left left) (sym c.new-bytes.ensures.items) (Consumes-nil left);
      within = omega (arith, c.new-bytes.ensures.len);
      some = omega arith;
      count = refl;
    }

pub reads-preserved : goal.reads-preserved
reads-preserved g c =
    let added = c.in_ok-add_piece-in-Ok.ensures.added in
    record {
      read = read_more (g.I.Input.unread c.args.input.now) (g.I.Input.unread c.reads.input) (g.I.Input.unread c.read.new.self)
          c.reads.bytes.items (take c.in-Ok.count c.read.new.buf) c.add_piece.new.bytes.items c.reads.invariant.read
          c.in-Ok.ensures.bytes.0 added;
      within = c.in_ok-add_piece-in-Ok.ensures.within;
      some = grown c.reads.bytes.items (take c.in-Ok.count c.read.new.buf) c.add_piece.new.bytes.items c.reads.counter
          (vec_len c.reads.bytes) (vec_len c.add_piece.new.bytes) c.in-Ok.count added c.reads.invariant.some c.reads.bytes.ok.0
          c.add_piece.new.bytes.ok.0 c.in-Ok.ensures.bound.1 c.in-Ok.count-test.1;
      count = c.in-Ok.ensures.count ∙ c.reads.invariant.count;
    }

-- the end of the input
pub returns-in-Ok-eq0 : goal.returns-in-Ok-eq0
returns-in-Ok-eq0 g c =
    let left = g.I.Input.unread c.args.input.now in
    let mid = g.I.Input.unread c.reads.input in
    let new = g.I.Input.unread c.read.new.self in
    let none = c.in-Ok-eq0.field-0-test in
    let end : IsAtEnd new = c.in-Ok-eq0.ensures.bytes.1 none (omega (arith, c.requires, c.reads.auto.piece, c.read.auto.buf)) in
    let kept : Consumes mid new _ = subst (λ n. Consumes mid new (take n c.read.new.buf)) none c.in-Ok-eq0.ensures.bytes.0 in
    record {
      bytes = was_all left new c.reads.bytes.items
          (subst (Consumes left new) (append-nil c.reads.bytes.items)
          (Consumes-trans left mid new c.reads.bytes.items _ c.reads.invariant.read kept)) end;
      within = c.reads.invariant.within;
      end = end;
      fault = tt;
      reads = c.in-Ok-eq0.ensures.count ∙ c.reads.invariant.count;
    }

-- a piece that isn't added
pub returns-in_err-add_piece-in-Ok : goal.returns-in_err-add_piece-in-Ok
returns-in_err-add_piece-in-Ok g c =
    let left = g.I.Input.unread c.args.input.now in
    let mid = g.I.Input.unread c.reads.input in
    let new = g.I.Input.unread c.read.new.self in
    let is = sym (is_error c.from_residual.result c.in_err-add_piece-in-Ok.field-0.0 c.from_residual.ensures.1) in
    let both = unadded c.args.name.now c.args.limit left new c.reads.bytes.items (take c.in-Ok.count c.read.new.buf)
    (g.I.Input.failed c.args.input.now) (g.I.Input.failed c.read.new.self) c.in_err-add_piece-in-Ok.field-0.0
    c.in_err-add_piece-in-Ok.ensures.fault
    (Consumes-trans left mid new _ _ c.reads.invariant.read c.in-Ok.ensures.bytes.0)
    (c.in-Ok.ensures.count ∙ c.reads.invariant.count) in
    record {
      bytes = subst (λ r. IfOk r (λ bytes. IfSome left (λ all. bytes.items ≡ all))) is tt;
      within = subst (λ r. IfOk r (λ bytes. vec_len bytes ≤ c.args.limit)) is tt;
      end = subst (λ r. OnOk r (IsAtEnd new)) is tt;
      fault = subst (λ r. IfErr r (IsUnread c.args.name.now c.args.limit left)) is both.0;
      reads = subst (λ r. ReadsFailed (IsTooLong c.args.limit left) (g.I.Input.failed c.args.input.now)
          (g.I.Input.failed c.read.new.self) r) is both.1;
    }

-- a read that failed
pub returns-in-Err : goal.returns-in-Err
returns-in-Err g c = record {
  bytes = tt;
  within = tt;
  end = tt;
  fault = named_unread c.args.name.now c.args.limit (g.I.Input.unread c.args.input.now) c.cannot_read.result c.cannot_read.ensures;
  reads = named_reads (g.I.Input.failed c.args.input.now) (g.I.Input.failed c.read.new.self) c.args.name.now c.cannot_read.result
      c.cannot_read.ensures (inl (c.in-Err.ensures.count ∙ ap one_more c.reads.invariant.count));
}

-- the input is given up
pub returns : goal.returns
returns g c = record {
  bytes = tt;
  within = tt;
  end = tt;
  fault = named_unread c.args.name.now c.args.limit (g.I.Input.unread c.args.input.now) c.cannot_read-2.result c.cannot_read-2.ensures;
  reads = named_reads (g.I.Input.failed c.args.input.now) (g.I.Input.failed c.reads.input) c.args.name.now c.cannot_read-2.result
      c.cannot_read-2.ensures (inr (
        c.reads.invariant.count,
        had_many (g.I.Input.unread c.args.input.now) (g.I.Input.unread c.reads.input) c.reads.bytes.items most_reads c.args.limit
            c.reads.counter (vec_len c.reads.bytes) c.reads-test.false c.reads.invariant.some c.reads.bytes.ok.0 c.reads.invariant.within
            c.reads.invariant.read,
      ));
}
