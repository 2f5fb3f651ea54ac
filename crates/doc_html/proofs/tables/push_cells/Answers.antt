use Rattle.std.proofs.Common.{arith}
use Rattle.doc_html.proofs.TableSteps.{columns_begin, columns_go_on, columns_end, left_goes_on}
use Rattle.doc_html.proofs.tables.push_cells.Goals as goal

pub loop-column-init : goal.loop-column-init
loop-column-init g c = record {
  written = λ definitions is.
      columns_begin g.W.Writer.holds c.args.source.now.entities.now definitions c.args.name.now c.args.writer.now c.args.columns.now _ _
      c.of-cells.ensures;
  left = c.of-cells.ensures;
}

pub loop-column-preserved : goal.loop-column-preserved
loop-column-preserved g c =
    let i = c.loop-column.invariant in
    record {
      written = λ definitions is.
          columns_go_on g.W.Writer.holds c.args.source.now.entities.now definitions c.args.name.now c.args.writer.now c.loop-column.writer
          c.push_next.new.writer c.args.columns.now c.loop-column.column-index _ _ _ _ (omega arith)
          (i.written definitions is) (c.in_ok-cells.ensures.written definitions is);
      left = left_goes_on _ _ _ c.loop-column.column-index i.left c.in_ok-cells.ensures.rest;
    }

pub returns-clause-written : goal.returns-clause-written
returns-clause-written g c = λ definitions is.
    columns_end g.W.Writer.holds c.args.source.now.entities.now definitions c.args.name.now c.args.writer.now c.loop-column.writer
    c.args.columns.now c.loop-column.column-index _ _ (omega arith) (c.loop-column.invariant.written definitions is)
