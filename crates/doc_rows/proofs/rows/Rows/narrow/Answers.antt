use Rattle.std.specs.Prelude.{option_copied}
use Rattle.doc_rows.proofs.PlaceLaws.{narrowed}
use Rattle.doc_rows.proofs.rows.Rows.narrow.Goals as goal

pub returns : goal.returns
returns c = λ pages page has wide.
    narrowed pages c.args.path.now (option_copied c.args.before) c.args.groups.now c.args.self.now c.leave_beside.new.self wide page has
    c.leave_beside.ensures
