use Rattle.std.specs.Prelude.{option_copied}
use Rattle.doc_rows.proofs.PlaceLaws.{narrowed_back}
use Rattle.doc_rows.proofs.rows.Rows.narrow_back.Goals as goal

pub returns : goal.returns
returns c = λ pages wide.
    narrowed_back pages c.args.path.now (option_copied c.args.before) c.args.groups.now c.args.self.now c.leave_beside.new.self wide
    c.leave_beside.ensures
