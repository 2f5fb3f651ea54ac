use Rattle.std.specs.Prelude.{option_copied}
use Rattle.doc_rows_links.proofs.LinkLaws.{narrowed_back_links}
use Rattle.doc_rows_links.proofs.link_rows.LinkRows.narrow_back.Goals as goal

pub returns : goal.returns
returns c = λ linking pages wide.
    narrowed_back_links linking pages c.args.path.now (option_copied c.args.change.before) c.args.change.old.now c.args.change.groups.now
    c.args.change.new.now c.args.self.now c.leave_new.new.self wide c.leave_new.ensures
