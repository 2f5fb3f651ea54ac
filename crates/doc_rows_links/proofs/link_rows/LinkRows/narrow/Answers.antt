use Rattle.std.specs.Prelude.{option_copied}
use Rattle.doc_rows_links.proofs.LinkLaws.{narrowed_links}
use Rattle.doc_rows_links.proofs.link_rows.LinkRows.narrow.Goals as goal

pub returns : goal.returns
returns c = λ linking pages page has wrote wide.
    narrowed_links linking pages c.args.path.now (option_copied c.args.change.before) c.args.change.old.now c.args.change.groups.now
    c.args.change.new.now c.args.self.now c.leave_old.new.self wide page has wrote c.leave_old.ensures
