use Rattle.std.proofs.Common.{Some, None, ap}
use Rattle.std.specs.Prelude.{option_copied}
use Rattle.doc_refs.proofs.EntryLaws.{found}
use Rattle.doc_refs.proofs.ref_map.RefMap.find.Goals as goal

pub returns-in-Some : goal.returns-in-Some
returns-in-Some c = found c.self.inside.entries.entries c.args.self.now c.args.normalised.now (option_copied c.get.result)
    (Some c.in-Some.entry.now) c.self.view_is c.utf8.normalised c.get.ensures.value (ap option_copied c.in-Some.is)

pub returns-in-None : goal.returns-in-None
returns-in-None c = found c.self.inside.entries.entries c.args.self.now c.args.normalised.now (option_copied c.get.result) None
    c.self.view_is c.utf8.normalised c.get.ensures.value (ap option_copied c.in-None.is)
