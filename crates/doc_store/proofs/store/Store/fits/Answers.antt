use Rattle.std.proofs.Common.{sym}
use Rattle.doc_store_readers.proofs.MapValues.{len-map_values}
use Rattle.doc_store.proofs.StateSteps.{fits_is}
use Rattle.doc_store.proofs.store.Store.fits.Goals as goal

pub returns-clause-answer : goal.returns-clause-answer
returns-clause-answer c =
    fits_is c.self.inside.pages c.self.inside.aliases c.self.inside.puts c.args.self.now c.args.path.now c.args.text.now c.len.result
    c.contains.result c.fits.result
    c.self.view_is c.len.ensures (sym (len-map_values (λ p. p.page) c.self.inside.pages)) c.contains.ensures c.fits.ensures.answer
