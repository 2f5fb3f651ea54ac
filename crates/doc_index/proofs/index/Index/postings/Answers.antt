use Rattle.std.proofs.Common.{◌≡◌, subst}
use Rattle.doc_index.specs.Held.{count_in, slot_at}
use Rattle.doc_index_tables.specs.TableSteps.{number_at}
use Rattle.doc_index.proofs.index.Index.postings.Goals as goal

pub returns : goal.returns
returns g c = λ key slot.
    subst (λ s. number_at c.self.inside.postings key slot ≡ count_in (slot_at s slot) key) c.self.view_is
    (c.self.invariant.counted key slot)
