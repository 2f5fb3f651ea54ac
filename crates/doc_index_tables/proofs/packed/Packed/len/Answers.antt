use Rattle.std.proofs.Common.{length, ap, sym, string_bytes, ◌∙◌}
use Rattle.doc_index_tables.proofs.PackedSteps.{length_unpacked}
use Rattle.doc_index_tables.proofs.packed.Packed.len.Goals as goal

pub returns : goal.returns
returns c =
    c.len.ensures
    ∙ sym (length_unpacked (string_bytes c.self.inside.texts) 0 c.self.inside.ends) ∙ ap length c.self.view_is
