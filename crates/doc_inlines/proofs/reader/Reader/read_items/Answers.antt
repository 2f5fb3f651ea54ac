use Rattle.std.proofs.Common.{◌∙◌}
use Rattle.doc_inlines.proofs.ItemLaws.{no_longer_then_shorter}
use Rattle.doc_inlines.proofs.reader.Reader.read_items.Goals as goal

pub items-smaller : goal.items-smaller
items-smaller c = no_longer_then_shorter _ _ _ (c.skip_plain.ensures c.args.refs.now).no_longer
    c.in_ok-item.ensures.shorter

pub items-preserved : goal.items-preserved
items-preserved c =
    let plain = c.skip_plain.ensures c.args.refs.now in
    let item = c.in_ok-item.ensures in
    record {
      sound = plain.sound;
      text = plain.text ∙ (item.text ∙ c.items.invariant.text);
      reads = λ definitions e. plain.reads definitions e ∙ (item.reads definitions e ∙ c.items.invariant.reads definitions e);
    }
