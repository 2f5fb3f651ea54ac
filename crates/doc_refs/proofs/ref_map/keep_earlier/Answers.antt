use Rattle.std.proofs.Common.{rules, nat_lt}
use Rattle.std.proofs.lemmas.Map.Made.{filter_same_pairs}
use Rattle.doc_refs.proofs.ref_map.keep_earlier.Goals as goal

pub returns : goal.returns
returns c = filter_same_pairs _ (λ e. nat_lt e.1.before c.args.before) _ (λ k v b w f t. search rules) c.args.entries.now.entries
    c.retain.new.self.entries c.retain.ensures.filtered
