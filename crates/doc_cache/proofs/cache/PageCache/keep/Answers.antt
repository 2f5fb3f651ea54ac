use Rattle.std.proofs.Common.{◌∙◌, sym, ap}
use Rattle.doc_cache.specs.Caches.{cached, kept}
use Rattle.doc_cache.proofs.CacheSteps.{on_ok, put-kept}
use Rattle.doc_cache.proofs.cache.PageCache.keep.Goals as goal

pub returns-clause-kept : goal.returns-clause-kept
returns-clause-kept c = λ ok.
    let put = on_ok c.put.result c.put.ensures.entries (sym c.is_ok.ensures.value ∙ ok) in
    ap (λ now. cached now.entries now.cap) put ∙ put-kept c.self.inside.pages c.args.key c.args.text
    ∙ ap (λ cache. kept cache c.args.key c.args.text) c.self.view_is
