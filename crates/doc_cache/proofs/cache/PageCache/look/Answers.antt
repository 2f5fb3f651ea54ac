use Rattle.std.proofs.Common.{◌∙◌, refl, ap, Some}
use Rattle.std.specs.Option.{option_copied}
use Rattle.doc_cache.proofs.CacheSteps.{ends-looked, found-looked}
use Rattle.doc_cache.proofs.cache.PageCache.look.Goals as goal

pub returns-in_err-text : goal.returns-in_err-text
returns-in_err-text c =
    let key = c.args.key.now in
    let end = ends-looked c.self.inside.pages _ _ key c.promote.ensures.entries c.self.view_is in
    let found = found-looked c.self.inside.pages _ _ key c.promote.ensures.entries c.self.view_is in
    ((refl, λ _. tt, end), record { state = tt; value = ap option_copied c.from_residual.ensures ∙ c.in_err-text.ensures ∙ found })

pub returns : goal.returns
returns c =
    let key = c.args.key.now in
    let end = ends-looked c.self.inside.pages _ _ key c.promote.ensures.entries c.self.view_is in
    let found = found-looked c.self.inside.pages _ _ key c.promote.ensures.entries c.self.view_is in
    ((refl, λ _. tt, end), record { state = tt; value = ap Some c.get.ensures ∙ c.in_ok-text.ensures ∙ found })
