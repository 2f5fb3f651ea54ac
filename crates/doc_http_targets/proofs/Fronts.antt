-- Texts that begin with a front.
use Rattle.std.proofs.Common.{◌≡◌, ℕ, ◌==◌, List, [], ◌∷◌, ◌++◌, drop, Option, Some, None, option_copied, MatchOption, Bor}
use Rattle.std.proofs.Common.{refl, sym, ap, ◌∙◌}
use Rattle.std.specs.Str.Pattern.{FindsTextPrefix, LacksTextAt, StripsPrefix}
use Rattle.std.proofs.lemmas.Bool.{cond_both}
use Rattle.std.proofs.lemmas.Bool.Decides.{Decides-eqb}
use Rattle.doc_http_targets.specs.Targets.{after}

-- a text that has a prefix is that prefix and the rest
pub after-append : (front text rest : List ℕ) → after front text ≡ Some rest → text ≡ front ++ rest
after-append [] text rest e = cc
after-append (x ∷ front) [] rest e = absurd (cc)
after-append (x ∷ front) (b ∷ text) rest e =
    cond_both (x == b) (after front text) None (λ o. o ≡ Some rest → b ∷ text ≡ x ∷ (front ++ rest))
    (λ same h. let head = (Decides-eqb x b).0 same in let tail = after-append front text rest h in cc) (λ _ h. absurd (cc)) e

-- a front and a rest has that rest behind it
pub after-front : (front rest : List ℕ) → after front (front ++ rest) ≡ Some rest
after-front [] rest = refl
after-front (x ∷ front) rest = rw ((Decides-eqb x x).1 refl) (after-front front rest)

-- what doesn't begin with the front has nothing behind it
pub after-lacking : (front text : List ℕ) → LacksTextAt front text 0 → after front text ≡ None
after-lacking front text lacks = by (after front text) refl
  where
    by : (o : Option (List ℕ)) → after front text ≡ o → o ≡ None
    by None e = refl
    by (Some rest) e = absurd (lacks rest (after-append front text rest e))

-- what is stripped off a text
pub stripped : (front text : List ℕ) (r : Option (Bor (List ℕ))) → MatchOption r (FindsTextPrefix front text None)
    (λ x. StripsPrefix (FindsTextPrefix front) text x.now) → option_copied r ≡ after front text
stripped front text None h = sym (after-lacking front text h)
stripped front text (Some x) h =
    ap Some h.2 ∙ sym (ap (after front) h.1.1 ∙ after-front front (drop h.0 text))
