-- The links at the places of a list, one after another.
use Rattle.std.proofs.Common.{◌≡◌, ◌<◌, ◌≤◌, ℕ, ◌+◌, suc, List, [], ◌∷◌, ◌++◌, Bool, true, false, length, take, drop, get_or, refl, sym, ap, ◌∙◌, subst, append_assoc, append-nil, arith}
use Rattle.std.proofs.Math.ListN.{drop_of_length-le}
use Rattle.std.proofs.Math.Seq.{drop-cons}
use Rattle.std.proofs.lemmas.Bool.Decides.{nat_tests}
use Rattle.std.proofs.lemmas.List.{take_more, map-append}
use Rattle.std.proofs.lemmas.List.Elements.{All-nil, All-cons, All-append}
use Rattle.std.specs.Prelude.{nat_lt, map, if◌then◌else◌}
use Rattle.doc_hub.specs.Worlds.{World, disconnected}
use Rattle.doc_hub_events.specs.declared.event.ConnId.{ConnId}
use Rattle.doc_server_rounds.specs.Dropped.{dropped_all}
use Rattle.doc_server_rounds.specs.Peers.{Peer}
use Rattle.doc_server_rounds.specs.Rounds.{AreClosed, failures_in, ids_of, risen_from}

drop_next : {A : Type 0} (l : List A) (i : ℕ) (d : A) → i < length l → drop i l ≡ get_or l i d ∷ drop (i + 1) l
drop_next l i d within =
    let one : suc i ≡ i + 1 = omega arith in
    drop-cons l i d within ∙ ap (λ n. get_or l i d ∷ drop n l) one

is_less : (a b : ℕ) → a < b → nat_lt a b ≡ true
is_less a b less = grind (arith, nat_tests)

is_not_less : (a b : ℕ) → b ≤ a → nat_lt a b ≡ false
is_not_less a b less = grind (arith, nat_tests)

module _ (ps : List Peer) (i : ℕ) (p : Peer) (within : i < length ps) (at : p ≡ get_or ps i p) where
  -- one more closed link
  pub one_closed : p.is_open ≡ false → AreClosed (take i ps) → AreClosed (take (i + 1) ps)
  one_closed shut all =
      subst AreClosed (sym (take_more ps i p within))
      (All-append (λ q. q.is_open ≡ false) (take i ps) (get_or ps i p ∷ []) all
      (All-cons (λ q. q.is_open ≡ false) (get_or ps i p) [] (subst (λ q. q.is_open ≡ false) at shut)
      (All-nil (λ q. q.is_open ≡ false))))

  -- one more count
  pub one_counted : (old new : List ℕ) (n : ℕ) → n ≡ p.failed → old ≡ failures_in (take i ps) → new ≡ old ++ n ∷ []
      → new ≡ failures_in (take (i + 1) ps)
  one_counted old new n is before more =
      more ∙ ap (λ l. l ++ n ∷ []) before
      ∙ ap (λ m. failures_in (take i ps) ++ m ∷ []) (is ∙ ap (λ (q : Peer). q.failed) at)
      ∙ sym (map-append (λ q. q.failed) (take i ps) (get_or ps i p ∷ []))
      ∙ ap failures_in (sym (take_more ps i p within))

  -- one more connection is dropped
  pub one_dropped : (w v : World) (id : ConnId) (said : Bool) → id ≡ record { 0 = p.id } → disconnected w id.0 ≡ (v, said)
      → dropped_all v (ids_of (drop (i + 1) ps)) ≡ dropped_all w (ids_of (drop i ps))
  one_dropped w v id said of drops =
      ap (λ (a : World × Bool). dropped_all a.0 (ids_of (drop (i + 1) ps))) (sym drops)
      ∙ ap (λ (c : ConnId). dropped_all (disconnected w c.0).0 (ids_of (drop (i + 1) ps))) of
      ∙ ap (λ (q : Peer). dropped_all (disconnected w q.id).0 (ids_of (drop (i + 1) ps))) at
      ∙ ap (λ l. dropped_all w (ids_of l)) (sym (drop_next ps i p within))

  -- one more place is looked at
  module _ (olds : List ℕ) (long : length olds ≡ length ps) where
    abbrev later : List ℕ
    later = risen_from (i + 1) (drop (i + 1) olds) (failures_in (drop (i + 1) ps))

    abbrev before : ℕ
    before = get_or olds i 0

    at_place : risen_from i (drop i olds) (failures_in (drop i ps)) ≡ (if nat_lt before p.failed then i ∷ later else later)
    at_place =
        ap (λ l. risen_from i l (failures_in (drop i ps))) (drop_next olds i 0 (omega (arith, within, long)))
        ∙ ap (λ l. risen_from i (before ∷ drop (i + 1) olds) (failures_in l)) (drop_next ps i p within)
        ∙ ap (λ (q : Peer). if nat_lt before q.failed then i ∷ later else later) (sym at)

    pub risen : (items new all : List ℕ) (n : ℕ) → n ≡ p.failed → before < n → new ≡ items ++ i ∷ []
        → items ++ risen_from i (drop i olds) (failures_in (drop i ps)) ≡ all → new ++ later ≡ all
    risen items new all n is less more goal =
        ap (λ l. l ++ later) more
        ∙ append_assoc items (i ∷ []) later
        ∙ ap (λ t. items ++ (if t then i ∷ later else later)) (sym (is_less before n less) ∙ ap (nat_lt before) is)
        ∙ ap (λ l. items ++ l) (sym at_place)
        ∙ goal

    pub not_risen : (items all : List ℕ) (n : ℕ) → n ≡ p.failed → n ≤ before
        → items ++ risen_from i (drop i olds) (failures_in (drop i ps)) ≡ all → items ++ later ≡ all
    not_risen items all n is less goal =
        ap (λ t. items ++ (if t then i ∷ later else later)) (sym (is_not_less before n less) ∙ ap (nat_lt before) is)
        ∙ ap (λ l. items ++ l) (sym at_place)
        ∙ goal

-- all places are looked at
pub all_looked_at : (olds : List ℕ) (ps : List Peer) (i : ℕ) (items all : List ℕ) → length olds ≡ length ps → length ps ≤ i
    → items ++ risen_from i (drop i olds) (failures_in (drop i ps)) ≡ all → items ≡ all
all_looked_at olds ps i items all long over goal =
    sym (append-nil items)
    ∙ ap (λ l. items ++ risen_from i l (failures_in (drop i ps))) (sym (drop_of_length-le olds (omega (arith, long, over))))
    ∙ goal

-- all connections are dropped
pub all_dropped : (ps : List Peer) (i : ℕ) (w v : World) → length ps ≤ i → dropped_all w (ids_of (drop i ps)) ≡ v → w ≡ v
all_dropped ps i w v over rest = ap (λ l. dropped_all w (ids_of l)) (sym (drop_of_length-le ps over)) ∙ rest

-- the same links are as many, and so are the counts of their failures
long_map : {B : Type 0} (f : Peer → B) (ps : List Peer) → length (map f ps) ≡ length ps
long_map f [] = refl
long_map f (p ∷ ps) = ap suc (long_map f ps)

pub as_many : (ps qs : List Peer) → ids_of qs ≡ ids_of ps → length qs ≡ length ps
as_many ps qs same = sym (long_map (λ p. p.id) qs) ∙ ap length same ∙ long_map (λ p. p.id) ps

pub as_many_counts : (ps qs : List Peer) (counts : List ℕ) → counts ≡ failures_in ps → ids_of qs ≡ ids_of ps
    → length counts ≡ length qs
as_many_counts ps qs counts are same = ap length are ∙ long_map (λ p. p.failed) ps ∙ sym (as_many ps qs same)
