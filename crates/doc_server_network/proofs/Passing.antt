-- Bytes that pass on the connections of a network.
use Rattle.std.proofs.Common.{◌≡◌, ◌++◌, ◌==◌, ℕ, List, [], Bool, true, false, cond, refl, sym, ap, ◌∙◌, eq-eqb, append_assoc}
use Rattle.std.specs.Prelude.{Option, Some, None}
use Rattle.std.specs.Io.KnownBytes.{append_known}
use Rattle.std.proofs.lemmas.List.{append-nil}
use Rattle.std.proofs.lemmas.Bool.{eqb-true}
use Rattle.doc_server_network.specs.Networks.{on, Moves, Rests, RestsBut}

pub on_same : (id : ℕ) (bytes : List ℕ) → on id bytes id ≡ bytes
on_same id bytes = ap (λ b. cond b bytes []) (eq-eqb id id refl)

pub on_nothing : (id k : ℕ) → on id [] k ≡ []
on_nothing id k = by (k == id)
  where
    by : (b : Bool) → cond {A = List ℕ} b [] [] ≡ []
    by true = refl
    by false = refl

-- a number that isn't the one is told apart by the test
pub told_apart : (k id : ℕ) → (k ≡ id → ⊥) → (k == id) ≡ false
told_apart k id off = by (k == id) refl
  where
    by : (b : Bool) → (k == id) ≡ b → (k == id) ≡ false
    by true e = absurd (off (eqb-true k id e))
    by false e = e

pub on_other : (id : ℕ) (bytes : List ℕ) (k : ℕ) → (k ≡ id → ⊥) → on id bytes k ≡ []
on_other id bytes k off = ap (λ b. cond b bytes []) (told_apart k id off)

pub append_none : (known : Option (List ℕ)) → append_known known [] ≡ known
append_none None = refl
append_none (Some bytes) = ap Some (append-nil bytes)

pub append_join : (known : Option (List ℕ)) (bytes more : List ℕ)
    → append_known (append_known known bytes) more ≡ append_known known (bytes ++ more)
append_join None bytes more = refl
append_join (Some front) bytes more = ap Some (append_assoc front bytes more)

-- what passed on the connection of the number
pub moved_at : (old new : ℕ → Option (List ℕ)) (id : ℕ) (bytes : List ℕ) → Moves old new id bytes → new id ≡ append_known (old id) bytes
moved_at old new id bytes moves = moves id ∙ ap (append_known (old id)) (on_same id bytes)

-- and on the others nothing
pub moved_alone : (old new : ℕ → Option (List ℕ)) (id : ℕ) (bytes : List ℕ) → Moves old new id bytes → RestsBut id old new
moved_alone old new id bytes moves = λ k off.
    moves k ∙ ap (append_known (old k)) (on_other id bytes k off) ∙ append_none (old k)

-- no byte is nothing
pub rests_moved : (old new : ℕ → Option (List ℕ)) (id : ℕ) → Moves old new id [] → Rests old new
rests_moved old new id moves = λ k. moves k ∙ ap (append_known (old k)) (on_nothing id k) ∙ append_none (old k)

pub moves_nothing : (old new : ℕ → Option (List ℕ)) (id : ℕ) → Rests old new → Moves old new id []
moves_nothing old new id rests = λ k. rests k ∙ sym (append_none (old k)) ∙ ap (append_known (old k)) (sym (on_nothing id k))

on_join : (id : ℕ) (bytes more : List ℕ) (k : ℕ) → on id bytes k ++ on id more k ≡ on id (bytes ++ more) k
on_join id bytes more k = by (k == id)
  where
    by : (b : Bool) → cond b bytes [] ++ cond b more [] ≡ cond b (bytes ++ more) []
    by true = refl
    by false = refl

-- one behind the other
pub moves_join : (old mid new : ℕ → Option (List ℕ)) (id : ℕ) (bytes more : List ℕ) → Moves old mid id bytes → Moves mid new id more
    → Moves old new id (bytes ++ more)
moves_join old mid new id bytes more first second = λ k.
    second k ∙ ap (λ known. append_known known (on id more k)) (first k) ∙ append_join (old k) (on id bytes k) (on id more k)
    ∙ ap (append_known (old k)) (on_join id bytes more k)

pub rests_join : (old mid new : ℕ → Option (List ℕ)) → Rests old mid → Rests mid new → Rests old new
rests_join old mid new first second = λ k. second k ∙ first k

pub rests_but_join : (id : ℕ) (old mid new : ℕ → Option (List ℕ)) → RestsBut id old mid → RestsBut id mid new → RestsBut id old new
rests_but_join id old mid new first second = λ k off. second k off ∙ first k off
