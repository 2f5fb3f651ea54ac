-- Laws of requests, and of the tokens that they carry.
use Rattle.std.specs.Prelude.{IsTrue, Bool, false, ◌≡◌, ℕ, ◌≤◌, List, [], ◌++◌, length, Option, Some}
use Rattle.base64.specs.Engines.{standard}
use Rattle.base64.specs.GeneralPurpose.{IsBytes, decoded_of}
use Rattle.doc_http.specs.declared.request.Request.{Request}
use Rattle.doc_http.specs.declared.request.Next.{Next}
use Rattle.doc_http.specs.declared.request.Next.TheVariants as next
use Rattle.doc_http.specs.Bearers.{bearer_in, bearer_of}
use Rattle.doc_http.specs.Passwords.{token_asking, token_in}
use Rattle.doc_http.specs.Requests.{IsNext}
use Rattle.doc_http_replies.specs.Replies.{is_fault_code}

-- the bytes begin with one thing
abbrev pub IsReadInOneWay : Type 0
IsReadInOneWay = (bytes : List ℕ) (a b : Next) → IsNext bytes a → IsNext bytes b → a ≡ b

-- once the bytes begin with a request or a fault, more bytes don't change it
abbrev pub StaysDecided : Type 0
StaysDecided = (bytes more : List ℕ) (a : Next) → ¬ (a ≡ next.More) → IsNext bytes a → IsNext (bytes ++ more) a

-- so many bytes begin with a request or a fault
abbrev pub IsDecidedWithin : ℕ → Type 0
IsDecidedWithin limit = (bytes : List ℕ) (a : Next) → limit ≤ length bytes → IsNext bytes a → ¬ (a ≡ next.More)

-- a request takes at least one byte, and at most all
abbrev pub TakesBytes : Type 0
TakesBytes = (bytes : List ℕ) (used : ℕ) (request : Request) → IsNext bytes (next.Request used request) → (1 ≤ used) × (used ≤ length bytes)

-- where there are no bytes, they begin with neither a request nor a fault
abbrev pub EmptyIsUndecided : Type 0
EmptyIsUndecided = (a : Next) → IsNext [] a → a ≡ next.More

-- a fault has one of these codes
abbrev pub FaultsHaveCodes : Type 0
FaultsHaveCodes = (bytes : List ℕ) (code : ℕ) (bare : Bool) → IsNext bytes (next.Fault code bare) → IsTrue (is_fault_code code)

-- two texts of the same login's bytes are equal
abbrev pub HasOneSpelling : Type 0
HasOneSpelling =
    (a b bytes : List ℕ) → IsBytes a → IsBytes b → decoded_of standard a ≡ Some bytes → decoded_of standard b ≡ Some bytes → a ≡ b

-- where a value has a bearer's token, it is the value's token, with logins and without them
abbrev pub BearerStays : Type 0
BearerStays = (login : Bool) (value : Option (List ℕ)) (token : List ℕ) → bearer_in value ≡ Some token → token_in login value ≡ Some token

-- without logins a request's token is its bearer's token
abbrev pub BearersAreAlone : Type 0
BearersAreAlone = (request : Request) → token_asking false request ≡ bearer_of request
