-- What the reader of a body answers.
use Rattle.std.proofs.Common.{◌≡◌, ℕ, Bool, List, length, take, refl}
use Rattle.std.specs.Prelude.{nat_le, Result, Ok, Err, OnErr}
use Rattle.doc_http_bodies.specs.declared.extent.Extent.{Extent}
use Rattle.doc_http_bodies.specs.declared.framing.Framing.TheVariants.{Chunked}
use Rattle.doc_http_bodies.specs.Chunks.{extent_of}
use Rattle.doc_http_bodies.specs.Readings.{encoded_limit, reading_by, reading_of}

-- by the extent in the bytes that an encoded body may take
pub chunked_is : (bytes window : List ℕ) (is_full : Bool) (reach : Extent) → window ≡ take encoded_limit bytes
    → is_full ≡ nat_le encoded_limit (length bytes) → reach ≡ extent_of window
    → reading_by window is_full reach ≡ reading_of Chunked bytes
unfolding reading_of
chunked_is bytes window is_full reach window_is full_is reach_is = rw (reach_is, full_is, window_is) refl

-- what holds, holds on an error
pub on_err : {T E : Type 0} (r : Result T E) (P : Type 0) → P → OnErr r P
on_err (Ok x) P p = tt
on_err (Err e) P p = p
