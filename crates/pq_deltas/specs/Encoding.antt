-- What an encoder of delta packing has written, and what it keeps (Parquet format, Encodings, "Delta Encoding").
use Rattle.std.specs.Prelude.{ℕ, ◌<◌, ◌^◌, ℤ, List, [], ◌++◌}
use Rattle.std.specs.Int.{Width}
use Rattle.std.proofs.Common.{subst, sym, append-nil, append_assoc}
use Rattle.pq_numbers.specs.Varint.{varint}
use Rattle.pq_runs.specs.DeltaWriting.{Begun}
use Rattle.pq_deltas.specs.declared.delta_encode.Encoder.{Encoder}

-- the head of a section of so many numbers: 128 to a block in 4 miniblocks, and the count
abbrev pub head : ℕ → List ℕ
head count = varint 128 ++ (varint 4 ++ varint count)

-- Behind what stood at the start there stands the head for so many numbers, and of the numbers so far all that the encoder does not keep.
pub record IsEncoding (v : Width) (count : ℕ) (start out : List ℕ) (e : Encoder) (zs : List ℤ) : Type 0 where
  pub few : count < 2 ^ 64
  pub begun : Begun v (start ++ head count) out e.waiting e.latest zs

-- an encoder takes these numbers, whatever came before
pub record Feeds (v : Width) (out : List ℕ) (e : Encoder) (out' : List ℕ) (e' : Encoder) (zs : List ℤ) : Type 0 where
  pub more : (count : ℕ) (start : List ℕ) (before : List ℤ) → IsEncoding v count start out e before → IsEncoding v count start out' e' (before ++ zs)

pub feeds-none : (v : Width) (out : List ℕ) (e : Encoder) → Feeds v out e out e []
feeds-none v out e = record { more = λ count start before h. subst (λ (ys : List ℤ). IsEncoding v count start out e ys) (sym (append-nil before)) h }

pub feeds-append : (v : Width) (a : List ℕ) (d : Encoder) (b : List ℕ) (e : Encoder) (c : List ℕ) (f : Encoder) (ys zs : List ℤ) → Feeds v a d b e ys → Feeds v b e c f zs → Feeds v a d c f (ys ++ zs)
feeds-append v a d b e c f ys zs g h =
    record { more = λ count start before i. subst (λ (xs : List ℤ). IsEncoding v count start c f xs) (append_assoc before ys zs) (h.more count start (before ++ ys) (g.more count start before i)) }
