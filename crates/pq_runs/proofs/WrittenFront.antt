-- The first run of what is written, by what a reader finds at the front.
use Rattle.std.proofs.Common.{◌≡◌, ◌⊎◌, ℕ, ◌+◌, ◌*◌, ◌^◌, ◌<◌, List, [], ◌++◌, length, replicate, Some, refl, sym, ap, arith, inl, inr}
use Rattle.pq_numbers.specs.Bits.{unpacked, bytes_for}
use Rattle.pq_numbers.specs.Texts.{number_of}
use Rattle.pq_numbers.specs.Varint.{varint, varint_at}
use Rattle.pq_numbers.proofs.Numbers.{number_again}
use Rattle.pq_numbers.proofs.Writes.{is_number}
use Rattle.pq_runs.specs.WrittenRuns.{WrittenRuns, no_more, no_bits, copies, groups, last_groups}

-- a header without padding at the front, and the bytes behind it
pub record Heads (text : List ℕ) (n : ℕ) (tail : List ℕ) : Type 0 where
  pub read : varint_at text ≡ Some (n, tail)
  pub parts : text ≡ varint n ++ tail

pub record Copied (w : ℕ) (text xs : List ℕ) : Type 0 where
  pub m : ℕ
  pub value : List ℕ
  pub rest : List ℕ
  pub vs : List ℕ
  pub some : 0 < m
  pub heads : Heads text (2 * m) (value ++ rest)
  pub size : length value ≡ bytes_for w
  pub are : xs ≡ replicate m (number_of value) ++ vs
  pub others : WrittenRuns w rest vs

pub record Grouped (w : ℕ) (text xs : List ℕ) : Type 0 where
  pub g : ℕ
  pub body : List ℕ
  pub rest : List ℕ
  pub vs : List ℕ
  pub some : 0 < g
  pub heads : Heads text (2 * g + 1) (body ++ rest)
  pub size : length body ≡ w * g
  pub are : xs ≡ unpacked w (8 * g) body ++ vs
  pub others : WrittenRuns w rest vs

pub record Ended (w : ℕ) (text xs : List ℕ) : Type 0 where
  pub g : ℕ
  pub k : ℕ
  pub body : List ℕ
  pub some : 0 < g
  pub less : k < 8
  pub heads : Heads text (2 * g + 1) body
  pub size : length body ≡ w * g
  pub are : unpacked w (8 * g) body ≡ xs ++ replicate k 0

heads : (n : ℕ) (tail : List ℕ) → n < 2 ^ 64 → Heads (varint n ++ tail) n tail
heads n tail h = record { read = number_again (varint n) n tail (is_number n h); parts = refl }

pub written_front : (w : ℕ) (text xs : List ℕ) → WrittenRuns w text xs → (text ≡ []) ⊎ (Copied w text xs ⊎ (Grouped w text xs ⊎ Ended w text xs))
written_front w _ _ no_more = inl refl
written_front w _ _ (no_bits n e) = inl refl
written_front w _ _ (copies m v value rest vs bits some few size is low r) =
    inr (inl (record { m = m; value = value; rest = rest; vs = vs; some = some; heads = heads (2 * m) (value ++ rest) (omega (arith, few)); size = size; are = ap (λ (u : ℕ). replicate m u ++ vs) (sym is); others = r }))
written_front w _ _ (groups g body rest vs bits some few size r) =
    inr (inr (inl (record { g = g; body = body; rest = rest; vs = vs; some = some; heads = heads (2 * g + 1) (body ++ rest) (omega (arith, few)); size = size; are = refl; others = r })))
written_front w _ _ (last_groups g k body xs bits some few less size is) =
    inr (inr (inr (record { g = g; k = k; body = body; some = some; less = less; heads = heads (2 * g + 1) body (omega (arith, few)); size = size; are = is })))
