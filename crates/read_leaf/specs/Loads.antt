-- What is loaded for a stored number is the page table's value for it, of each type of arrays that stores such numbers; with the proofs,
-- since a trait's law is given with them.
use mir.Val.{bits}
use Rattle.std.proofs.Common.{FitsSigned, true≢false, ◌≡◌, ◌⊎◌, inl, inr, ℕ, suc, ◌-◌, ◌^◌, ◌<◌, ◌≤◌, nat_lt, ℤ, pos, negsuc, Bool, true, false, Some, None, refl, arith, ap, sym, ◌∙◌, if◌then◌else◌}
use Rattle.std.proofs.Math.Facts.{Fits-of_z}
use Rattle.std.proofs.Math.Pow.{pow_mono}
use Rattle.std.proofs.lemmas.Bool.Decides.{leb_tells}
use Rattle.std.proofs.lemmas.Int.{to_z-of_z, of_z-to_z}
use Rattle.std.specs.Int.{Width, w32, w64, cast_signed, cast_unsigned}
use Rattle.shredding.specs.Slot.{number}
use Rattle.shredding.specs.Shape.{signed, unsigned, Fits}
use Rattle.pq_tree.specs.Physical.{int32, int64}
use Rattle.read_leaf.specs.Numbers.{has_bits, as_signed, as_unsigned}
use Rattle.read_leaf.specs.Ranges.{LoadsStored, LoadedIsStored}
use Rattle.columns_core.specs.Natives.{stores_i8, stores_i16, stores_i32, stores_i64, stores_i128, stores_u8, stores_u16, stores_u32, stores_u64}
use Rattle.columns_core.specs.Shapes.{leaf_type}
use Rattle.columns_core.specs.Tree.{TypeTree, t_int8, t_int16, t_int32, t_int64, t_uint8, t_uint16, t_uint32, t_uint64, t_timestamp, t_date32, t_date64, t_time32, t_time64, t_duration, t_interval, t_decimal}
use Rattle.columns_core.specs.declared.types.IntervalUnit.TheVariants.{YearMonth}
use Rattle.pq_files.specs.Statistics.{has_order}

lt-true : (k n : ℕ) → k < n → nat_lt k n ≡ true
lt-true k n h = elim (leb_tells (suc k) n) [ inl e ↦ e.0 | inr e ↦ absurd (omega (arith, e.1, h)) ]

num-same : (x y : ℤ) → number x ≡ number y → x ≡ y
num-same x y e = cc

some-same : (x y : ℤ) → Some x ≡ Some y → x ≡ y
some-same x y e = cc

below : (k n : ℕ) → nat_lt k n ≡ true → k < n
below k n e = elim (leb_tells (suc k) n) [ inl h ↦ h.1 | inr h ↦ absurd (let f = sym h.0 ∙ e in cc) ]

-- ---- with a sign
has : (w : ℕ) (z : ℤ) → Fits w z → has_bits w z ≡ true
has w (pos n) h = lt-true n (2 ^ (w - 1)) h
has w (negsuc n) h = lt-true n (2 ^ (w - 1)) h

fits : (w : ℕ) (z : ℤ) → has_bits w z ≡ true → Fits w z
fits w (pos n) e = below n (2 ^ (w - 1)) e
fits w (negsuc n) e = below n (2 ^ (w - 1)) e

signed-forth : (w : ℕ) (z v : ℤ) (b : Bool) → has_bits w z ≡ b → (if b then Some z else None) ≡ Some v → Fits w v × (z ≡ v)
signed-forth w z v true e h = let s = some-same z v h in (rw s at (fits w z e), s)
signed-forth w z v false e h = absurd (cc)

narrow : (w : ℕ) → w ≤ 32 → LoadsStored (as_signed w) (signed w) int32 32
narrow w k z v f = (
  (λ h. let s = signed-forth w z v (has_bits w z) refl h in (k, s.0, ap number s.1)),
  (λ h. let s = num-same z v h.2 in rw (s, has w v h.1) refl),
)

-- ---- without one
unsigned-forth : (p : Width) (w : ℕ) (z v : ℤ) (b : Bool) → nat_lt (cast_unsigned p z) (2 ^ w) ≡ b → (if b then Some (pos (cast_unsigned p z)) else None) ≡ Some v → (cast_unsigned p z < 2 ^ w) × (pos (cast_unsigned p z) ≡ v)
unsigned-forth p w z v true e h = (below (cast_unsigned p z) (2 ^ w) e, some-same (pos (cast_unsigned p z)) v h)
unsigned-forth p w z v false e h = absurd (cc)

pos-same : (m n : ℕ) → pos m ≡ pos n → m ≡ n
pos-same m n e = cc

not-negative : (m n : ℕ) → pos m ≡ negsuc n → ⊥
not-negative m n e = cc

unsigned-back : (p : Width) (w n : ℕ) (z : ℤ) → n < 2 ^ w → 2 ^ w ≤ 2 ^ bits p → number z ≡ number (cast_signed p n) → cast_unsigned p z ≡ n
unsigned-back p w n z h k e = ap (cast_unsigned p) (num-same z (cast_signed p n) e) ∙ of_z-to_z p n (omega (arith, h, k))

sfits-32 : (z : ℤ) → Fits 32 z → FitsSigned w32 z
sfits-32 (pos n) h = omega (arith, h)
sfits-32 (negsuc n) h = omega (arith, h)

sfits-64 : (z : ℤ) → Fits 64 z → FitsSigned w64 z
sfits-64 (pos n) h = omega (arith, h)
sfits-64 (negsuc n) h = omega (arith, h)

narrow-unsigned : (w : ℕ) → w ≤ 32 → LoadsStored (as_unsigned w32 w) (unsigned w) int32 32
narrow-unsigned w k z (pos n) f = (
  (λ h.
      let s = unsigned-forth w32 w z (pos n) (nat_lt (cast_unsigned w32 z) (2 ^ w)) refl h in
      let m = pos-same (cast_unsigned w32 z) n s.1 in
      (k, rw m at s.0, ap number (sym (to_z-of_z w32 z (sfits-32 z f)) ∙ ap (cast_signed w32) m))),
  (λ h. let m = unsigned-back w32 w n z h.1 (pow_mono k) h.2 in rw (m, lt-true n (2 ^ w) h.1) refl),
)
narrow-unsigned w k z (negsuc n) f = (
  (λ h. absurd (not-negative (cast_unsigned w32 z) n (unsigned-forth w32 w z (negsuc n) (nat_lt (cast_unsigned w32 z) (2 ^ w)) refl h).1)),
  (λ h. absurd h),
)

wide : (w : ℕ) → (w ≡ 32) ⊎ (w ≡ 64) → w ≤ 64 → LoadsStored (as_unsigned w64 w) (unsigned w) int64 64
wide w c k z (pos n) f = (
  (λ h.
      let s = unsigned-forth w64 w z (pos n) (nat_lt (cast_unsigned w64 z) (2 ^ w)) refl h in
      let m = pos-same (cast_unsigned w64 z) n s.1 in
      (c, rw m at s.0, ap number (sym (to_z-of_z w64 z (sfits-64 z f)) ∙ ap (cast_signed w64) m))),
  (λ h. let m = unsigned-back w64 w n z h.1 (pow_mono k) h.2 in rw (m, lt-true n (2 ^ w) h.1) refl),
)
wide w c k z (negsuc n) f = (
  (λ h. absurd (not-negative (cast_unsigned w64 z) n (unsigned-forth w64 w z (negsuc n) (nat_lt (cast_unsigned w64 z) (2 ^ w)) refl h).1)),
  (λ h. absurd h),
)

-- where every stored number is one, the test holds
whole : (p : Width) (w : ℕ) (z : ℤ) → cast_unsigned p z < 2 ^ w → as_unsigned p w z ≡ Some (pos (cast_unsigned p z))
whole p w z h = rw (lt-true (cast_unsigned p z) (2 ^ w) h) refl

bits-below : (p : Width) (z : ℤ) → FitsSigned p z → cast_unsigned p z < 2 ^ bits p
bits-below p z f = omega (arith, Fits-of_z f)

pub loaded-stored : LoadedIsStored
loaded-stored = record {
  narrow_signed = narrow;
  signed_32 = (λ z v f. ((λ h. let s = some-same z v h in (omega arith, rw s at f, ap number s)), (λ h. ap Some (num-same z v h.2))));
  signed_64 = (λ z v f. ((λ h. let s = some-same z v h in (refl, rw s at f, ap number s)), (λ h. ap Some (num-same z v h.2))));
  narrow_unsigned = narrow-unsigned;
  unsigned_32 = (λ z v f.
      let t = narrow-unsigned 32 (omega arith) z v f in
      let e = whole w32 32 z (bits-below w32 z (sfits-32 z f)) in
      ((λ h. t.0 (e ∙ h)), (λ h. sym e ∙ t.1 h)));
  wide_unsigned = wide 32 (inl refl) (omega arith);
  unsigned_64 = (λ z v f.
      let t = wide 64 (inr refl) (omega arith) z v f in
      let e = whole w64 64 z (bits-below w64 z (sfits-64 z f)) in
      ((λ h. t.0 (e ∙ h)), (λ h. sym e ∙ t.1 h)));
  decimal_32 = (λ z v f. ((λ h. let s = some-same z v h in (rw s at f, ap number s)), (λ h. ap Some (num-same z v h.1))));
  decimal_64 = (λ z v f. ((λ h. let s = some-same z v h in (rw s at f, ap number s)), (λ h. ap Some (num-same z v h.1))));
}

-- ---- of each type
pub loads-i8 : (t : TypeTree) → stores_i8 t ≡ true → has_order (leaf_type t) ≡ true → LoadsStored (as_signed 8) (leaf_type t) int32 32
loads-i8 t_int8 e h = loaded-stored.narrow_signed 8 (omega arith)
loads-i8 t e h = absurd (true≢false (sym e))

pub loads-i16 : (t : TypeTree) → stores_i16 t ≡ true → has_order (leaf_type t) ≡ true → LoadsStored (as_signed 16) (leaf_type t) int32 32
loads-i16 t_int16 e h = loaded-stored.narrow_signed 16 (omega arith)
loads-i16 t e h = absurd (true≢false (sym e))

pub loads-i32 : (t : TypeTree) → stores_i32 t ≡ true → has_order (leaf_type t) ≡ true → LoadsStored (λ z. Some z) (leaf_type t) int32 32
loads-i32 t_int32 e h = loaded-stored.signed_32
loads-i32 t_date32 e h = loaded-stored.signed_32
loads-i32 (t_time32 u) e h = loaded-stored.signed_32
loads-i32 (t_interval YearMonth) e h = absurd (true≢false (sym h))
loads-i32 t e h = absurd (true≢false (sym e))

pub loads-i64 : (t : TypeTree) → stores_i64 t ≡ true → has_order (leaf_type t) ≡ true → LoadsStored (λ z. Some z) (leaf_type t) int64 64
loads-i64 t_int64 e h = loaded-stored.signed_64
loads-i64 t_date64 e h = loaded-stored.signed_64
loads-i64 (t_time64 u) e h = loaded-stored.signed_64
loads-i64 (t_timestamp u z) e h = loaded-stored.signed_64
loads-i64 (t_duration u) e h = loaded-stored.signed_64
loads-i64 t e h = absurd (true≢false (sym e))

pub loads-i128 : (t : TypeTree) → stores_i128 t ≡ true → has_order (leaf_type t) ≡ true → LoadsStored (λ z. Some z) (leaf_type t) int32 32
loads-i128 (t_decimal p s) e h = loaded-stored.decimal_32
loads-i128 t e h = absurd (true≢false (sym e))

pub loads-wide-i128 : (t : TypeTree) → stores_i128 t ≡ true → has_order (leaf_type t) ≡ true → LoadsStored (λ z. Some z) (leaf_type t) int64 64
loads-wide-i128 (t_decimal p s) e h = loaded-stored.decimal_64
loads-wide-i128 t e h = absurd (true≢false (sym e))

pub loads-u8 : (t : TypeTree) → stores_u8 t ≡ true → has_order (leaf_type t) ≡ true → LoadsStored (as_unsigned w32 8) (leaf_type t) int32 32
loads-u8 t_uint8 e h = loaded-stored.narrow_unsigned 8 (omega arith)
loads-u8 t e h = absurd (true≢false (sym e))

pub loads-u16 : (t : TypeTree) → stores_u16 t ≡ true → has_order (leaf_type t) ≡ true → LoadsStored (as_unsigned w32 16) (leaf_type t) int32 32
loads-u16 t_uint16 e h = loaded-stored.narrow_unsigned 16 (omega arith)
loads-u16 t e h = absurd (true≢false (sym e))

pub loads-u32 : (t : TypeTree) → stores_u32 t ≡ true → has_order (leaf_type t) ≡ true → LoadsStored (λ z. Some (pos (cast_unsigned w32 z))) (leaf_type t) int32 32
loads-u32 t_uint32 e h = loaded-stored.unsigned_32
loads-u32 t e h = absurd (true≢false (sym e))

pub loads-wide-u32 : (t : TypeTree) → stores_u32 t ≡ true → has_order (leaf_type t) ≡ true → LoadsStored (as_unsigned w64 32) (leaf_type t) int64 64
loads-wide-u32 t_uint32 e h = loaded-stored.wide_unsigned
loads-wide-u32 t e h = absurd (true≢false (sym e))

pub loads-u64 : (t : TypeTree) → stores_u64 t ≡ true → has_order (leaf_type t) ≡ true → LoadsStored (λ z. Some (pos (cast_unsigned w64 z))) (leaf_type t) int64 64
loads-u64 t_uint64 e h = loaded-stored.unsigned_64
loads-u64 t e h = absurd (true≢false (sym e))
