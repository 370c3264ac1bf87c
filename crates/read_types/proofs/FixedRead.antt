-- Plain values of one size are loaded as the page table says.
use Rattle.std.proofs.Common.{◌≡◌, ◌↔◌, inl, inr, ℕ, zero, suc, ◌<◌, ◌≤◌, ◌==◌, ℤ, Bool, true, false, true≢false, Some, None, List, [], ◌∷◌, ◌++◌, length, take, drop, replicate, refl, arith, ap, sym, subst, ◌∙◌, append_assoc, length-append, if◌then◌else◌}
use Rattle.std.specs.Prelude.{◌&&◌, nat_le}
use Rattle.std.specs.List.{AllZip}
use Rattle.std.proofs.lemmas.Bool.{and_parts, cases_lt}
use Rattle.std.proofs.lemmas.Bool.Decides.{leb_tells, eqb_tells}
use Rattle.std.proofs.lemmas.List.{length-take-le, length-drop, take-append-drop, take_at, drop_at}
use Rattle.shredding.specs.Shape.{LeafType, fixed_bytes, decimal, months, days}
use Rattle.shredding.specs.Slot.{Value, truth, number, bytes}
use Rattle.columns_core.specs.Natives.{stores_i32, stores_i128, stores_days}
use Rattle.columns_core.specs.Shapes.{leaf_type}
use Rattle.columns_core.specs.Tree.{TypeTree, t_int32, t_date32, t_time32, t_interval, t_fixed_size_binary, t_decimal}
use Rattle.columns_core.specs.declared.types.IntervalUnit.TheVariants.{YearMonth, DayTime}
use Rattle.pq_files.proofs.StoredOnce.{are_unique}
use Rattle.pq_files.specs.Plain.{InARow}
use Rattle.pq_files.specs.Stored.{IsStored, signed_big_endian}
use Rattle.pq_headline.specs.Columns.{ArrowColumn}
use Rattle.pq_numbers.specs.Texts.{Begins}
use Rattle.pq_tree.specs.Physical.{fixed}
use Rattle.read_leaf.specs.Fixed.{are_zeros, is_fixed, loaded_days, loaded_decimal, loaded_months, stored_fixed}
use Rattle.read_leaf.specs.FixedBytes.{loaded_bytes}
use Rattle.read_leaf.proofs.FixedRead.{fixed-first, fixed-none}
use Rattle.read_leaf.proofs.IntervalsRead.{all_zeros}
use Rattle.read_pieces.specs.Leaves.{IsLoaded, ReadsPlain, ReadsLeaf}
use Rattle.read_types.specs.Arrays.{makes_fixed}
use Rattle.read_types.specs.LeafTypes.{reads_chunks}
use Rattle.read_walk.specs.Values.{Stored}
use Rattle.schema_fit.specs.PageTable.{is_stored_length}

-- a value is loaded exactly where the page table stores it so
abbrev LoadsFixed : LeafType → ℕ → (List ℕ → Stored) → Type 0
LoadsFixed k n loaded = (s : List ℕ) (v : Value) → length s ≡ n → (loaded s ≡ Some v) ↔ IsStored k (fixed n) v (bytes s)

module _ (k : LeafType) (n : ℕ) (loaded : List ℕ → Stored) (some : 0 < n) (loads : LoadsFixed k n loaded) where
  loaded-one : (s : List ℕ) (o : Stored) → length s ≡ n → loaded s ≡ o → IsLoaded k (fixed n) o (bytes s)
  loaded-one s (Some v) l e = (loads s v l).0 e
  loaded-one s None l e = λ w h. let f : None ≡ Some w = sym e ∙ (loads s w l).1 h in absurd (cc)

  -- the first values are the first chunks
  first-loaded : (m : ℕ) (text : List ℕ) → m ≤ length (stored_fixed loaded n text) → (ss : List Value) × (length ss ≡ m) × Begins (InARow (fixed n)) text ss × AllZip (IsLoaded k (fixed n)) (take m (stored_fixed loaded n text)) ss
  first-loaded zero text h = ([], refl, record { text = []; rest = text; parts = refl; spells = refl }, tt)
  first-loaded (suc m) text h =
      elim (cases_lt (length text) n) [
        | inl few ↦ absurd (omega (arith, h, ap length (fixed-none loaded n text few)))
        | inr many ↦
            let own = take n text in
            let whole : length own ≡ n = length-take-le n text many in
            let step = fixed-first loaded n text some many in
            let more = first-loaded m (drop n text) (omega (arith, h, ap length step)) in
            let b = more.2 in
            let cut : take (suc m) (stored_fixed loaded n text) ≡ loaded own ∷ take m (stored_fixed loaded n (drop n text)) = ap (take (suc m)) step in (
              bytes own ∷ more.0,
              ap suc more.1,
              record {
                text = own ++ b.text;
                rest = b.rest;
                parts = sym (take-append-drop n text) ∙ (ap (λ (t : List ℕ). own ++ t) b.parts ∙ sym (append_assoc own b.text b.rest));
                spells = (own, b.text, (whole, refl), b.spells, refl);
              },
              subst (λ (xs : List Stored). AllZip (IsLoaded k (fixed n)) xs (bytes own ∷ more.0)) (sym cut) (loaded-one own (loaded own) whole refl, more.3),
            )
      ]

  -- values at the front are the first that are loaded
  read-loaded : (vs : List Value) (text own rest : List ℕ) → text ≡ own ++ rest → InARow (fixed n) own vs → (length vs ≤ length (stored_fixed loaded n text)) × AllZip (IsLoaded k (fixed n)) (take (length vs) (stored_fixed loaded n text)) vs
  read-loaded [] text own rest e h = (omega arith, tt)
  read-loaded (truth b ∷ vs) text own rest e h = absurd h.2
  read-loaded (number z ∷ vs) text own rest e h = absurd h.2
  read-loaded (bytes s ∷ vs) text own rest e h =
      let first = h.0 in
      let whole : length first ≡ n = h.2.0 in
      let parts : text ≡ first ++ (h.1 ++ rest) = e ∙ (ap (λ (t : List ℕ). t ++ rest) h.4 ∙ append_assoc first h.1 rest) in
      let many : n ≤ length text = omega (arith, whole, ap length parts, length-append first (h.1 ++ rest)) in
      let front : take n text ≡ s = ap (take n) parts ∙ (take_at first (h.1 ++ rest) n whole ∙ h.2.1) in
      let behind : drop n text ≡ h.1 ++ rest = ap (drop n) parts ∙ drop_at first (h.1 ++ rest) n whole in
      let step = fixed-first loaded n text some many in
      let more = read-loaded vs (drop n text) h.1 rest behind h.3 in
      let size : length s ≡ n = sym (ap length h.2.1) ∙ whole in
      let cut : take (suc (length vs)) (stored_fixed loaded n text) ≡ loaded s ∷ take (length vs) (stored_fixed loaded n (drop n text)) = ap (take (suc (length vs))) step ∙ ap (λ (t : List ℕ). loaded t ∷ take (length vs) (stored_fixed loaded n (drop n text))) front in (
        omega (arith, more.0, ap length step),
        subst (λ (xs : List Stored). AllZip (IsLoaded k (fixed n)) xs (bytes s ∷ vs)) (sym cut) (loaded-one s (loaded s) size refl, more.1),
      )

  reads-plain : ReadsPlain k (fixed n) (stored_fixed loaded n)
  reads-plain = record {
    spelled = λ text m h. let f = first-loaded m text h in (f.0, f.2, f.3);
    read = λ text ss b. read-loaded ss text b.text b.rest b.parts b.spells;
  }

reads-fixed : (c : ArrowColumn) (n : ℕ) (loaded : List ℕ → Stored) → 0 < n → LoadsFixed (leaf_type c.data_type) n loaded → ReadsLeaf c (fixed n) (stored_fixed loaded n) 0
reads-fixed c n loaded some loads = record {
  plain = reads-plain (leaf_type c.data_type) n loaded some loads;
  unique = are_unique.shared (leaf_type c.data_type) (fixed n);
  limited = (λ vs range none long. absurd (omega (arith, none)));
}

-- ---- intervals

same-bytes : (s t : List ℕ) → bytes s ≡ bytes t → s ≡ t
same-bytes s t e = cc

some-bytes : (s : List ℕ) (v : Value) → Some (bytes s) ≡ Some v → v ≡ bytes s
some-bytes s v e = cc

none-some : (v : Value) → None ≡ Some v → ⊥
none-some v e = cc

not-truth : (b : Bool) (s : List ℕ) → truth b ≡ bytes s → ⊥
not-truth b s e = cc

not-number : (z : ℤ) (s : List ℕ) → number z ≡ bytes s → ⊥
not-number z s e = cc

kept : (x y : Bool) (s : List ℕ) (v : Value) → (if x && y then Some (bytes s) else None) ≡ Some v → (x ≡ true) × (y ≡ true) × (v ≡ bytes s)
kept true true s v e = (refl, refl, some-bytes s v e)
kept true false s v e = absurd (none-some v e)
kept false y s v e = absurd (none-some v e)

keeps : (x y : Bool) (s : List ℕ) → x ≡ true → y ≡ true → (if x && y then Some (bytes s) else None) ≡ Some (bytes s)
keeps true true s a b = refl
keeps true false s a b = absurd (true≢false (sym b))
keeps false y s a b = absurd (true≢false (sym a))

zeros_again : (n : ℕ) → are_zeros (replicate n 0) ≡ true
zeros_again zero = refl
zeros_again (suc n) = zeros_again n

loads-months : LoadsFixed months 12 loaded_months
loads-months s (bytes t) l = (
  (λ h.
      let p = kept (length s == 12) (are_zeros (drop 4 s)) s (bytes t) h in
      let same : t ≡ s = same-bytes t s p.2 in
      let eight : length (drop 4 s) ≡ 8 = omega (arith, length-drop 4 s, l) in
      (refl, rw same l, rw same (all_zeros (drop 4 s) p.1 ∙ ap (λ (n : ℕ). replicate n 0) eight), ap bytes (sym same))),
  (λ h.
      let same : s ≡ t = same-bytes s t h.3 in
      let zeros : are_zeros (drop 4 s) ≡ true = ap (λ (u : List ℕ). are_zeros (drop 4 u)) same ∙ (ap are_zeros h.2 ∙ zeros_again 8) in
      keeps (length s == 12) (are_zeros (drop 4 s)) s (ap (λ (n : ℕ). n == 12) l) zeros ∙ ap (λ (u : List ℕ). Some (bytes u)) same),
)
loads-months s (truth b) l = ((λ h. absurd (not-truth b s (kept (length s == 12) (are_zeros (drop 4 s)) s (truth b) h).2)), (λ h. absurd h))
loads-months s (number z) l = ((λ h. absurd (not-number z s (kept (length s == 12) (are_zeros (drop 4 s)) s (number z) h).2)), (λ h. absurd h))

loads-days : LoadsFixed days 12 loaded_days
loads-days s (bytes t) l = (
  (λ h.
      let p = kept (length s == 12) (are_zeros (take 4 s)) s (bytes t) h in
      let same : t ≡ s = same-bytes t s p.2 in
      let four : length (take 4 s) ≡ 4 = length-take-le 4 s (omega (arith, l)) in
      (refl, rw same l, rw same (all_zeros (take 4 s) p.1 ∙ ap (λ (n : ℕ). replicate n 0) four), ap bytes (sym same))),
  (λ h.
      let same : s ≡ t = same-bytes s t h.3 in
      let zeros : are_zeros (take 4 s) ≡ true = ap (λ (u : List ℕ). are_zeros (take 4 u)) same ∙ (ap are_zeros h.2 ∙ zeros_again 4) in
      keeps (length s == 12) (are_zeros (take 4 s)) s (ap (λ (n : ℕ). n == 12) l) zeros ∙ ap (λ (u : List ℕ). Some (bytes u)) same),
)
loads-days s (truth b) l = ((λ h. absurd (not-truth b s (kept (length s == 12) (are_zeros (take 4 s)) s (truth b) h).2)), (λ h. absurd h))
loads-days s (number z) l = ((λ h. absurd (not-number z s (kept (length s == 12) (are_zeros (take 4 s)) s (number z) h).2)), (λ h. absurd h))

-- ---- each type

fixed-so : (stores : TypeTree → Bool) (t : TypeTree) → makes_fixed stores t ≡ true → (stores t ≡ true) × (is_fixed t ≡ true)
fixed-so stores t e = and_parts (stores t) (is_fixed t) e

month-type : (t : TypeTree) → makes_fixed stores_i32 t ≡ true → leaf_type t ≡ months
month-type (t_interval YearMonth) e = refl
month-type t_int32 e = absurd (true≢false (sym e))
month-type t_date32 e = absurd (true≢false (sym e))
month-type (t_time32 u) e = absurd (true≢false (sym e))
month-type t e = absurd (true≢false (sym e))

day-type : (t : TypeTree) → makes_fixed stores_days t ≡ true → leaf_type t ≡ days
day-type (t_interval DayTime) e = refl
day-type t e = absurd (true≢false (sym e))

pub months_read : (c : ArrowColumn) → makes_fixed stores_i32 c.data_type ≡ true → ReadsLeaf c (fixed 12) (stored_fixed loaded_months 12) 0
months_read c e = reads-fixed c 12 loaded_months (omega arith) (rw (month-type c.data_type e) loads-months)

pub days_read : (c : ArrowColumn) → makes_fixed stores_days c.data_type ≡ true → ReadsLeaf c (fixed 12) (stored_fixed loaded_days 12) 0
days_read c e = reads-fixed c 12 loaded_days (omega arith) (rw (day-type c.data_type e) loads-days)

-- ---- decimals

some-number : (z : ℤ) (v : Value) → Some (number z) ≡ Some v → v ≡ number z
some-number z v e = cc

loaded-decimal : (s : List ℕ) → length s ≤ 16 → loaded_decimal s ≡ Some (number (signed_big_endian s))
loaded-decimal s h = elim (leb_tells (length s) 16) [ inl e ↦ rw e.0 refl | inr e ↦ absurd (omega (arith, e.1, h)) ]

same-number : (y z : ℤ) → number y ≡ number z → y ≡ z
same-number y z e = cc

not-a-truth : (b : Bool) (z : ℤ) → truth b ≡ number z → ⊥
not-a-truth b z e = cc

not-a-string : (t : List ℕ) (z : ℤ) → bytes t ≡ number z → ⊥
not-a-string t z e = cc

loads-decimal : (n : ℕ) → 1 ≤ n → n ≤ 16 → LoadsFixed decimal n loaded_decimal
loads-decimal n a b s (number z) l =
    let is = loaded-decimal s (omega (arith, l, b)) in (
      (λ h. (a, b, l, same-number z (signed_big_endian s) (some-number (signed_big_endian s) (number z) (sym is ∙ h)))),
      (λ h. is ∙ ap (λ (y : ℤ). Some (number y)) (sym h.3)),
    )
loads-decimal n a b s (truth c) l =
    ((λ h. absurd (not-a-truth c (signed_big_endian s) (some-number (signed_big_endian s) (truth c) (sym (loaded-decimal s (omega (arith, l, b))) ∙ h)))), (λ h. absurd h))
loads-decimal n a b s (bytes t) l =
    ((λ h. absurd (not-a-string t (signed_big_endian s) (some-number (signed_big_endian s) (bytes t) (sym (loaded-decimal s (omega (arith, l, b))) ∙ h)))), (λ h. absurd h))

decimal-type : (t : TypeTree) → makes_fixed stores_i128 t ≡ true → leaf_type t ≡ decimal
decimal-type (t_decimal p s) e = refl
decimal-type t e = absurd (true≢false (sym e))

le-holds : (m n : ℕ) → nat_le m n ≡ true → m ≤ n
le-holds m n e = elim (leb_tells m n) [ inl h ↦ h.1 | inr h ↦ absurd (true≢false (sym e ∙ h.0)) ]

pub decimals_read : (n : ℕ) → (nat_le 1 n && nat_le n 16) ≡ true → (c : ArrowColumn) → makes_fixed stores_i128 c.data_type ≡ true → ReadsLeaf c (fixed n) (stored_fixed loaded_decimal n) 0
decimals_read n e c m =
    let p = and_parts (nat_le 1 n) (nat_le n 16) e in
    let a = le-holds 1 n p.0 in
    reads-fixed c n loaded_decimal a (rw (decimal-type c.data_type m) (loads-decimal n a (le-holds n 16 p.1)))

-- ---- byte strings of one size

loads-chunks : (n : ℕ) → LoadsFixed (fixed_bytes n) n loaded_bytes
loads-chunks n s (bytes t) l = (
  (λ h. let same : t ≡ s = same-bytes t s (some-bytes s (bytes t) h) in (refl, ap length same ∙ l, ap bytes (sym same))),
  (λ h. ap (λ (v : Value). Some v) h.2),
)
loads-chunks n s (truth b) l = ((λ h. absurd (not-truth b s (some-bytes s (truth b) h))), (λ h. absurd h))
loads-chunks n s (number z) l = ((λ h. absurd (not-number z s (some-bytes s (number z) h))), (λ h. absurd h))

same-size : (n m : ℕ) → (n == m) ≡ true → n ≡ m
same-size n m e = elim (eqb_tells n m) [ inl h ↦ h.1 | inr h ↦ absurd (true≢false (sym e ∙ h.0)) ]

chunk-type : (n : ℕ) (t : TypeTree) → reads_chunks n t ≡ true → (leaf_type t ≡ fixed_bytes n) × (1 ≤ n)
chunk-type n (t_fixed_size_binary m) e =
    let p = and_parts (n == m) (is_stored_length m) e in
    let same : n ≡ m = same-size n m p.0 in
    (ap fixed_bytes (sym same), omega (arith, same, le-holds 1 m (and_parts (nat_le 1 m) (nat_le m 2147483647) p.1).0))
chunk-type n t e = absurd (true≢false (sym e))

pub chunks_read : (n : ℕ) (c : ArrowColumn) → reads_chunks n c.data_type ≡ true → ReadsLeaf c (fixed n) (stored_fixed loaded_bytes n) 0
chunks_read n c e = let k = chunk-type n c.data_type e in reads-fixed c n loaded_bytes k.1 (rw k.0 (loads-chunks n))
