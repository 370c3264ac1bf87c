-- Why the entries of a dictionary page are no array.
use Rattle.std.proofs.Common.{◌≡◌, ◌⊎◌, inl, inr, ℕ, ◌≤◌, Bool, true, false, Some, List, [], ◌∷◌, ◌++◌, length, map, take, drop, refl, arith, ap, sym, ◌∙◌, true≢false, append_assoc, take-append-drop, length-take-le}
use Rattle.std.specs.List.{AllZip}
use Rattle.std.proofs.lemmas.List.{map-append}
use Rattle.columns_base.specs.declared.error.Error.{Error}
use Rattle.columns_base.specs.declared.error.Error.TheVariants.{Memory}
use Rattle.read_column.proofs.Dictionaries.{zip-length}
use Rattle.read_column.specs.Dictionary.{HoldsEntries, Texts, all_of}
use Rattle.read_pieces.specs.Leaves.{IsValue, in_bytes}
use Rattle.read_walk.specs.Values.{Stored, byte_size, bytes_of}
use Rattle.shredding.specs.Slot.{Value}
use Rattle.dictionary_leaves.specs.Entries.{AreLong, BeginWith, CannotDecodeAll, CannotEnter, PassesLimit, is_overflow}

-- ---- all entries are there

texts-stored : (stored : List ℕ → List Stored) (texts : Texts) (vs : List Value) (rest : List ℕ) → AllZip (IsValue stored) texts vs → stored (all_of texts ++ rest) ≡ map Some vs ++ stored rest
texts-stored stored [] [] rest a = refl
texts-stored stored [] (v ∷ vs) rest a = absurd a
texts-stored stored (t ∷ texts) [] rest a = absurd a
texts-stored stored (t ∷ texts) (v ∷ vs) rest a =
    ap stored (append_assoc t (all_of texts) rest) ∙ (a.0.is (all_of texts ++ rest) ∙ ap (λ (xs : List Stored). Some v ∷ xs) (texts-stored stored texts vs rest a.1))

AreAllThere : (List ℕ → List Stored) → ℕ → List ℕ → Type 0
AreAllThere stored n body = (vs : List Value) × BeginWith stored n body vs

some-of : (stored : List ℕ → List Stored) (n : ℕ) (body : List ℕ) (vs : List Value) → stored body ≡ map Some vs → n ≤ length vs → BeginWith stored n body (take n vs)
some-of stored n body vs e h = record {
  count = length-take-le n vs h;
  rest = map Some (drop n vs);
  parts = e ∙ (ap (map Some) (sym (take-append-drop n vs)) ∙ map-append Some (take n vs) (drop n vs));
}

all-there : (stored : List ℕ → List Stored) (n : ℕ) (body : List ℕ) (texts : Texts) → HoldsEntries stored n body texts → AreAllThere stored n body
unfolding AreAllThere
all-there stored n body texts h = by (in_bytes stored) refl
  where
    by : (b : Bool) → in_bytes stored ≡ b → AreAllThere stored n body
    by true e =
        let own = h.own e in
        (own.values, record { count = sym (zip-length (IsValue stored) texts own.values own.are) ∙ own.count; rest = stored own.rest; parts = ap stored own.parts ∙ texts-stored stored texts own.values own.rest own.are })
    by false e =
        let eights = (h.bits e).0 in
        (take n eights.values, some-of stored n body eights.values eights.are (omega (arith, (h.bits e).1, eights.count)))

-- ---- too long

-- values of the same list from the front on have no more bytes where they are fewer
shorter : (vs ws : List Value) (xs ys : List Stored) → map Some vs ++ xs ≡ map Some ws ++ ys → length vs ≤ length ws → bytes_of vs ≤ bytes_of ws
shorter [] ws xs ys e h = omega arith
shorter (v ∷ vs) [] xs ys e h = absurd (omega (arith, h))
shorter (v ∷ vs) (w ∷ ws) xs ys e h =
    let first : byte_size v ≡ byte_size w = ap byte_size (same-head v w (map Some vs ++ xs) (map Some ws ++ ys) e) in
    omega (arith, first, shorter vs ws xs ys (cc e) (omega (arith, h)))
  where
    same-head : (v w : Value) (xs ys : List Stored) → Some v ∷ xs ≡ Some w ∷ ys → v ≡ w
    same-head v w xs ys e = cc e

are-long : (stored : List ℕ → List Stored) (limit n : ℕ) (body : List ℕ) → AreAllThere stored n body → PassesLimit stored limit n body → AreLong stored limit n body
unfolding AreAllThere
are-long stored limit n body all p = record {
  values = all.0;
  begin = all.1;
  some = p.some;
  long = omega (arith, p.long, shorter p.values all.0 p.rest all.1.rest (sym p.parts ∙ all.1.parts) (omega (arith, p.few, all.1.count)));
}

-- ---- the error

pub not_past : (stored : List ℕ → List Stored) (limit n : ℕ) (body : List ℕ) (e : Error) → is_overflow e ≡ false → CannotDecodeAll stored limit n body e → (e ≡ Memory) ⊎ CannotEnter stored limit n body e
not_past stored limit n body e o (inl m) = inl m
not_past stored limit n body e o (inr (inl h)) = inr (inl h)
not_past stored limit n body e o (inr (inr p)) = absurd (true≢false (sym (ap is_overflow p.0) ∙ o))

pub past : (stored : List ℕ → List Stored) (limit n : ℕ) (body : List ℕ) (texts : Texts) (e : Error) → is_overflow e ≡ true → HoldsEntries stored n body texts → CannotDecodeAll stored limit n body e → CannotEnter stored limit n body e
past stored limit n body texts e o h (inl m) = absurd (true≢false (sym o ∙ ap is_overflow m))
past stored limit n body texts e o h (inr (inl (inl s))) = absurd (true≢false (sym o ∙ ap is_overflow s.0))
past stored limit n body texts e o h (inr (inl (inr s))) = absurd (true≢false (sym o ∙ ap is_overflow s.0))
past stored limit n body texts e o h (inr (inr p)) = inr (p.0, are-long stored limit n body (all-there stored n body texts h) p.1)
