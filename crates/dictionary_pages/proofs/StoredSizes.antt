-- What is stored for values that are no decimals, of which each has one stored value.
use Rattle.std.proofs.Common.{◌≡◌, true, true≢false, List, [], ◌∷◌, length, pos, Some, None, Option, refl, ap, sym, ◌∙◌, arith}
use Rattle.shredding.specs.Shape.{LeafType, text, binary, signed, unsigned, fixed_bytes}
use Rattle.shredding.specs.Shred.{Triple}
use Rattle.shredding.specs.Slot.{Value, number, bytes}
use Rattle.pq_tree.specs.Physical.{Physical, int32, int64, byte_array, fixed}
use Rattle.pq_files.specs.Page.{values_in}
use Rattle.pq_files.specs.Stored.{IsStored, AreStored, IsStoredOption}
use Rattle.dictionary_pages.proofs.EntryTypes.{is_entry_kind}

one_stored : (t : LeafType) (p : Physical) (v s r : Value) → is_entry_kind t ≡ true → IsStored t p v s → IsStored t p v r → s ≡ r
one_stored (signed w) int32 (number z) s r k h g = h.2 ∙ sym g.2
one_stored (signed w) int64 (number z) s r k h g = h.2 ∙ sym g.2
one_stored (unsigned w) int32 (number (pos n)) s r k h g = h.2 ∙ sym g.2
one_stored (unsigned w) int64 (number (pos n)) s r k h g = h.2 ∙ sym g.2
one_stored text byte_array (bytes b) s r k h g = h.1 ∙ sym g.1
one_stored binary byte_array (bytes b) s r k h g = h ∙ sym g
one_stored (fixed_bytes n) (fixed m) (bytes b) s r k h g = h.2 ∙ sym g.2
one_stored (signed w) p v s r k h g = absurd h
one_stored (unsigned w) p v s r k h g = absurd h
one_stored text p v s r k h g = absurd h
one_stored binary p v s r k h g = absurd h
one_stored (fixed_bytes n) p v s r k h g = absurd h
one_stored t p v s r k h g = absurd (true≢false (sym k))

one_option : (t : LeafType) (p : Physical) (v s r : Option Value) → is_entry_kind t ≡ true → IsStoredOption t p v s → IsStoredOption t p v r → s ≡ r
one_option t p None None None k h g = refl
one_option t p (Some v) (Some s) (Some r) k h g = ap Some (one_stored t p v s r k h g)
one_option t p None (Some s) r k h g = absurd h
one_option t p None None (Some r) k h g = absurd g
one_option t p (Some v) None r k h g = absurd h
one_option t p (Some v) (Some s) None k h g = absurd g

abbrev with_value : Option Value → List Value → List Value
with_value None vs = vs
with_value (Some v) vs = v ∷ vs

-- so a column has one list of stored values
pub values_once : (t : LeafType) (p : Physical) (xs ys zs : List Triple) → is_entry_kind t ≡ true → AreStored t p xs ys → AreStored t p xs zs → values_in ys ≡ values_in zs
values_once t p [] [] [] k h g = refl
values_once t p (x ∷ xs) (y ∷ ys) (z ∷ zs) k h g = by y.value z.value (one_option t p x.value y.value z.value k h.0.value g.0.value) (values_once t p xs ys zs k h.1 g.1)
  where
    by : (a b : Option Value) → a ≡ b → values_in ys ≡ values_in zs → values_in (record { repetition = y.repetition; definition = y.definition; value = a } ∷ ys) ≡ values_in (record { repetition = z.repetition; definition = z.definition; value = b } ∷ zs)
    by None None e r = r
    by (Some a) (Some b) e r = ap (λ (o : Option Value). with_value o (values_in ys)) e ∙ ap (λ (vs : List Value). b ∷ vs) r
    by None (Some b) e r = absurd cc
    by (Some a) None e r = absurd cc
values_once t p [] (y ∷ ys) zs k h g = absurd h
values_once t p [] [] (z ∷ zs) k h g = absurd g
values_once t p (x ∷ xs) [] zs k h g = absurd h
values_once t p (x ∷ xs) (y ∷ ys) [] k h g = absurd g

pub stored_length : (t : LeafType) (p : Physical) (xs ys : List Triple) → AreStored t p xs ys → length ys ≡ length xs
stored_length t p [] [] h = refl
stored_length t p (x ∷ xs) (y ∷ ys) h = let e = stored_length t p xs ys h.1 in omega (arith, e)
stored_length t p [] (y ∷ ys) h = absurd h
stored_length t p (x ∷ xs) [] h = absurd h
