-- Where the entries of a dictionary page stand, one behind the other.
use Rattle.std.proofs.Common.{◌≡◌, ◌⊎◌, inl, inr, ℕ, ◌+◌, ◌-◌, ◌*◌, ◌<◌, ◌≤◌, Bool, true, false, Some, List, [], ◌∷◌, ◌++◌, map, length, take, drop, refl, arith, ap, sym, ◌∙◌, append_assoc, append-nil, length-append}
use Rattle.std.specs.List.{AllZip}
use Rattle.std.proofs.Math.Seq.{take-add}
use Rattle.std.proofs.lemmas.List.{length-map, map-append, take-append-drop, drop-drop}
use Rattle.std.proofs.lemmas.List.Elements.{All-nil, All-append, All-cons}
use Rattle.columns_base.specs.declared.error.Error.{Error}
use Rattle.columns_base.specs.declared.error.Error.TheVariants.{OutOfSpec}
use Rattle.columns_base.specs.declared.error.S.TheVariants.{S6, S7}
use Rattle.shredding.specs.Slot.{Value}
use Rattle.read_pieces.specs.Leaves.{AreEights, BeginsOutside, IsValue, in_bytes}
use Rattle.read_walk.specs.Values.{Stored}
use Rattle.read_column.specs.Dictionary.{CannotHold, HoldsEntries, IsPlaceIn, Texts, all_of, text_at}
use Rattle.read_column.specs.Entries.{ArePlaces, ArePlacesTo}
use Rattle.read_column.specs.declared.entries.Place.{Place}
use Rattle.read_column.proofs.Dictionaries.{zip-length}

pub places-none : (stored : List ℕ → List Stored) (body : List ℕ) → ArePlacesTo stored body [] 0
places-none stored body = record { within = All-nil (IsPlaceIn (length body)); last = omega arith; values = []; are = tt; parts = refl; read = refl }

zip-push : {A B : Type 0} (R : A → B → Type 0) (xs : List A) (ys : List B) (x : A) (y : B) → AllZip R xs ys → R x y → AllZip R (xs ++ x ∷ []) (ys ++ y ∷ [])
zip-push R [] [] x y a r = (r, tt)
zip-push R [] (b ∷ ys) x y a r = absurd a
zip-push R (b ∷ xs) [] x y a r = absurd a
zip-push R (b ∷ xs) (c ∷ ys) x y a r = (a.0, zip-push R xs ys x y a.1 r)

all-push : (xs : Texts) (x : List ℕ) → all_of (xs ++ x ∷ []) ≡ all_of xs ++ x
all-push [] x = append-nil x
all-push (y ∷ xs) x = ap (λ (s : List ℕ). y ++ s) (all-push xs x) ∙ sym (append_assoc y (all_of xs) x)

-- a part of the bytes, and those behind it
part-of : (body : List ℕ) (p : Place) → p.start ≤ p.end → drop p.start body ≡ text_at body p ++ drop p.end body
part-of body p h =
    let e : p.start + (p.end - p.start) ≡ p.end = omega (arith, h) in
    sym (take-append-drop (p.end - p.start) (drop p.start body)) ∙ ap (λ (s : List ℕ). text_at body p ++ s) (drop-drop (p.end - p.start) p.start body ∙ ap (λ (n : ℕ). drop n body) e)

pub places-on : (stored : List ℕ → List Stored) (body : List ℕ) (places : List Place) (end : ℕ) (p : Place) (v : Value) → ArePlacesTo stored body places end → p.start ≡ end → IsPlaceIn (length body) p → IsValue stored (text_at body p) v → ArePlacesTo stored body (places ++ p ∷ []) p.end
places-on stored body places end p v a start within is =
    let texts : map (text_at body) (places ++ p ∷ []) ≡ map (text_at body) places ++ text_at body p ∷ [] = map-append (text_at body) places (p ∷ []) in
    let whole : take p.start body ++ text_at body p ≡ take p.end body = sym (take-add p.start (p.end - p.start) body) ∙ ap (λ (n : ℕ). take n body) (omega (arith, within.0)) in
    let next : stored (drop end body) ≡ Some v ∷ stored (drop p.end body) = ap (λ (n : ℕ). stored (drop n body)) (sym start) ∙ (ap stored (part-of body p within.0) ∙ is.is (drop p.end body)) in
    record {
      within = All-append (IsPlaceIn (length body)) places (p ∷ []) a.within (All-cons (IsPlaceIn (length body)) p [] within (All-nil (IsPlaceIn (length body))));
      last = within.1;
      values = a.values ++ v ∷ [];
      are = rw texts (zip-push (IsValue stored) (map (text_at body) places) a.values (text_at body p) v a.are is);
      parts = ap all_of texts ∙ (all-push (map (text_at body) places) (text_at body p) ∙ (ap (λ (s : List ℕ). s ++ text_at body p) (a.parts ∙ ap (λ (n : ℕ). take n body) (sym start)) ∙ whole));
      read = a.read ∙ (ap (λ (xs : List Stored). map Some a.values ++ xs) next ∙ (sym (append_assoc (map {B = Stored} Some a.values) (Some v ∷ []) (stored (drop p.end body))) ∙ ap (λ (xs : List Stored). xs ++ stored (drop p.end body)) (sym (map-append {B = Stored} Some a.values (v ∷ [])))));
    }

pub places-end : (stored : List ℕ → List Stored) (body : List ℕ) (places : List Place) (end n : ℕ) (e : Error) → ArePlacesTo stored body places end → length places < n → ((e ≡ OutOfSpec S6) × (stored (drop end body) ≡ [])) ⊎ ((e ≡ OutOfSpec S7) × BeginsOutside stored (drop end body)) → CannotHold stored n body e
places-end stored body places end n e a few why =
    let size : length places ≡ length a.values = sym (length-map places (text_at body)) ∙ zip-length (IsValue stored) (map (text_at body) places) a.values a.are in
    elim why [
      | inl cut ↦ inl (cut.0, omega (arith, few, size, ap length a.read, length-append (map {B = Stored} Some a.values) (stored (drop end body)), length-map {B = Stored} a.values Some, ap length cut.1))
      | inr out ↦ inr (out.0, record { front = a.values; rest = out.1.0; parts = a.read ∙ ap (λ (xs : List Stored). map Some a.values ++ xs) out.1.1; few = omega (arith, few, size) })
    ]

not-own : (b : Bool) → b ≡ true → b ≡ false → ⊥
not-own b t f = cc (t, f)

pub holds-own : (stored : List ℕ → List Stored) (body : List ℕ) (places : List Place) (n : ℕ) → in_bytes stored ≡ true → ArePlaces stored body places n → HoldsEntries stored n body (map (text_at body) places)
holds-own stored body places n own a = record {
  own = λ _. (record { count = length-map places (text_at body) ∙ a.count; values = a.to.values; are = a.to.are; rest = drop a.end body; parts = sym (take-append-drop a.end body) ∙ ap (λ (s : List ℕ). s ++ drop a.end body) (sym a.to.parts) });
  bits = λ f. absurd (not-own (in_bytes stored) own f);
}

pub holds-bits : (stored : List ℕ → List Stored) (body : List ℕ) (texts : Texts) (n : ℕ) → in_bytes stored ≡ false → AreEights stored body → n ≤ 8 * length body → HoldsEntries stored n body texts
holds-bits stored body texts n own a few = record { own = λ t. absurd (not-own (in_bytes stored) t own); bits = λ _. (a, few) }

pub bits-end : (stored : List ℕ → List Stored) (body : List ℕ) (n : ℕ) (e : Error) → AreEights stored body → (e ≡ OutOfSpec S6) × (8 * length body < n) → CannotHold stored n body e
bits-end stored body n e a few = inl (few.0, omega (arith, few.1, ap length a.are, length-map {B = Stored} a.values Some, a.count))
