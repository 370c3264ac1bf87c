-- Which lists of triples are columns.
use Rattle.std.proofs.Common.{◌≡◌, ◌⊎◌, inl, inr, ℕ, zero, suc, ◌+◌, ◌<◌, ◌≤◌, Bool, true, false, is_some, nat_eq, Option, Some, None, List, [], ◌∷◌, ◌++◌, All, refl, subst, sym, ap, ◌∙◌, zero-add, arith, ne_eqb, eq-eqb}
use Rattle.std.proofs.lemmas.Bool.{cases_lt}
use Rattle.std.specs.List.{AllByRecursion as Each}
use Rattle.std.proofs.lemmas.List.Elements.{recursion_from_All, All-from_recursion}
use Rattle.shredding.specs.Along.{IsAlong}
use Rattle.shredding.specs.Local.{IsWithin, inside, MayFollow, MayGoOn, IsInOrder}
use Rattle.shredding.specs.Slot.{Value, Slot, null, value, items, fields, no_slots, slot, list_of, slots_of}
use Rattle.shredding.specs.Shape.{Way, at_leaf, in_list, in_struct}
use Rattle.shredding.specs.Shred.{Triple, up, single, shred, column, max_repetition, max_definition}
use Rattle.shredding.proofs.Along.{list_of-slots_of}
use Rattle.shredding.proofs.Levels.{max-up, max_suc-up}
use Rattle.shredding.proofs.Prefixes.{only_at, slot_at-only_at}
use Rattle.shredding.proofs.Unique.{rows_along}

-- the levels and the value of a triple of a slot at d levels, within k lists
pub record Fine (w : Way) (d k : ℕ) (t : Triple) : Type 0 where
  pub low : d ≤ t.definition
  pub high : t.definition ≤ d + max_definition w
  pub present : is_some t.value ≡ nat_eq t.definition (d + max_definition w)

-- a triple that goes on with a slot, j lists below the slot
pub record Next (w : Way) (d k : ℕ) (t u : Triple) : Type 0 where
  pub list : ℕ
  pub deeper : 0 < list
  pub least : list ≤ max_repetition w
  pub repetition : u.repetition ≡ k + list
  pub before : d + inside w list ≤ t.definition
  pub after : d + inside w list ≤ u.definition
  pub high : u.definition ≤ d + max_definition w
  pub present : is_some u.value ≡ nat_eq u.definition (d + max_definition w)

abbrev pub GoesOn : Way → ℕ → ℕ → Triple → List Triple → Type 0
GoesOn w d k t [] = Unit {0}
GoesOn w d k t (u ∷ us) = Next w d k t u × GoesOn w d k u us

-- some slot along the way has these triples
abbrev pub Has : Way → ℕ → ℕ → List Triple → Type 0
Has w d k [] = ⊥
Has w d k (t ∷ us) = (s : Slot) × IsAlong w s × (shred w s t.repetition d k ≡ t ∷ us)

abbrev pub Found : Way → Type 0
Found w = (d k : ℕ) (t : Triple) (us : List Triple) → Fine w d k t → GoesOn w d k t us → Has w d k (t ∷ us)

-- a triple at or above the slot's own level is the last one
nothing_on : (w : Way) (d k : ℕ) (t : Triple) (us : List Triple) → ((j : ℕ) → 0 < j → j ≤ max_repetition w → t.definition < d + inside w j) → GoesOn w d k t us → us ≡ []
nothing_on w d k t [] l h = refl
nothing_on w d k t (u ∷ us) l h = let m = l h.0.list h.0.deeper h.0.least in absurd (omega (arith, m, h.0.before))

is_single : (t : Triple) (us : List Triple) (d : ℕ) (v : Option Value) → us ≡ [] → t.definition ≡ d → t.value ≡ v → single t.repetition d v ≡ t ∷ us
is_single t us d v e f g = λ i. record { repetition = t.repetition; definition = sym f i; value = sym g i } ∷ sym e i

absent : (t : Triple) (m : ℕ) → is_some t.value ≡ nat_eq t.definition m → t.definition < m → t.value ≡ None
absent t m p l = go t.value refl
  where
    go : (v : Option Value) → t.value ≡ v → v ≡ None
    go None e = refl
    go (Some v) e = let a : nat_eq t.definition m ≡ false = ne_eqb t.definition m (omega arith) in let b : is_some t.value ≡ true = ap is_some e in cc (a, b, p)

there : (t : Triple) (m : ℕ) → is_some t.value ≡ nat_eq t.definition m → t.definition ≡ m → (v : Value) × (t.value ≡ Some v)
there t m p l = go t.value refl
  where
    go : (v : Option Value) → t.value ≡ v → (x : Value) × (v ≡ Some x)
    go (Some v) e = (v, refl)
    go None e = let a : nat_eq t.definition m ≡ true = eq-eqb t.definition m l in let b : is_some t.value ≡ false = ap is_some e in absurd (cc (a, b, p))

-- what follows in a list of slots: a triple that goes on, or the first one of the next slot
abbrev pub Runs : Way → ℕ → ℕ → Triple → List Triple → Type 0
Runs w d k t [] = Unit {0}
Runs w d k t (u ∷ us) = (Next w d k t u ⊎ ((u.repetition ≡ k) × Fine w d k u)) × Runs w d k u us

pub grouped : (w : Way) → Found w → (d k : ℕ) (t : Triple) (us : List Triple) → Runs w d k t us → (own : List Triple) × (ss : List Slot) × GoesOn w d k t own × Each (IsAlong w) ss × (us ≡ own ++ rows_along k d k w ss)
grouped w f d k t [] h = ([], [], tt, tt, refl)
grouped w f d k t (u ∷ us) h =
    let rest = grouped w f d k u us h.1 in
    elim h.0 [
      | inl next ↦ (u ∷ rest.0, rest.1, (next, rest.2), rest.3, ap (λ c. u ∷ c) rest.4)
      | inr head ↦
          let one = f d k u rest.0 head.1 rest.2 in
          let whole : shred w one.0 k d k ≡ u ∷ rest.0 = subst (λ r. shred w one.0 r d k ≡ u ∷ rest.0) head.0 one.2 in
          ([], one.0 ∷ rest.1, tt, (one.1, rest.3), ap (λ c. u ∷ c) rest.4 ∙ ap (λ c. c ++ rows_along k d k w rest.1) (sym whole))
    ]

-- from a list to its items

item_fine : (n : Bool) (w : Way) (d k : ℕ) (t : Triple) → suc (up n d) ≤ t.definition → t.definition ≤ d + max_definition (in_list n w) → is_some t.value ≡ nat_eq t.definition (d + max_definition (in_list n w)) → Fine w (suc (up n d)) (suc k) t
item_fine n w d k t l h p =
    record { low = l; high = omega (arith, h, max_suc-up n d (max_definition w)); present = p ∙ ap (nat_eq t.definition) (sym (max_suc-up n d (max_definition w))) }

item_next : (n : Bool) (w : Way) (d k : ℕ) (t u : Triple) → Next (in_list n w) d k t u → Next w (suc (up n d)) (suc k) t u ⊎ ((u.repetition ≡ suc k) × Fine w (suc (up n d)) (suc k) u)
item_next n w d k t u h = go h.list refl
  where
    go : (j : ℕ) → h.list ≡ j → Next w (suc (up n d)) (suc k) t u ⊎ ((u.repetition ≡ suc k) × Fine w (suc (up n d)) (suc k) u)
    go zero e = absurd (omega (arith, h.deeper, e))
    go (suc zero) e =
        let a : d + inside (in_list n w) (suc zero) ≤ u.definition = subst (λ j. d + inside (in_list n w) j ≤ u.definition) e h.after in
        inr (omega (arith, h.repetition, e), item_fine n w d k u (omega (arith, a, max_suc-up n d 0)) h.high h.present)
    go (suc (suc j)) e =
        let a : d + inside (in_list n w) (suc (suc j)) ≤ u.definition = subst (λ j. d + inside (in_list n w) j ≤ u.definition) e h.after in
        let b : d + inside (in_list n w) (suc (suc j)) ≤ t.definition = subst (λ j. d + inside (in_list n w) j ≤ t.definition) e h.before in
        let m : suc (up n d) + inside w (suc j) ≡ d + up n (suc (inside w (suc j))) = max_suc-up n d (inside w (suc j)) in
        inl
        (record {
          list = suc j;
          deeper = omega arith;
          least = omega (arith, h.least, e);
          repetition = omega (arith, h.repetition, e);
          before = omega (arith, b, m);
          after = omega (arith, a, m);
          high = omega (arith, h.high, max_suc-up n d (max_definition w));
          present = h.present ∙ ap (nat_eq u.definition) (sym (max_suc-up n d (max_definition w)));
        })

item_runs : (n : Bool) (w : Way) (d k : ℕ) (t : Triple) (us : List Triple) → GoesOn (in_list n w) d k t us → Runs w (suc (up n d)) (suc k) t us
item_runs n w d k t [] h = tt
item_runs n w d k t (u ∷ us) h = (item_next n w d k t u h.0, item_runs n w d k u us h.1)

child_next : (n : Bool) (i : ℕ) (w : Way) (d k : ℕ) (t u : Triple) → Next (in_struct n i w) d k t u → Next w (up n d) k t u
child_next n i w d k t u h = go h.list refl
  where
    go : (j : ℕ) → h.list ≡ j → Next w (up n d) k t u
    go zero e = absurd (omega (arith, h.deeper, e))
    go (suc j) e =
        let a : d + inside (in_struct n i w) (suc j) ≤ u.definition = subst (λ j. d + inside (in_struct n i w) j ≤ u.definition) e h.after in
        let b : d + inside (in_struct n i w) (suc j) ≤ t.definition = subst (λ j. d + inside (in_struct n i w) j ≤ t.definition) e h.before in
        let m : up n d + inside w (suc j) ≡ d + up n (inside w (suc j)) = max-up n d (inside w (suc j)) in
        record {
          list = suc j;
          deeper = omega arith;
          least = omega (arith, h.least, e);
          repetition = omega (arith, h.repetition, e);
          before = omega (arith, b, m);
          after = omega (arith, a, m);
          high = omega (arith, h.high, max-up n d (max_definition w));
          present = h.present ∙ ap (nat_eq u.definition) (sym (max-up n d (max_definition w)));
        }

child_goes_on : (n : Bool) (i : ℕ) (w : Way) (d k : ℕ) (t : Triple) (us : List Triple) → GoesOn (in_struct n i w) d k t us → GoesOn w (up n d) k t us
child_goes_on n i w d k t [] h = tt
child_goes_on n i w d k t (u ∷ us) h = (child_next n i w d k t u h.0, child_goes_on n i w d k u us h.1)

-- a nullable part at its own level is null
shred-null : (w : Way) (r d k : ℕ) → shred w null r d k ≡ single r d None
unfolding shred
shred-null (at_leaf n) r d k = refl
shred-null (in_list n w) r d k = refl
shred-null (in_struct n i w) r d k = refl

found_null : (w : Way) (d k : ℕ) (t : Triple) (us : List Triple) → IsAlong w null → ((j : ℕ) → 0 < j → j ≤ max_repetition w → t.definition < d + inside w j) → t.definition < d + max_definition w → Fine w d k t → t.definition ≤ d → GoesOn w d k t us → Has w d k (t ∷ us)
found_null w d k t us a l m f e g = (null, a, shred-null w t.repetition d k ∙ is_single t us d None (nothing_on w d k t us l g) (omega (arith, e, f.low)) (absent t _ f.present m))

leaf_found : (n : Bool) (d k : ℕ) (t : Triple) (us : List Triple) → Fine (at_leaf n) d k t → GoesOn (at_leaf n) d k t us → t.definition < d + up n 0 ⊎ d + up n 0 ≤ t.definition → Has (at_leaf n) d k (t ∷ us)
unfolding shred
leaf_found true d k t us f g (inl l) = found_null (at_leaf true) d k t us refl (λ j p m. absurd (omega arith)) l f (omega arith) g
leaf_found false d k t us f g (inl l) = absurd (omega (arith, f.low))
leaf_found n d k t us f g (inr l) =
    let v = there t (d + up n 0) f.present (omega (arith, f.high)) in
    (value v.0, tt, is_single t us (up n d) (Some v.0) (nothing_on (at_leaf n) d k t us (λ j p m. absurd (omega arith)) g) (omega (arith, f.high, max-up n d 0)) v.1)

inside_struct : (n : Bool) (i : ℕ) (w : Way) (d j : ℕ) → 0 < j → up n d ≤ d + inside (in_struct n i w) j
inside_struct n i w d zero p = absurd (omega arith)
inside_struct n i w d (suc j) p = omega (arith, max-up n d (inside w (suc j)))

struct_found : (n : Bool) (i : ℕ) (w : Way) → Found w → (d k : ℕ) (t : Triple) (us : List Triple) → Fine (in_struct n i w) d k t → GoesOn (in_struct n i w) d k t us → t.definition < up n d ⊎ up n d ≤ t.definition → Has (in_struct n i w) d k (t ∷ us)
unfolding shred
struct_found true i w u d k t us f g (inl l) =
    found_null (in_struct true i w) d k t us refl (λ j p m. omega (arith, inside_struct true i w d j p)) (omega arith) f (omega arith) g
struct_found false i w u d k t us f g (inl l) = absurd (omega (arith, f.low))
struct_found n i w u d k t us f g (inr l) =
    let fine : Fine w (up n d) k t = record { low = l; high = omega (arith, f.high, max-up n d (max_definition w)); present = f.present ∙ ap (nat_eq t.definition) (sym (max-up n d (max_definition w))) } in
    let one = u (up n d) k t us fine (child_goes_on n i w d k t us g) in (
      fields (only_at i one.0),
      subst (IsAlong w) (sym (slot_at-only_at i one.0)) one.1,
      ap (λ s. shred w s t.repetition (up n d) k) (slot_at-only_at i one.0) ∙ one.2,
    )

inside_list : (n : Bool) (w : Way) (d j : ℕ) → 0 < j → suc (up n d) ≤ d + inside (in_list n w) j
inside_list n w d zero p = absurd (omega arith)
inside_list n w d (suc j) p = omega (arith, max_suc-up n d (inside w j))

list_found : (n : Bool) (w : Way) → Found w → (d k : ℕ) (t : Triple) (us : List Triple) → Fine (in_list n w) d k t → GoesOn (in_list n w) d k t us → t.definition < up n d ⊎ up n d ≤ t.definition → t.definition < suc (up n d) ⊎ suc (up n d) ≤ t.definition → Has (in_list n w) d k (t ∷ us)
unfolding shred
list_found true w u d k t us f g (inl l) m =
    found_null (in_list true w) d k t us refl (λ j p q. omega (arith, inside_list true w d j p)) (omega arith) f (omega arith) g
list_found false w u d k t us f g (inl l) m = absurd (omega (arith, f.low))
list_found n w u d k t us f g (inr l) (inl m) = (
  items no_slots,
  (λ j s q. absurd (omega arith)),
  is_single t us (up n d) None (nothing_on (in_list n w) d k t us (λ j p q. omega (arith, inside_list n w d j p)) g) (omega arith) (absent t _ f.present (omega (arith, max_suc-up n d (max_definition w)))),
)
list_found n w u d k t us f g (inr l) (inr m) =
    let D : ℕ = suc (up n d) in
    let K : ℕ = suc k in
    let rest = grouped w u D K t us (item_runs n w d k t us g) in
    let one = u D K t rest.0 (item_fine n w d k t m f.high f.present) rest.2 in (
      items (slot one.0 (slots_of rest.1)),
      All-from_recursion (IsAlong w) (one.0 ∷ list_of (slots_of rest.1)) (one.1, subst (Each (IsAlong w)) (sym (list_of-slots_of rest.1)) rest.3),
      ap (λ ss. shred w one.0 t.repetition D K ++ rows_along K D K w ss) (list_of-slots_of rest.1)
          ∙ ap (λ c. c ++ rows_along K D K w rest.1) one.2
          ∙ ap (λ c. t ∷ c) (sym rest.4),
    )

pub found : (w : Way) → Found w
found (at_leaf n) d k t us f g = leaf_found n d k t us f g (cases_lt _ _)
found (in_struct n i w) d k t us f g = struct_found n i w (found w) d k t us f g (cases_lt _ _)
found (in_list n w) d k t us f g = list_found n w (found w) d k t us f g (cases_lt _ _) (cases_lt _ _)

-- rows

first_fine : (w : Way) (t : Triple) → IsWithin w t → Fine w 0 0 t
first_fine w t h = record { low = omega arith; high = omega (arith, h.definition); present = h.present ∙ ap (nat_eq t.definition) (sym (zero-add (max_definition w))) }

row_next : (w : Way) (t u : Triple) → IsWithin w u → MayFollow w t u → Next w 0 0 t u ⊎ ((u.repetition ≡ 0) × Fine w 0 0 u)
row_next w t u h m =
    elim (cases_lt 0 u.repetition) [
      | inl l ↦
          inl
          (record {
            list = u.repetition;
            deeper = l;
            least = h.repetition;
            repetition = omega arith;
            before = omega (arith, m.before);
            after = omega (arith, m.after);
            high = omega (arith, h.definition);
            present = h.present ∙ ap (nat_eq u.definition) (sym (zero-add (max_definition w)));
          })
      | inr l ↦ inr (omega arith, first_fine w u h)
    ]

row_runs : (w : Way) (t : Triple) (ts : List Triple) → Each (IsWithin w) ts → MayGoOn w t ts → Runs w 0 0 t ts
row_runs w t [] h m = tt
row_runs w t (u ∷ ts) h m = (row_next w t u h.0 m.0, row_runs w u ts h.1 m.1)

pub has_rows : (w : Way) (ts : List Triple) → All (IsWithin w) ts → IsInOrder w ts → (rows : List Slot) × All (IsAlong w) rows × (column w rows ≡ ts)
has_rows w [] h o = ([], (λ j s q. absurd (omega arith)), refl)
has_rows w (t ∷ ts) h o =
    let each = recursion_from_All (IsWithin w) (t ∷ ts) h in
    let rest = grouped w (found w) 0 0 t ts (row_runs w t ts each.1 o.1) in
    let one = found w 0 0 t rest.0 (first_fine w t each.0) rest.2 in
    let whole : shred w one.0 0 0 0 ≡ t ∷ rest.0 = subst (λ r. shred w one.0 r 0 0 ≡ t ∷ rest.0) o.0 one.2 in (
      one.0 ∷ rest.1,
      All-from_recursion (IsAlong w) (one.0 ∷ rest.1) (one.1, rest.3),
      ap (λ c. c ++ column w rest.1) whole ∙ ap (λ c. t ∷ c) (sym rest.4),
    )
