-- Two sets of columns to which no rows shred.
use Rattle.std.proofs.Common.{◌≡◌, ℕ, ◌≤◌, Bool, true, false, is_some, Some, None, List, [], ◌∷◌, ◌++◌, refl, subst, ap, arith}
use Rattle.std.proofs.lemmas.List.Elements.{recursion_from_All}
use Rattle.shredding.specs.Slot.{Value, Slot, null, value, items, fields, no_slots, slot, list_of}
use Rattle.shredding.specs.Shape.{IsOf, Way, at_leaf, in_list}
use Rattle.shredding.specs.Shred.{Triple, shred, column, columns}
use Rattle.shredding.specs.Worked.{HasNoRows, list_field, pair_field, columns_in_conflict, column_with_orphan, triple}
use Rattle.shredding.proofs.Starts.{BeginsAt, StopsAt, StopsAt-rows, begins_in_list, shred_begins}
use Rattle.shredding.proofs.Unique.{cons_head, cons_tail}

has_value : List Triple → Bool
has_value [] = false
has_value (t ∷ ts) = is_some t.value

first_column : List (List Triple) → List Triple
first_column [] = []
first_column (c ∷ cs) = c

second_column : List (List Triple) → List Triple
second_column [] = []
second_column (c ∷ cs) = first_column cs

-- both columns of a row have a value, or none has
agree : (s : Slot) (rows : List Slot) → IsOf pair_field s → has_value (first_column (columns pair_field (s ∷ rows))) ≡ has_value (second_column (columns pair_field (s ∷ rows)))
unfolding shred has_value first_column second_column
agree null rows h = refl
agree (value u) rows h = absurd h
agree (items ss) rows h = absurd h
agree (fields no_slots) rows h = absurd h
agree (fields (slot s no_slots)) rows h = absurd h.1
agree (fields (slot null (slot t ss))) rows h = cc h.0
agree (fields (slot (items us) (slot t ss))) rows h = absurd h.0
agree (fields (slot (fields us) (slot t ss))) rows h = absurd h.0
agree (fields (slot (value u) (slot null ss))) rows h = cc h.1.0
agree (fields (slot (value u) (slot (items us) ss))) rows h = absurd h.1.0
agree (fields (slot (value u) (slot (fields us) ss))) rows h = absurd h.1.0
agree (fields (slot (value u) (slot (value t) ss))) rows h = refl

pub conflict : (v : Value) → HasNoRows pair_field (columns_in_conflict v)
unfolding has_value first_column second_column
conflict v [] h e = cc
conflict v (s ∷ rows) h e =
    let a = agree s rows (recursion_from_All (IsOf pair_field) (s ∷ rows) h).0 in
    let b : has_value (first_column (columns_in_conflict v)) ≡ has_value (second_column (columns_in_conflict v)) = subst (λ c. has_value (first_column c) ≡ has_value (second_column c)) e a in
    cc b

list_way : Way
list_way = in_list true (at_leaf true)

first_definition : List Triple → ℕ
first_definition [] = 0
first_definition (t ∷ ts) = t.definition

first_definition-append : (r d k : ℕ) (xs ys : List Triple) → BeginsAt r d k xs → d ≤ first_definition (xs ++ ys)
unfolding first_definition
first_definition-append r d k [] ys h = absurd h
first_definition-append r d k (x ∷ xs) ys h = h.1

column_orphan : (v : Value) (rows : List Slot) → column list_way rows ≡ triple 0 1 None ∷ triple 1 3 (Some v) ∷ [] → ⊥
unfolding shred list_way first_definition
column_orphan v [] e = cc
column_orphan v (items no_slots ∷ rows) e =
    let g : StopsAt 0 (triple 1 3 (Some v) ∷ []) = subst (StopsAt 0) (cons_tail _ _ _ _ e) (StopsAt-rows list_way 0 0 0 (omega arith) rows) in
    omega (arith, g)
column_orphan v (items (slot s ss) ∷ rows) e =
    let g : 2 ≤ first_definition (column list_way (items (slot s ss) ∷ rows)) =
    first_definition-append 0 2 0 _ (column list_way rows) (begins_in_list (at_leaf true) (shred_begins (at_leaf true)) s (list_of ss) 0 2 0) in
    let f : 2 ≤ 1 = subst (λ c. 2 ≤ first_definition c) e g in
    omega (arith, f)
column_orphan v (s ∷ rows) e = let f : ◌≡◌ {A = ℕ} 0 1 = ap first_definition e in omega (arith, f)

pub orphan : (v : Value) → HasNoRows list_field (column_with_orphan v)
unfolding list_way
orphan v rows h e = column_orphan v rows (cons_head _ _ _ _ e)
