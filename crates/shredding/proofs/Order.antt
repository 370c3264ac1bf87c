-- The triples of a column follow one another as they may.
use Rattle.std.proofs.Common.{◌≡◌, ℕ, zero, suc, ◌+◌, ◌<◌, ◌≤◌, Bool, List, [], ◌∷◌, ◌++◌, All, refl, subst, ap, append-nil, arith}
use Rattle.shredding.specs.Laws.{ColumnsAreLocal}
use Rattle.shredding.specs.Local.{IsWithin, inside, MayFollow, MayGoOn, IsInOrder}
use Rattle.shredding.specs.Slot.{Slot, value, items, fields, no_slots, slot, list_of, slot_at}
use Rattle.shredding.specs.Shape.{Way, at_leaf, in_list, in_struct}
use Rattle.shredding.specs.Shred.{Triple, up, shred, column}
use Rattle.shredding.proofs.Levels.{max-up, max_suc-up, levels_are_within}
use Rattle.shredding.proofs.Local.{has_rows}
use Rattle.shredding.proofs.Starts.{le-up}
use Rattle.shredding.proofs.Unique.{rows_along}

-- each triple stands in R to the one before it
abbrev Chain : (Triple → Triple → Type 0) → Triple → List Triple → Type 0
Chain R t [] = Unit {0}
Chain R t (u ∷ us) = R t u × Chain R u us

chain_on : (R S : Triple → Triple → Type 0) (P : Triple → Type 0) → ((t u : Triple) → P t → R t u → S t u × P u) → (rest : List Triple) → ((t : Triple) → P t → Chain S t rest) → (t : Triple) (us : List Triple) → P t → Chain R t us → Chain S t (us ++ rest)
chain_on R S P f rest h t [] p c = h t p
chain_on R S P f rest h t (u ∷ us) p c = let g = f t u p c.0 in (g.0, chain_on R S P f rest h u us g.1 c.1)

-- u goes on with a slot at d levels within k lists, in the list-th list below it
record Link (w : Way) (d k : ℕ) (t u : Triple) : Type 0 where
  list : ℕ
  deeper : 0 < list
  repetition : u.repetition ≡ k + list
  before : d + inside w list ≤ t.definition
  after : d + inside w list ≤ u.definition

-- the triples of a slot that begins with repetition r
abbrev Linked : Way → ℕ → ℕ → ℕ → List Triple → Type 0
Linked w r d k [] = ⊥
Linked w r d k (t ∷ us) = (t.repetition ≡ r) × (d ≤ t.definition) × Chain (Link w d k) t us

child_link : (n : Bool) (i : ℕ) (w : Way) (d k : ℕ) (t u : Triple) → Link w (up n d) k t u → Link (in_struct n i w) d k t u
child_link n i w d k t u h = go h.list refl
  where
    go : (j : ℕ) → h.list ≡ j → Link (in_struct n i w) d k t u
    go zero e = absurd (omega (arith, h.deeper, e))
    go (suc j) e =
        let b : up n d + inside w (suc j) ≤ t.definition = subst (λ j. up n d + inside w j ≤ t.definition) e h.before in
        let a : up n d + inside w (suc j) ≤ u.definition = subst (λ j. up n d + inside w j ≤ u.definition) e h.after in
        record {
          list = suc j;
          deeper = omega arith;
          repetition = omega (arith, h.repetition, e);
          before = omega (arith, b, max-up n d (inside w (suc j)));
          after = omega (arith, a, max-up n d (inside w (suc j)));
        }

item_link : (n : Bool) (w : Way) (d k : ℕ) (t u : Triple) → Link w (suc (up n d)) (suc k) t u → Link (in_list n w) d k t u × (suc (up n d) ≤ u.definition)
item_link n w d k t u h = (
  record {
    list = suc h.list;
    deeper = omega arith;
    repetition = omega (arith, h.repetition);
    before = omega (arith, h.before, max_suc-up n d (inside w h.list));
    after = omega (arith, h.after, max_suc-up n d (inside w h.list));
  },
  omega (arith, h.after),
)

next_item : (n : Bool) (w : Way) (d k : ℕ) (t u : Triple) → suc (up n d) ≤ t.definition → u.repetition ≡ suc k → suc (up n d) ≤ u.definition → Link (in_list n w) d k t u
next_item n w d k t u b r a =
    record { list = 1; deeper = omega arith; repetition = omega (arith, r); before = omega (arith, b, max_suc-up n d 0); after = omega (arith, a, max_suc-up n d 0) }

abbrev Links : Way → Type 0
Links w = (s : Slot) (r d k : ℕ) → Linked w r d k (shred w s r d k)

-- the items after the first
items_chain : (n : Bool) (w : Way) (d k : ℕ) → Links w → (ss : List Slot) (t : Triple) → suc (up n d) ≤ t.definition → Chain (Link (in_list n w) d k) t (rows_along (suc k) (suc (up n d)) (suc k) w ss)
items_chain n w d k l [] t p = tt
items_chain n w d k l (s ∷ ss) t p = one (items_chain n w d k l ss) (shred w s (suc k) (suc (up n d)) (suc k)) (l s (suc k) (suc (up n d)) (suc k))
  where
    one : ((x : Triple) → suc (up n d) ≤ x.definition → Chain (Link (in_list n w) d k) x (rows_along (suc k) (suc (up n d)) (suc k) w ss)) → (xs : List Triple) → Linked w (suc k) (suc (up n d)) (suc k) xs → Chain (Link (in_list n w) d k) t (xs ++ rows_along (suc k) (suc (up n d)) (suc k) w ss)
    one rest [] h = absurd h
    one rest (u ∷ us) h = (
      next_item n w d k t u p h.0 h.1,
      chain_on (Link w (suc (up n d)) (suc k)) (Link (in_list n w) d k) (λ x. suc (up n d) ≤ x.definition) (λ x y q g. item_link n w d k x y g) _ rest u us h.1 h.2,
    )

first_item : (n : Bool) (w : Way) (r d k : ℕ) → Links w → (ss : List Slot) (xs : List Triple) → Linked w r (suc (up n d)) (suc k) xs → Linked (in_list n w) r d k (xs ++ rows_along (suc k) (suc (up n d)) (suc k) w ss)
first_item n w r d k l ss [] h = absurd h
first_item n w r d k l ss (u ∷ us) h = (
  h.0,
  omega (arith, h.1, le-up n d),
  chain_on (Link w (suc (up n d)) (suc k)) (Link (in_list n w) d k) (λ x. suc (up n d) ≤ x.definition) (λ x y q g. item_link n w d k x y g) _ (items_chain n w d k l ss) u us h.1 h.2,
)

child : (n : Bool) (i : ℕ) (w : Way) (r d k : ℕ) (xs : List Triple) → Linked w r (up n d) k xs → Linked (in_struct n i w) r d k xs
child n i w r d k [] h = absurd h
child n i w r d k (t ∷ us) h = (
  h.0,
  omega (arith, h.1, le-up n d),
  subst (Chain (Link (in_struct n i w) d k) t) (append-nil us)
      (chain_on (Link w (up n d) k) (Link (in_struct n i w) d k) (λ x. Unit {0}) (λ x y q g. (child_link n i w d k x y g, tt)) [] (λ x q. tt) t us tt h.2),
)

links : (w : Way) → Links w
unfolding shred
links (at_leaf n) (value v) r d k = (refl, le-up n d, tt)
links (in_list n w) (items no_slots) r d k = (refl, le-up n d, tt)
links (in_list n w) (items (slot s ss)) r d k = first_item n w r d k (links w) (list_of ss) _ (links w s r (suc (up n d)) (suc k))
links (in_struct n i w) (fields ss) r d k = child n i w r d k _ (links w (slot_at ss i) r (up n d) k)
links _ _ r d k = (refl, omega arith, tt)

-- rows

may_follow : (w : Way) (t u : Triple) → Link w 0 0 t u → MayFollow w t u
may_follow w t u h =
    let e : h.list ≡ u.repetition = omega (arith, h.repetition) in
    let b : 0 + inside w u.repetition ≤ t.definition = subst (λ j. 0 + inside w j ≤ t.definition) e h.before in
    let a : 0 + inside w u.repetition ≤ u.definition = subst (λ j. 0 + inside w j ≤ u.definition) e h.after in
    record { before = omega (arith, b); after = omega (arith, a) }

new_row : (w : Way) (t u : Triple) → u.repetition ≡ 0 → MayFollow w t u
new_row w t u e =
    let z : inside w u.repetition ≡ 0 = ap (inside w) e in
    record { before = omega (arith, z); after = omega (arith, z) }

rows_chain : (w : Way) (rows : List Slot) (t : Triple) → Chain (MayFollow w) t (column w rows)
rows_chain w [] t = tt
rows_chain w (s ∷ rows) t = one (rows_chain w rows) (shred w s 0 0 0) (links w s 0 0 0)
  where
    one : ((x : Triple) → Chain (MayFollow w) x (column w rows)) → (xs : List Triple) → Linked w 0 0 0 xs → Chain (MayFollow w) t (xs ++ column w rows)
    one rest [] h = absurd h
    one rest (u ∷ us) h =
        (new_row w t u h.0, chain_on (Link w 0 0) (MayFollow w) (λ x. Unit {0}) (λ x y q g. (may_follow w x y g, tt)) (column w rows) (λ x q. rest x) u us tt h.2)

may_go_on : (w : Way) (t : Triple) (us : List Triple) → Chain (MayFollow w) t us → MayGoOn w t us
may_go_on w t [] c = tt
may_go_on w t (u ∷ us) c = (c.0, may_go_on w u us c.1)

pub in_order : (w : Way) (rows : List Slot) → IsInOrder w (column w rows)
in_order w [] = tt
in_order w (s ∷ rows) = one (shred w s 0 0 0) (links w s 0 0 0)
  where
    one : (xs : List Triple) → Linked w 0 0 0 xs → IsInOrder w (xs ++ column w rows)
    one [] h = absurd h
    one (u ∷ us) h =
        (h.0, may_go_on w u _ (chain_on (Link w 0 0) (MayFollow w) (λ x. Unit {0}) (λ x y q g. (may_follow w x y g, tt)) (column w rows) (λ x q. rows_chain w rows x) u us tt h.2))

pub columns_are_local : ColumnsAreLocal
columns_are_local w ts = (
  (λ h. has_rows w ts h.0 h.1),
  (λ h. (subst (All (IsWithin w)) h.2 (levels_are_within w h.0 h.1), subst (IsInOrder w) h.2 (in_order w h.0))),
)
